-- Keys of objects, under the sets that these objects name in their `member-of`: for `SetIndex`,
-- which each book keeps.
use Rattle.std.specs.Prelude.{◌≡◌, ℕ, Bool, false, not, ◌&&◌, ◌||◌, List, OnErr, OnOk, Result}
use Rattle.std.specs.BTreeMap.{BTreeMap, get as keys_at}
use Rattle.std.specs.BTreeSet.{BTreeSet, contains}
use Rattle.std.specs.Cmp.Lexicographic.{slice_cmp}
use Rattle.std.specs.FinMap.{get}
use Rattle.std.specs.Option.{option_map_or}
use Rattle.std.specs.Ordering.{eq_by_cmp, nat_cmp}
use Rattle.rr_object.specs.declared.key.Key.{Key}
use Rattle.rr_object.specs.KeyOrders.{key_cmp}
use Rattle.rr_object.specs.Objects.{Obj}
use Rattle.rr_auth.specs.Registries.{Reg}
use Rattle.rr_book.specs.Books.{IsBook, book_of}
use Rattle.rr_book.specs.SetLists.{names_set}

-- Whether the key stands under the set of the name.
abbrev pub stands_under : BTreeMap (List ℕ) (BTreeSet Key) → List ℕ → Key → Bool
stands_under sets name key =
    option_map_or (λ keys. contains key_cmp keys key) (keys_at (slice_cmp nat_cmp) sets name) false

-- Whether the key is the object's, and the object names the set in its `member-of`, and this set is
-- not left out (profile).
abbrev pub is_meant : Obj → (List ℕ → Bool) → List ℕ → Key → Bool
is_meant o is_left_out name key =
    eq_by_cmp key_cmp o.key key && (names_set name o && not (is_left_out name))

-- The same keys stand under each set.
abbrev pub HasSameKeys : BTreeMap (List ℕ) (BTreeSet Key)
    → BTreeMap (List ℕ) (BTreeSet Key) → Type 0
HasSameKeys old new = (name : List ℕ) (key : Key)
    → stands_under new name key ≡ stands_under old name key

-- The keys under sets change in a given way; or, where memory runs out, the same keys stand under
-- each set as before (profile).
pub record MayChange {X E : Type 0} (Changes : BTreeMap (List ℕ) (BTreeSet Key)
    → BTreeMap (List ℕ) (BTreeSet Key) → Type 0) (old new : BTreeMap (List ℕ) (BTreeSet Key))
    (result : Result X E) : Type 0 where
  pub ok : OnOk result (Changes old new)
  pub err : OnErr result (HasSameKeys old new)

-- The object's key is added under each set that it names, save those that are left out, and nothing
-- else changes (profile).
abbrev pub HasAdded : Obj → (List ℕ → Bool) → BTreeMap (List ℕ) (BTreeSet Key)
    → BTreeMap (List ℕ) (BTreeSet Key) → Type 0
HasAdded o is_left_out old new = (name : List ℕ) (key : Key)
    → stands_under new name key ≡ (stands_under old name key || is_meant o is_left_out name key)

-- The object's key is taken from under each set that it names, save those that are left out, and
-- nothing else changes (profile).
abbrev pub HasTaken : Obj → (List ℕ → Bool) → BTreeMap (List ℕ) (BTreeSet Key)
    → BTreeMap (List ℕ) (BTreeSet Key) → Type 0
HasTaken o is_left_out old new = (name : List ℕ) (key : Key) → stands_under new name key
    ≡ (stands_under old name key && not (is_meant o is_left_out name key))

-- Under a set stand the keys of the registered objects that name it in their `member-of`, and no
-- others (RFC 2622, 5).
abbrev pub HasReferrers : Reg → BTreeMap (List ℕ) (BTreeSet Key) → Type 0
HasReferrers r sets = (name : List ℕ) (key : Key)
    → stands_under sets name key ≡ option_map_or (names_set name) (get r key) false

-- Objects in order whose registry is sound, and under each set the keys of exactly those that name
-- it (profile).
pub record IsIndexed (os : List Obj) (sets : BTreeMap (List ℕ) (BTreeSet Key)) : Type 0 where
  pub book : IsBook os
  pub referrers : HasReferrers (book_of os) sets
