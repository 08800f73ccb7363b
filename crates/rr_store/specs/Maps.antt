-- The rows of a finite map of objects, of a list of them, and of such a list in tables of version
-- 1. All contracts that say which objects tables hold cite these.
use Rattle.std.specs.Prelude.{◌≡◌, ◌≢◌, ℕ, true, List, [], ◌∷◌, Option, Some}
use Rattle.std.specs.Prelude.{Ok, codes, map, is_some, unwrap_or}
use Rattle.std.specs.List.{AllByRecursion}
use Rattle.std.specs.declared.cmp.Ordering.TheVariants.{Less}
use Rattle.std.specs.FinMap.{FinMap, get, insert, remove, values}
use Rattle.sqlite_value.specs.Order.{Row}
use Rattle.sqlite_trees.specs.Tree.{IsAscending}
use Rattle.sqlite.specs.Effect.{Database}
use Rattle.rr_text.specs.Fields.{AreFields}
use Rattle.rr_object.specs.declared.key.Key.{Key}
use Rattle.rr_object.specs.KeyOrders.{IsKeyValue, key_cmp}
use Rattle.rr_object.specs.KeyTexts.{key_bytes}
use Rattle.rr_object.specs.Objects.{Obj}
use Rattle.rr_object.specs.OldKeys.{old_key_bytes}
use Rattle.rr_object.specs.Readings.{ReadsAs, obj_of}
use Rattle.rr_store.specs.Contents.{meta_row, meta_rows}
use Rattle.rr_store.specs.Entries.{StoredEntry, AreRowsOf, entry_of, object_row}
use Rattle.rr_store.specs.Tables.{meta_tree}

-- `meta` has one row, `version` and this value (profile)
abbrev pub HasVersion : List ℕ → Database → Type 0
HasVersion version db = meta_rows (db.trees meta_tree) ≡ meta_row (codes "version") version ∷ []

-- 2, the version of tables whose keys have AS numbers of four octets, in eight hexadecimal digits
-- (profile)
abbrev pub current_version : List ℕ
current_version = codes "2"

-- 1, the version of tables whose keys have AS numbers of two octets, in four hexadecimal digits
-- (profile)
abbrev pub old_version : List ℕ
old_version = codes "1"

-- the tables hold the rows of these entries and no others, and are of version 2 (profile)
pub record IsFilled (entries : List StoredEntry) (db : Database) : Type 0 where
  pub rows : AreRowsOf entries db
  pub version : HasVersion current_version db

-- an object as readers make it: its attributes are well formed, and it is what they read as,
-- whichever source they name (RFC 2622, 2 to 6; RFC 2725, 10)
pub record IsObject (object : Obj) : Type 0 where
  pub fields : AreFields object.paragraph
  pub read : obj_of object.paragraph ≡ Ok object

-- an object as readers make it in a registry of this source: its attributes are well formed, and it
-- is what they read as there
pub record IsObjectOf (source : List ℕ) (object : Obj) : Type 0 where
  pub fields : AreFields object.paragraph
  pub read : ReadsAs source object.paragraph object

-- the tables hold the rows of some objects, which are such as readers make, and no others
pub record AreOfObjects (db : Database) : Type 0 where
  pub objects : List Obj
  pub read : AllByRecursion IsObject objects
  pub rows : AreRowsOf (map entry_of objects) db

-- where a row of `object` is that of an object, these are the maintainers that it names, each once
abbrev pub AreNamesOf : List (List ℕ) → Row → Type 0
AreNamesOf names row = (object : Obj) → IsObject object → row ≡ object_row (entry_of object)
    → names ≡ (entry_of object).names

-- each object of a finite map stands under its own key, and the keys and objects are such as
-- readers make
pub record IsKeyed (objects : FinMap key_cmp Obj) : Type 0 where
  pub keyed : (k : Key) (o : Obj) → get objects k ≡ Some o → o.key ≡ k
  pub formed : (k : Key) (o : Obj) → get objects k ≡ Some o → IsKeyValue k
  pub read : (k : Key) (o : Obj) → get objects k ≡ Some o → IsObject o

-- the tables hold the rows of the objects of a finite map and no others, and are of version 2. Each
-- object stands under its own key, and both are such as readers make (profile)
pub record HasRows (objects : FinMap key_cmp Obj) (db : Database) : Type 0 where
  pub keyed : IsKeyed objects
  pub rows : AreRowsOf (map entry_of (values objects)) db
  pub version : HasVersion current_version db

-- where the tables hold a finite map of objects, they hold it with the object under this key after
-- the change
abbrev pub Puts : Key → Obj → Database → Database → Type 0
Puts key object old new = (objects : FinMap key_cmp Obj) → HasRows objects old
    → HasRows (insert objects key object) new

-- where the tables hold a finite map of objects, they hold it without the object of this key after
-- the change
abbrev pub TakesOut : Key → Database → Database → Type 0
TakesOut key old new =
    (objects : FinMap key_cmp Obj) → HasRows objects old → HasRows (remove objects key) new

-- no two objects of a list have the same key
abbrev pub AreApart : List Obj → Type 0
AreApart = IsAscending (λ a b. a.key ≢ b.key)

-- the objects of a list stand in the order of their classes, then of their keys, and no two have
-- the same key (profile)
abbrev pub AreInOrder : List Obj → Type 0
AreInOrder = IsAscending (λ a b. key_cmp a.key b.key ≡ Less)

-- the keys of tables as texts, for those keys that have one
abbrev pub KeyForm : Type 0
KeyForm = Key → Option (List ℕ)

-- what the tables keep of an object, with its key in this form, or empty if it has none there
abbrev pub entry_in : KeyForm → Obj → StoredEntry
entry_in form object = record (entry_of object) { key = unwrap_or (form object.key) [] }

-- the tables hold the rows of a list of objects of one source and no others, with keys in this
-- form, and their version has this text. No two of the objects have the same key, and each key has
-- a text in this form (profile)
pub record AreStoredIn (form : KeyForm) (text : List ℕ) (source : List ℕ) (objects : List Obj)
    (db : Database) : Type 0 where
  pub rows : AreRowsOf (map (entry_in form) objects) db
  pub version : HasVersion text db
  pub formed : AllByRecursion (λ o. is_some (form o.key) ≡ true) objects
  pub of_source : AllByRecursion (IsObjectOf source) objects
  pub apart : AreApart objects

-- the text of a key in tables of version 2, which every key has (profile)
abbrev pub current_form : KeyForm
current_form key = Some (key_bytes key)

-- the tables are those of version 2 and hold the rows of these objects and no others. All are of
-- one source, and no two have the same key (profile)
abbrev pub AreStored : List ℕ → List Obj → Database → Type 0
AreStored = AreStoredIn current_form current_version

-- the tables are those of version 1 and hold the rows of these objects and no others. All are of
-- one source, no two have the same key, and each key has a text there (profile)
abbrev pub AreOldStored : List ℕ → List Obj → Database → Type 0
AreOldStored = AreStoredIn old_key_bytes old_version
