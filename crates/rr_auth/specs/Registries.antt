-- A registry: a finite map from keys to objects, and when it is sound.
use Rattle.std.specs.Prelude.{◌≡◌, ℕ, Bool, false, not, ◌&&◌, List, Option, None, Some}
use Rattle.std.specs.Prelude.{IfOk, Result, is_none}
use Rattle.std.specs.List.{list_any}
use Rattle.std.specs.FinMap.{FinMap, get, insert, values}
use Rattle.rr_number.specs.Spans.{crosses}
use Rattle.rr_object.specs.declared.key.Key.{Key}
use Rattle.rr_object.specs.declared.key.Key.TheVariants.{Mntner, AsBlock, Inetnum}
pub use Rattle.rr_object.specs.Keys.{is_mntner_of}
use Rattle.rr_object.specs.Objects.{Obj, names_of, object_names}
use Rattle.rr_object.specs.KeyOrders.{IsKeyValue, key_cmp}

-- A registry is a finite map from keys to objects: it has at most one object under a key.
abbrev pub Reg : Type 0
Reg = FinMap key_cmp Obj

-- The maintainer of a name is the mntner whose key it is (RFC 2622, 3).
abbrev pub maintainer : Reg → List ℕ → Option Obj
maintainer r name = get r (Mntner name)

-- Some name of the list has no mntner in the registry.
abbrev pub some_is_unknown : Reg → List (List ℕ) → Bool
some_is_unknown r names = list_any (λ n. is_none (maintainer r n)) names

-- A registry with an object in it, where that is a mntner, and else as it is: so a mntner that is
-- added sees itself (profile).
abbrev pub with_mntner : Reg → Key → Obj → Reg
with_mntner r (Mntner name) o = insert r (Mntner name) o
with_mntner r _ o = r

-- The registry that an object is judged in: with itself, where it is a mntner that is added, and
-- else as it is.
abbrev pub seen_by : Option Obj → Reg → Reg
seen_by None r = r
seen_by (Some o) r = with_mntner r o.key o

-- Two keys cross where both are inetnums, or both as-blocks, whose spans cross (profile).
abbrev pub keys_cross : Key → Key → Bool
keys_cross (AsBlock s) (AsBlock t) = crosses s t
keys_cross (Inetnum s) (Inetnum t) = crosses s t
keys_cross _ _ = false

-- Some object of a list crosses this key (profile).
abbrev pub is_crossed_by_some : Key → List Obj → Bool
is_crossed_by_some k os = list_any (λ o. keys_cross o.key k) os

-- An object other than the maintainer of this name names that maintainer.
abbrev pub is_other_naming : List ℕ → Obj → Bool
is_other_naming name o = not (is_mntner_of name o.key) && object_names name o

-- Some object of the registry, other than the maintainer of this name, names that maintainer.
abbrev pub is_named : Reg → List ℕ → Bool
is_named r name = list_any (is_other_naming name) (values r)

-- A registry is sound where each object stands under its own key, each key is well formed, every
-- maintainer that an object names is in it, and no two inetnums and no two as-blocks cross
-- (profile).
pub record Sound (r : Reg) : Type 0 where
  pub keyed : (k : Key) (o : Obj) → get r k ≡ Some o → o.key ≡ k
  pub formed : (k : Key) (o : Obj) → get r k ≡ Some o → IsKeyValue k
  pub named : (k : Key) (o : Obj) → get r k ≡ Some o → some_is_unknown r (names_of o) ≡ false
  pub apart : (k l : Key) (o x : Obj) → get r k ≡ Some o → get r l ≡ Some x
      → keys_cross k l ≡ false

-- What is looked up is the object under the key, if there is one, and the registry is sound
-- (profile).
pub record LooksUp (r : Reg) (k : Key) (object : Option Obj) : Type 0 where
  pub found : object ≡ get r k
  pub sound : Sound r

-- What is listed has this property, unless memory runs out, and the registry that it is listed of
-- is sound (profile).
pub record ListsOf {X E : Type 0} (r : Reg) (P : X → Type 0) (result : Result X E) : Type 0 where
  pub all : IfOk result P
  pub sound : Sound r
