-- A registry as a list of objects in the order of their keys: for `Keeper::of`, for the list of the
-- plain book, and for `rr_index`.
use Rattle.std.specs.Prelude.{◌≡◌, Bool, true, not, List, [], ◌∷◌, Option, filter, find, map}
use Rattle.std.specs.FinMap.{from_sorted, is_sorted}
use Rattle.std.specs.FinMap.Entries.{by_order}
use Rattle.std.specs.Ordering.{eq_by_cmp}
use Rattle.rr_object.specs.declared.key.Key.{Key}
use Rattle.rr_object.specs.Objects.{Obj}
use Rattle.rr_object.specs.KeyOrders.{key_cmp}
use Rattle.rr_auth.specs.Registries.{Reg, Sound}

-- An object's key with the object, as a registry has them.
abbrev pub entry : Obj → Key × Obj
entry o = (o.key, o)

-- The keys of the objects strictly rise, by class and then by key (profile).
abbrev pub is_in_order : List Obj → Bool
is_in_order os = is_sorted key_cmp (map entry os)

-- The object of a key among objects, the first of them if there are several.
abbrev pub object_at : List Obj → Key → Option Obj
object_at os key = find (λ o. eq_by_cmp key_cmp key o.key) os

-- The objects without those of a key.
abbrev pub left_without : Key → List Obj → List Obj
left_without key os = filter (λ o. not (eq_by_cmp key_cmp key o.key)) os

-- The registry of objects that stand in the order of their keys, each under its own.
abbrev pub book_of : List Obj → Reg
book_of os = from_sorted (map entry os)

-- A list of objects in order whose registry is sound.
pub record IsBook (os : List Obj) : Type 0 where
  pub ordered : is_in_order os ≡ true
  pub sound : Sound (book_of os)

-- Objects in the order of their keys with one put into its place, instead of one of its key that
-- stood there.
abbrev pub put_in : Obj → List Obj → List Obj
put_in o [] = o ∷ []
put_in o (x ∷ xs) =
    by_order (key_cmp o.key x.key) (o ∷ (x ∷ xs)) (o ∷ xs) (x ∷ put_in o xs)
