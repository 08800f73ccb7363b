-- When a list of objects can be taken as a registry, and otherwise what is the matter with it: for
-- `Registry::from_objects`, and for desks that are opened, loaded or migrated.
use Rattle.std.specs.Prelude.{◌≡◌, ℕ, ◌+◌, Bool, ◌⊎◌, List, [], ◌∷◌}
use Rattle.std.specs.Prelude.{◌++◌, Option, None, Some, position, if◌then◌else◌}
use Rattle.std.specs.List.{list_any}
use Rattle.std.specs.Option.{option_map, option_or}
use Rattle.std.specs.Ordering.{eq_by_cmp}
use Rattle.std.specs.FinMap.{empty, insert}
use Rattle.rr_object.specs.declared.key.Key.{Key}
use Rattle.rr_object.specs.KeyOrders.{key_cmp}
use Rattle.rr_object.specs.Objects.{Obj, names_of}
use Rattle.rr_auth.specs.Registries.{Reg, is_crossed_by_some, some_is_unknown}
use Rattle.rr_registry.specs.declared.load.LoadFault.{LoadFault}
use Rattle.rr_registry.specs.declared.load.LoadFault.TheVariants.{Duplicate, Overlap, Unnamed}
use Rattle.rr_registry.specs.declared.load.LoadFault.TheVariants.{Memory}

-- The registry with the objects of a list put in, in turn.
abbrev pub gathered : Reg → List Obj → Reg
gathered r [] = r
gathered r (o ∷ os) = gathered (insert r o.key o) os

-- Some object of a list has this key.
abbrev pub is_key_of_some : Key → List Obj → Bool
is_key_of_some k os = list_any (λ o. eq_by_cmp key_cmp k o.key) os

-- The clash of an object that is the n-th of a list: some object before it has its key, or else one
-- before it crosses it (profile).
abbrev pub clash_of : List Obj → ℕ → Obj → Option LoadFault
clash_of before n o =
    if is_key_of_some o.key before then Some (Duplicate n)
    else (if is_crossed_by_some o.key before then Some (Overlap n) else None)

-- The first clash of the objects of a list that comes after other objects, the first of the list
-- being the n-th (profile).
abbrev pub clash : List Obj → ℕ → List Obj → Option LoadFault
clash before n [] = None
clash before n (o ∷ os) = option_or (clash_of before n o) (clash (before ++ o ∷ []) (n + 1) os)

-- The fault of the first object of a list that names a maintainer who is not in the registry
-- (profile).
abbrev pub unnamed : Reg → List Obj → Option LoadFault
unnamed r os = option_map (λ i. Unnamed (i + 1)) (position (λ o. some_is_unknown r (names_of o)) os)

-- What is the matter with a list of objects, counted from 1. A key that stands twice or spans that
-- cross come first, then a maintainer who is not in the list (profile).
abbrev pub load_fault : List Obj → Option LoadFault
load_fault os = option_or (clash [] 1 os) (unnamed (gathered empty os) os)

-- A list of objects without a fault was taken whole as a registry.
pub record IsTaken (os : List Obj) (r : Reg) : Type 0 where
  pub faultless : load_fault os ≡ None
  pub whole : r ≡ gathered empty os

-- The fault is the list's, or memory ran out.
abbrev pub IsFaultOf : List Obj → LoadFault → Type 0
IsFaultOf os fault = (fault ≡ Memory) ⊎ (load_fault os ≡ Some fault)
