-- Which AS numbers an as-set stands for: for `expand_as_set`, and as-sets in `RouteSets`.
use Rattle.std.specs.Prelude.{◌≡◌, ℕ, Bool, ◌||◌, List, [], ◌∷◌, Contains, IsTrue}
use Rattle.std.specs.Prelude.{Some, false, is_some}
use Rattle.std.specs.FinMap.{get}
use Rattle.std.specs.Str.{bytes_eq}
use Rattle.std.specs.Prelude.{◌⊎◌}
use Rattle.rr_auth.specs.Registries.{Reg}
use Rattle.rr_graph.specs.Chain.{IsReached}
use Rattle.rr_number.specs.AnySets.{as_any}
use Rattle.rr_object.specs.Objects.{Obj}
use Rattle.rr_object.specs.declared.key.Key.TheVariants.{AutNum, AsSet}
use Rattle.rr_object.specs.declared.member.Member.{Member}
use Rattle.rr_sets.specs.SetObjects.{set_listed, number_listed, takes}

-- A registered as-set lists the name of a set (RFC 2622, 5).
abbrev pub ListsSet : Reg → List ℕ → List ℕ → Type 0
ListsSet r name listed = (o : Obj) × (get r (AsSet name) ≡ Some o)
    × ((m : Member) × Contains o.members m × (set_listed m ≡ Some listed))

-- A registered as-set lists an AS number (RFC 2622, 5).
abbrev pub ListsNumber : Reg → List ℕ → ℕ → Type 0
ListsNumber r name n = (o : Obj) × (get r (AsSet name) ≡ Some o)
    × ((m : Member) × Contains o.members m × (number_listed m ≡ Some n))

-- The aut-num of a number says that it belongs to a registered as-set, which takes its word
-- (RFC 2622, 5).
abbrev pub BelongsTo : Reg → List ℕ → ℕ → Type 0
BelongsTo r name n = (o : Obj) × (get r (AsSet name) ≡ Some o) × ((a : Obj)
    × (get r (AutNum n) ≡ Some a) × Contains a.member_of name × IsTrue (takes o.by_ref a))

-- The name is `AS-ANY`, and the number has an aut-num (RFC 2622, 5).
abbrev pub IsAnyNumber : Reg → List ℕ → ℕ → Type 0
IsAnyNumber r name n = IsTrue (bytes_eq name as_any) × ((a : Obj) × (get r (AutNum n) ≡ Some a))

-- An AS number is in the set of this name itself: it is listed there, belongs to it by its
-- aut-num's word, or the set is `AS-ANY` and the number has an aut-num (RFC 2622, 5).
abbrev pub IsDirect : Reg → List ℕ → ℕ → Type 0
IsDirect r name n = ListsNumber r name n ⊎ (BelongsTo r name n ⊎ IsAnyNumber r name n)

-- A chain of listed names, which may be empty, leads from one set to another (RFC 2622, 5).
abbrev pub IsReachedSet : Reg → List ℕ → List ℕ → Type 0
IsReachedSet r start name = IsReached (ListsSet r) (start ∷ []) name

-- An AS number is in an as-set: a chain of listed names, which may be empty, leads from that to a
-- set in which the number is itself (RFC 2622, 5).
abbrev pub InAsSet : Reg → List ℕ → ℕ → Type 0
InAsSet r start n = (name : List ℕ) × IsReachedSet r start name × IsDirect r name n

-- There is an as-set of the name: it is registered, or the name is `AS-ANY` (RFC 2622, 5).
abbrev pub has_as_set : Reg → List ℕ → Bool
has_as_set r name = is_some (get r (AsSet name)) || bytes_eq name as_any

-- A chain of listed names, which may be empty, leads from a set to a name of which there is no
-- as-set (profile).
abbrev pub IsMissing : Reg → List ℕ → List ℕ → Type 0
IsMissing r start name = IsReachedSet r start name × (has_as_set r name ≡ false)
