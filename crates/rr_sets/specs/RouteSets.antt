-- Which ranges of prefixes a set stands for: for `expand_route_set`.
use Rattle.std.specs.Prelude.{◌≡◌, ℕ, ◌⊎◌, ◌↔◌, Bool, false, ◌||◌, List, Contains}
use Rattle.std.specs.Prelude.{IsTrue, None, Option, Some, is_some}
use Rattle.std.specs.FinMap.{get}
use Rattle.std.specs.Str.{bytes_eq}
use Rattle.rr_auth.specs.Registries.{LooksUp, Reg}
use Rattle.rr_graph.specs.Carried as carried
use Rattle.rr_graph.specs.declared.labels.Edge.{Edge}
use Rattle.rr_number.specs.AnySets.{as_any, rs_any}
use Rattle.rr_number.specs.Applied.{applied}
use Rattle.rr_number.specs.Prefixes.{PrefixParts}
use Rattle.rr_number.specs.Ranges.{RangeParts, bare}
use Rattle.rr_number.specs.SetNames.{kind_of}
use Rattle.rr_number.specs.declared.operator.Operator.{Operator}
use Rattle.rr_number.specs.declared.operator.Operator.TheVariants.{Plain}
use Rattle.rr_number.specs.declared.set_kind.SetKind.{SetKind}
use Rattle.rr_number.specs.declared.set_kind.SetKind.TheVariants.{AsSet, RouteSet}
use Rattle.rr_object.specs.Keys.{key_of_kind}
use Rattle.rr_object.specs.Objects.{Obj}
use Rattle.rr_object.specs.Parts.{ByRefParts}
use Rattle.rr_object.specs.declared.key.Key.TheVariants as key
use Rattle.rr_object.specs.declared.member.Member.TheVariants as member
use Rattle.rr_object.specs.declared.member.MemberSet.{MemberSet}
use Rattle.rr_object.specs.declared.member.MemberSet.TheVariants.{AutNum, Set}
use Rattle.rr_sets.specs.AsSets.{IsDirect, ListsSet}
use Rattle.rr_sets.specs.SetObjects.{takes}

-- The registered set of a name (RFC 2622, 5).
abbrev pub registered_set : Reg → List ℕ → Option Obj
registered_set r name = get r (key_of_kind (kind_of name) name)

-- What a look-up in a sound registry finds of a set is the registered set of its name; of an AS it
-- finds nothing (profile).
abbrev pub FindsSet : Reg → MemberSet → Option Obj → Type 0
FindsSet r (AutNum n) object = object ≡ None
FindsSet r (Set name) object = LooksUp r (key_of_kind (kind_of name) name) object

-- There is a set of the name: it is registered, or the name is `AS-ANY` or `RS-ANY` (RFC 2622, 5).
abbrev pub has_set : Reg → List ℕ → Bool
has_set r name = is_some (registered_set r name) || (bytes_eq name as_any || bytes_eq name rs_any)

-- An as-set refers to the ASes that are in it itself and to the sets that it lists, with no
-- operator (RFC 2622, 5).
abbrev pub AsSetRefers : Reg → List ℕ → MemberSet → Operator → Type 0
AsSetRefers r name (AutNum n) operator = IsDirect r name n × (operator ≡ Plain)
AsSetRefers r name (Set listed) operator = ListsSet r name listed × (operator ≡ Plain)

-- A registered route-set refers to the ASes and sets in its `members`, each with its operator
-- (RFC 2622, 5).
abbrev pub RouteSetRefers : Reg → List ℕ → MemberSet → Operator → Type 0
RouteSetRefers r name other operator = (o : Obj) × (get r (key.RouteSet name) ≡ Some o)
    × Contains o.members (member.Set other operator)

-- What a named set refers to, by its kind (RFC 2622, 5).
abbrev pub RefersAs : SetKind → Reg → List ℕ → MemberSet → Operator → Type 0
RefersAs AsSet r name other operator = AsSetRefers r name other operator
RefersAs RouteSet r name other operator = RouteSetRefers r name other operator

-- A set refers to another under an operator; an AS, as the set of its routes, refers to none
-- (RFC 2622, 5).
abbrev pub Refers : Reg → MemberSet → MemberSet → Operator → Type 0
Refers r (AutNum n) other operator = ⊥
Refers r (Set name) other operator = RefersAs (kind_of name) r name other operator

-- A list has exactly the references of a set.
abbrev pub AreReferences : Reg → MemberSet → List (Edge MemberSet Operator) → Type 0
AreReferences r set references = (other : MemberSet) (operator : Operator)
    → Contains references (record { to = other; label = operator }) ↔ Refers r set other operator

-- A route of the AS is registered, and the range is that of its prefix alone (RFC 2622, 5).
abbrev pub IsOriginated : Reg → ℕ → RangeParts → Type 0
IsOriginated r n range = (prefix : PrefixParts) × (o : Obj)
    × (get r (key.Route prefix n) ≡ Some o) × (range ≡ bare prefix)

-- A registered set has the range in its `members` (RFC 2622, 5).
abbrev pub ListsRange : Reg → List ℕ → RangeParts → Type 0
ListsRange r name range =
    (o : Obj) × (registered_set r name ≡ Some o) × Contains o.members (member.Range range)

-- A registered route names the set in its `member-of`, and `mbrs-by-ref` takes its word; the range
-- is that of its prefix alone (RFC 2622, 5; that an as-set takes routes: profile).
abbrev pub IsRangeTaken : Reg → ByRefParts → List ℕ → RangeParts → Type 0
IsRangeTaken r by_ref name range = (prefix : PrefixParts) × (n : ℕ) × (route : Obj)
    × (get r (key.Route prefix n) ≡ Some route) × Contains route.member_of name
    × IsTrue (takes by_ref route) × (range ≡ bare prefix)

-- A registered set has the range of a route that belongs to it by the route's own word (RFC 2622,
-- 5; that an as-set takes routes: profile).
abbrev pub IsByReference : Reg → List ℕ → RangeParts → Type 0
IsByReference r name range =
    (o : Obj) × (registered_set r name ≡ Some o) × IsRangeTaken r o.by_ref name range

-- The name is `RS-ANY`, and the range that of a registered route's prefix alone (RFC 2622, 5).
abbrev pub IsAnyRange : Reg → List ℕ → RangeParts → Type 0
IsAnyRange r name range = IsTrue (bytes_eq name rs_any) × ((n : ℕ) × IsOriginated r n range)

-- A set has the ranges itself that it lists. It has those of the prefixes alone of the routes that
-- belong to it by their own word, and `RS-ANY` those of all routes. An AS has those of its routes
-- (RFC 2622, 5).
abbrev pub HasRange : Reg → MemberSet → RangeParts → Type 0
HasRange r (AutNum n) range = IsOriginated r n range
HasRange r (Set name) range =
    ListsRange r name range ⊎ (IsByReference r name range ⊎ IsAnyRange r name range)

-- A range is in the set of a name: some chain of references, which may be empty, leads from there
-- to a set or AS that has a range itself. The operators of the chain, from the last to the first,
-- make this range of it (RFC 2622, 5).
abbrev pub InRouteSet : Reg → List ℕ → RangeParts → Type 0
InRouteSet r start range = carried.IsFound (Refers r) (HasRange r) applied (Set start) range

-- A chain of references, which may be empty, leads from the set of the name to this set or AS
-- (RFC 2622, 5).
abbrev pub LeadsToSet : Reg → List ℕ → MemberSet → Type 0
LeadsToSet r start set = carried.IsReachedFrom (Refers r) (Set start) set

-- A chain of references, which may be empty, leads from a set to a name of which there is no set
-- (profile).
abbrev pub IsMissingName : Reg → List ℕ → List ℕ → Type 0
IsMissingName r start name = LeadsToSet r start (Set name) × (has_set r name ≡ false)

-- References lead to more than `limit` sets and ASes, the set itself among them, or to more than
-- `limit` pairs of one of these and a range that it stands for (profile).
abbrev pub HasTooMany : Reg → ℕ → List ℕ → Type 0
HasTooMany r limit start = carried.IsTooMany (Refers r) (HasRange r) applied limit (Set start)
