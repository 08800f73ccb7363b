-- Items of `members`, `member-of` and `mbrs-by-ref`, and maintainers' names (RFC 2622, 5): for the
-- reading of objects.
use Rattle.std.specs.Prelude.{ℕ, Bool, true, false, ◌==◌, is_some, List, Option, Some, None}
use Rattle.std.specs.Prelude.{if◌then◌else◌}
use Rattle.std.specs.List.{before_first}
use Rattle.std.specs.Option.{option_map, option_and_then}
use Rattle.rr_number.specs.declared.operator.Operator.TheVariants.{Plain}
use Rattle.rr_number.specs.Names.{maintainer_name_of}
use Rattle.rr_number.specs.AsNumbers.{as_number_of}
use Rattle.rr_bytes.specs.Cuts.{from_first}
use Rattle.rr_number.specs.Operators.{caret, operator_of}
use Rattle.rr_number.specs.SetNames.{set_name_of, kind_of}
use Rattle.rr_number.specs.declared.set_kind.SetKind.{SetKind}
use Rattle.rr_number.specs.declared.set_kind.SetKind.TheVariants.{AsSet, RouteSet}
use Rattle.rr_object.specs.declared.member.Member.{Member}
use Rattle.rr_object.specs.declared.member.MemberSet.{MemberSet}
use Rattle.rr_object.specs.declared.member.Member.TheVariants as member
use Rattle.rr_object.specs.declared.member.MemberSet.TheVariants.{AutNum, Set}
use Rattle.rr_object.specs.Grants.{is_any, range_item}

-- a maintainer's name (RFC 2622, 2)
abbrev pub maintainer_item : List ℕ → Option (Option (List ℕ))
maintainer_item item = option_map Some (maintainer_name_of item)

-- a set's name, also `AS-ANY` and `RS-ANY` (RFC 2622, 5)
abbrev pub set_item : List ℕ → Option (Option (List ℕ))
set_item item = option_map Some (set_name_of item)

-- a maintainer's name, or `ANY`, which is none (RFC 2622, 5)
abbrev pub by_ref_item : List ℕ → Option (Option (List ℕ))
by_ref_item item = if is_any item then Some None else maintainer_item item

-- the kind of as-sets (RFC 2622, 5)
abbrev pub is_as_set_kind : SetKind → Bool
is_as_set_kind AsSet = true
is_as_set_kind RouteSet = false

-- an AS number, or a set's name (RFC 2622, 5)
unfoldable pub member_set_of : List ℕ → Option MemberSet
member_set_of item =
    if is_some (as_number_of item) then option_map AutNum (as_number_of item)
    else option_map Set (set_name_of item)

-- as-sets list AS numbers and as-sets (RFC 2622, 5)
abbrev pub is_in_as_sets : MemberSet → Bool
is_in_as_sets (AutNum number) = true
is_in_as_sets (Set name) = is_as_set_kind (kind_of name)

-- an item of an as-set: an AS number, or an as-set's name, `AS-ANY` among them; no operator
-- (RFC 2622, 5)
unfoldable pub as_set_item : List ℕ → Option (Option Member)
as_set_item item =
    option_and_then (λ set. if is_in_as_sets set then Some (Some (member.Set set Plain)) else None)
    (member_set_of item)

-- an AS number or a set's name, with an operator or none (RFC 2622, 5)
unfoldable pub operated_set : List ℕ → Option Member
operated_set item =
    option_and_then
    (λ set. option_map (member.Set set) (operator_of (from_first caret item)))
    (member_set_of (before_first (λ b. b == caret) item))

-- an item of a route-set: a range, which may be dropped; or an AS number or a set's name, with an
-- operator or none (RFC 2622, 5)
unfoldable pub route_set_item : List ℕ → Option (Option Member)
route_set_item item =
    if is_some (range_item item) then option_map (option_map member.Range) (range_item item)
    else option_map Some (operated_set item)
