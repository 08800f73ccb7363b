-- Members as ranges, and as edges with operators: for `ranges`, `references` and `route_sets`.
use Rattle.std.specs.Prelude.{ℕ, List, Option, None, Some, if◌then◌else◌}
use Rattle.rr_auth.specs.Registries.{Reg}
use Rattle.rr_graph.specs.declared.labels.Edge.{Edge}
use Rattle.rr_number.specs.Ranges.{RangeParts}
use Rattle.rr_number.specs.declared.operator.Operator.{Operator}
use Rattle.rr_number.specs.declared.operator.Operator.TheVariants.{Plain}
use Rattle.rr_object.specs.declared.member.Member.{Member}
use Rattle.rr_object.specs.declared.member.Member.TheVariants as member
use Rattle.rr_object.specs.declared.member.MemberSet.{MemberSet}
use Rattle.rr_object.specs.declared.member.MemberSet.TheVariants.{AutNum, Set}
use Rattle.rr_sets.specs.RouteSets.{has_set}

-- a member that is a range
abbrev pub range_listed : Member → Option RangeParts
range_listed (member.Range range) = Some range
range_listed (member.Set set operator) = None

-- a member that is an AS or a set, as a reference with its operator
abbrev pub reference_of : Member → Option (Edge MemberSet Operator)
reference_of (member.Range r) = None
reference_of (member.Set set operator) = Some (record { to = set; label = operator })

-- a reference to an AS, without operator
abbrev pub number_reference : ℕ → Edge MemberSet Operator
number_reference n = record { to = AutNum n; label = Plain }

-- a reference to a set, without operator
abbrev pub set_reference : List ℕ → Edge MemberSet Operator
set_reference name = record { to = Set name; label = Plain }

-- the name of a set that there is not
abbrev pub missing_name : Reg → MemberSet → Option (List ℕ)
missing_name r (AutNum n) = None
missing_name r (Set name) = if has_set r name then None else Some name
