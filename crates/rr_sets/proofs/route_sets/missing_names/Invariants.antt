use Rattle.std.proofs.Common.{◌≡◌, Bor, Option, take}
use Rattle.std.specs.List.{filter_map}
use Rattle.std.specs.Option.{option_copied}
use Rattle.rr_auth.specs.Registries.{Reg}
use Rattle.rr_graph.specs.Looks.{AreLooks}
use Rattle.rr_object.specs.Objects.{Obj}
use Rattle.rr_object.specs.declared.member.MemberSet.{MemberSet}
use Rattle.rr_sets.specs.MemberParts.{missing_name}
use Rattle.rr_sets.specs.RouteSets.{FindsSet}
use Rattle.rr_sets.proofs.route_sets.missing_names.Given as goal

abbrev pub invariant-loop-place : goal.invariant-loop-place
invariant-loop-place l = (r : Reg)
    → AreLooks (λ (set : MemberSet). λ (object : Option (Bor Obj)). FindsSet r set
    (option_copied object)) l.sets l.objects
    → l.missing.items ≡ filter_map (missing_name r) (take l.place l.sets)
