use Rattle.std.proofs.Common.{◌≡◌, take}
use Rattle.std.specs.List.{filter_map}
use Rattle.rr_sets.specs.MemberParts.{reference_of}
use Rattle.rr_sets.proofs.references.references_listed.Given as goal

abbrev pub invariant-loop-member : goal.invariant-loop-member
invariant-loop-member l = l.references.items ≡ filter_map reference_of
    (take l.member-index l.members)
