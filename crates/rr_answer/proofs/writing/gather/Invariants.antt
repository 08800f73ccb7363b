use Rattle.std.proofs.Common.{◌≡◌, take}
use Rattle.std.specs.List.{flat_map}
use Rattle.rr_answer.proofs.writing.gather.Given as goal

-- what was gathered are the parts so far
abbrev pub invariant-parts : goal.invariant-parts
invariant-parts g l =
    (l.count ≡ l.part-index) × (l.out.items ≡ flat_map g.T.Part.bytes (take l.part-index l.parts))
