use Rattle.std.proofs.Common.{◌≡◌, ℕ, List, ◌++◌, length}
use Rattle.std.specs.List.{flat_map}
use Rattle.rr_io.specs.Sending.{Takes}
use Rattle.rr_answer.proofs.writing.write_parts.Given as goal

-- what was taken so far, and what is to come
abbrev pub invariant-rest : goal.invariant-rest
invariant-rest g l =
    (taken : List ℕ) × (flat_map g.T.Part.bytes l.parts ≡ taken ++ flat_map g.T.Part.bytes l.rest)
    × Takes (g.W.Writer.told l.initial.writer) (g.W.Writer.told l.writer) taken

abbrev pub decreases-rest : goal.decreases-rest
decreases-rest g l = length l.rest
