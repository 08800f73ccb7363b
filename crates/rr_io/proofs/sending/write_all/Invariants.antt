use Rattle.std.proofs.Common.{◌≡◌, ℕ, List, ◌++◌, length}
use Rattle.rr_io.specs.Sending.{Takes}
use Rattle.rr_io.proofs.sending.write_all.Given as goal

abbrev pub invariant-rest : goal.invariant-rest
invariant-rest g l =
    (taken : List ℕ) × (l.bytes ≡ taken ++ l.rest) × Takes (g.W.Writer.told l.initial.writer)
    (g.W.Writer.told l.writer) taken

abbrev pub decreases-rest : goal.decreases-rest
decreases-rest g l = length l.rest
