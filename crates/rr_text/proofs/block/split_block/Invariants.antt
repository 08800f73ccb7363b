use Rattle.std.proofs.Common.{List, ℕ, length}
use Rattle.rr_text.proofs.BlockLemmas.{IsTaken}
use Rattle.rr_text.proofs.block.split_block.Given as goal

abbrev pub invariant-lines : goal.invariant-lines
invariant-lines l = (done : List ℕ) × IsTaken l.text done l.rest

abbrev pub decreases-lines : goal.decreases-lines
decreases-lines l = length l.rest
