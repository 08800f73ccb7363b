use Rattle.std.proofs.Common.{◌≡◌, length}
use Rattle.rr_text.specs.Lines.{text_lines}
use Rattle.rr_text.specs.Faults as faults
use Rattle.rr_text.proofs.inspect.later_fault.Given as goal

abbrev pub invariant-lines : goal.invariant-lines
invariant-lines l = faults.later_fault (text_lines l.rest) ≡ faults.later_fault (text_lines l.text)

abbrev pub decreases-lines : goal.decreases-lines
decreases-lines l = length l.rest
