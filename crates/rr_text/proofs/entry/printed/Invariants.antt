use Rattle.std.proofs.Common.{◌≡◌, ◌++◌, length}
use Rattle.rr_text.specs.Lines.{text_lines}
use Rattle.rr_text.specs.KeptText.{printed_lines}
use Rattle.rr_text.proofs.entry.printed.Given as goal

abbrev pub invariant-lines : goal.invariant-lines
invariant-lines l = l.text.items ++ printed_lines (text_lines l.rest) ≡ printed_lines
    (text_lines l.block)

abbrev pub decreases-lines : goal.decreases-lines
decreases-lines l = length l.rest
