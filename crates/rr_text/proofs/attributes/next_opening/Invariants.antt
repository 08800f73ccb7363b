use Rattle.std.proofs.Common.{◌≡◌, length}
use Rattle.rr_text.specs.Lines.{text_lines}
use Rattle.rr_text.specs.KeptText.{kept_fields}
use Rattle.rr_text.proofs.attributes.next_opening.Given as goal

abbrev pub invariant-lines : goal.invariant-lines
invariant-lines l = kept_fields (text_lines l.rest) ≡ kept_fields (text_lines l.text)

abbrev pub decreases-lines : goal.decreases-lines
decreases-lines l = length l.rest
