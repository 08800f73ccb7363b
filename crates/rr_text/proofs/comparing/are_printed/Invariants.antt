use Rattle.std.proofs.Common.{◌≡◌, length}
use Rattle.std.specs.List.{list_all}
use Rattle.rr_text.specs.Lines.{text_lines}
use Rattle.rr_text.specs.KeptText.{is_printed}
use Rattle.rr_text.proofs.comparing.are_printed.Given as goal

abbrev pub invariant-lines : goal.invariant-lines
invariant-lines l = list_all is_printed (text_lines l.rest) ≡ list_all is_printed
    (text_lines l.text)

abbrev pub decreases-lines : goal.decreases-lines
decreases-lines l = length l.rest
