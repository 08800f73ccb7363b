use Rattle.std.proofs.Common.{◌≡◌, ◌++◌, length}
use Rattle.std.specs.Io.{StartsWith}
use Rattle.rr_text.specs.Lines.{text_lines}
use Rattle.rr_text.specs.Entries.{continued}
use Rattle.rr_text.proofs.KeptLemmas.{further_text}
use Rattle.rr_text.proofs.printing.push_continuations.Given as goal

abbrev pub invariant-lines : goal.invariant-lines
invariant-lines l =
    (l.out.items ++ further_text (continued (text_lines l.rest)) ≡ l.initial.out.items ++
    further_text (continued (text_lines l.text)))
    × StartsWith l.out.items l.initial.out.items

abbrev pub decreases-lines : goal.decreases-lines
decreases-lines l = length l.rest
