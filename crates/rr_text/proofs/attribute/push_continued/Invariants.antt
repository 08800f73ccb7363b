use Rattle.std.proofs.Common.{◌≡◌, ◌++◌, length, map}
use Rattle.rr_text.specs.Lines.{text_lines}
use Rattle.rr_text.specs.Entries.{continued}
use Rattle.rr_text.proofs.attribute.push_continued.Given as goal

abbrev pub invariant-lines : goal.invariant-lines
invariant-lines l =
    map (λ line. line.now) l.lines.items ++ continued (text_lines l.rest)
    ≡ map (λ line. line.now) l.initial.lines.items ++ continued (text_lines l.text)

abbrev pub decreases-lines : goal.decreases-lines
decreases-lines l = length l.rest
