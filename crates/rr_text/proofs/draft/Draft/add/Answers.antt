-- A piece without its LF makes the line longer; one with it ends the line.
use Rattle.std.proofs.Common.{◌∙◌, sym}
use Rattle.rr_text.proofs.DraftLemmas.{unclosed_more, unclosed_fed}
use Rattle.rr_text.proofs.draft.Draft.add.Goals as goal

pub returns-then-ends_line : goal.returns-then-ends_line
returns-then-ends_line c = λ text unclosed.
    unclosed_fed text _ _ _ _ _ unclosed c.keep.ensures c.end_line.ensures c.requires.some
    c.requires.single (sym c.ends_line.ensures ∙ c.if-ends_line.true)

pub returns-else-ends_line : goal.returns-else-ends_line
returns-else-ends_line c = λ text unclosed. unclosed_more text _ _ _ unclosed c.keep.ensures
    c.requires.single (sym c.ends_line.ensures ∙ c.if-ends_line.false)
