use Rattle.rr_text.proofs.ReaderLemmas.{last_found}
use Rattle.rr_text.proofs.paragraphs.Paragraphs.last.Goals as goal

pub returns-then-finish-clause-last : goal.returns-then-finish-clause-last
returns-then-finish-clause-last c = λ text unclosed.
    last_found text _ (c.entry.ensures text (c.if-finish.ensures text unclosed))
