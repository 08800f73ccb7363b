use Rattle.std.proofs.lemmas.Result.{err_from_is_err_and}
use Rattle.rr_text.proofs.paragraphs.Paragraphs.entry.Goals as goal

pub returns-in_err-paragraph : goal.returns-in_err-paragraph
returns-in_err-paragraph c = λ text has.
    let p = err_from_is_err_and c.from_residual.result c.from_residual.ensures.1 in
    rw (p.1, p.2) (c.in_err-paragraph.ensures text has)
