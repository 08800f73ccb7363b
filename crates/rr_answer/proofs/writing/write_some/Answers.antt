use Rattle.std.proofs.Common.{◌∙◌}
use Rattle.std.proofs.lemmas.Result.{err_from_is_err_and}
use Rattle.rr_answer.proofs.Parts.{parts_cut}
use Rattle.rr_answer.proofs.writing.write_some.Goals as goal

pub returns-in_err-write_all : goal.returns-in_err-write_all
returns-in_err-write_all g c =
    let exit = err_from_is_err_and c.from_residual-in_err-write_all.result
    c.from_residual-in_err-write_all.ensures.1 in
    rw exit.1 (parts_cut g.T.Part.bytes c.gather-count.result c.args.parts.now _ _ _
    (c.deref.ensures.value ∙ c.gather-count.ensures.bytes) c.in_err-write_all.ensures)
