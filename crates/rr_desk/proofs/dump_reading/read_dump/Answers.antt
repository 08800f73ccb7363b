use Rattle.std.proofs.Common.{inl, refl}
use Rattle.std.proofs.lemmas.Result.{err_from_is_err_and}
use Rattle.rr_desk.proofs.dump_reading.read_dump.Goals as goal

pub returns-in_err-paragraphs : goal.returns-in_err-paragraphs
returns-in_err-paragraphs g c =
    let exit = err_from_is_err_and c.from_residual.result c.from_residual.ensures.1 in
    rw (exit.1, exit.2) (inl refl)
