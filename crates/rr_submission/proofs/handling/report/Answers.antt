use Rattle.std.proofs.Common.{◌≡◌, refl}
use Rattle.rr_io.specs.declared.receiving.ReadEnd.TheVariants.{Whole}
use Rattle.rr_submission.proofs.Exits.{IsDone-whole}
use Rattle.rr_submission.proofs.handling.report.Goals as goal

pub returns-in-Ok-write_last_line-clause-submits : goal.returns-in-Ok-write_last_line-clause-submits
returns-in-Ok-write_last_line-clause-submits g c =
    let whole : c.in-Ok.end ≡ Whole = c.if-is_whole.ensures.0 refl in
    IsDone-whole _ _ _ c.in-Ok.done (rw whole at c.in-Ok.ensures.handles)
    c.in-Ok-write_last_line.ensures
