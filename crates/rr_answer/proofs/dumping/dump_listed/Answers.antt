use Rattle.std.proofs.lemmas.Result.{err_from_is_err_and}
use Rattle.rr_answer.proofs.Dumped.{cut_after}
use Rattle.rr_answer.proofs.dumping.dump_listed.Goals as goal

pub returns-in_err-dump_end-clause-writes : goal.returns-in_err-dump_end-clause-writes
returns-in_err-dump_end-clause-writes g c =
    let exit = err_from_is_err_and c.from_residual-in_err-dump_end.result
    c.from_residual-in_err-dump_end.ensures.1 in
    rw (exit.1, exit.2) (cut_after _ _ _ _ _ _ c.in_ok-dump_objects.ensures
    c.in_err-dump_end.ensures)
