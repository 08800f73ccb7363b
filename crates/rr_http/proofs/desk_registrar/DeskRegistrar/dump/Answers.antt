use Rattle.std.proofs.Common.{refl}
use Rattle.std.proofs.lemmas.Result.{err_from_is_err_and}
use Rattle.rr_http.proofs.DeskLemmas.{no_count, refused_whole}
use Rattle.rr_http.proofs.desk_registrar.DeskRegistrar.dump.Goals as goal

pub returns-clause-stopped : goal.returns-clause-stopped
returns-clause-stopped g c = λ stopped. no_count _ _ _ (c.in_ok-dump.ensures.stopped stopped)

pub returns-in_err-dump-clause-stopped : goal.returns-in_err-dump-clause-stopped
returns-in_err-dump-clause-stopped g c =
    let exit = err_from_is_err_and c.from_residual.result c.from_residual.ensures.1 in
    rw (exit.1, exit.2) (λ stopped. refused_whole _ _ _ _ _ refl refl
    (c.in_err-dump.ensures.stopped stopped))

pub returns-in_err-dump-clause-dumps : goal.returns-in_err-dump-clause-dumps
returns-in_err-dump-clause-dumps g c =
    let exit = err_from_is_err_and c.from_residual.result c.from_residual.ensures.1 in
    rw (exit.1, exit.2) (λ running. c.in_err-dump.ensures.dumps running)
