use Rattle.std.proofs.lemmas.Result.{err_from_is_err_and}
use Rattle.rr_store.specs.StreamParts.{FailsAfterRows}
use Rattle.rr_store.proofs.FailureLemmas.{is_store}
use Rattle.rr_store.proofs.row_streams.take_names_of.Goals as goal

pub returns-in_err-take_names-clause-fails : goal.returns-in_err-take_names-clause-fails
returns-in_err-take_names-clause-fails g c =
    let exit = err_from_is_err_and c.from_residual-in_err-take_names.result
    c.from_residual-in_err-take_names.ensures.1 in
    rw (exit.1, exit.2) (record {
      no_other = λ n is. absurd (cc);
      fails = λ clean. is_store (FailsAfterRows g.S.Store c.args.rows.now.conn.now
          c.take_names.new.rows.conn.now) c.in_err-take_names.field-0.0
          (c.in_err-take_names.ensures.fails clean);
    })
