-- That a query shows what stood when its transaction began.
use Rattle.std.proofs.Common.{inl, inr, arith}
use Rattle.std.proofs.lemmas.Result.{IfOk-weaker}
use Rattle.rr_store.proofs.CheckLemmas.{each_err}
use Rattle.rr_store.proofs.idle_connection.IdleConnection.ask.Goals as goal

pub returns-clause-shown : goal.returns-clause-shown
returns-clause-shown g c clean =
    let begins = rw c.self.view_is at c.transaction-tx.ensures.begun in
    let ok = rw begins at c.query_all-rows.ensures.ok in
    IfOk-weaker c.query_all-rows.result _ _ (λ rows shown. record {
      after = c.query_all-rows.new.self.conn.now;
      shown = shown;
    }) (ok (omega (arith, clean, c.rollback.ensures.survives.clean)))

pub returns-clause-refused : goal.returns-clause-refused
returns-clause-refused g c clean =
    let begins = rw c.self.view_is at c.transaction-tx.ensures.begun in
    let err = rw begins at c.query_all-rows.ensures.err in
    each_err c.query_all-rows.result _ _
    (err (omega (arith, clean, c.rollback.ensures.survives.clean))) (λ error refused. record {
      after = c.query_all-rows.new.self.conn.now;
      why = elim refused [
        | inl why ↦ why
        | inr late ↦ let off = late.3 in absurd (cc)
      ];
      undone = c.rollback.ensures.undone clean;
    })
