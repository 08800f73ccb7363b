use Rattle.std.proofs.Common.{◌≡◌, IsTrue, arith}
use Rattle.sqlite.specs.Held.{state}
use Rattle.sqlite.specs.Values.{bound}
use Rattle.rr_store.proofs.LookLemmas.{shown_open, shown_same, failed_open, failed_same, of_both}
use Rattle.rr_store.proofs.LookLemmas.{looks, on_each, on_err}
use Rattle.rr_store.proofs.row_reading.look.Goals as goal

pub returns-clause-looks : goal.returns-clause-looks
returns-clause-looks g c plain =
    let old = state g.S.Store c.args.conn.now in
    let new = state g.S.Store c.query_all.new.self in
    let given = bound c.args.params.now in
    let ok = rw c.conn.view_is at c.query_all.ensures.ok in
    let err = rw c.conn.view_is at c.query_all.ensures.err in
    let survives = rw c.conn.view_is at c.query_all.ensures.survives in
    let settled : IsTrue old.is_open → old.now ≡ old.committed =
    c.note_committed.ensures.committed in
    record {
      rests = record {
        autocommit = c.query_all.ensures.mode c.conn.invariant;
        opened = λ clean on. of_both c.query_all.result _
            (on_each c.query_all.result _ _ (ok clean)
            (λ rows h. shown_open c.args.sql.now given old new rows.items h))
            (on_err c.query_all.result _ _ (err clean)
            (λ e h. failed_open c.args.sql.now given old new on e h));
        same = λ clean on. of_both c.query_all.result _
            (on_each c.query_all.result _ _ (ok clean)
            (λ rows h. (shown_same c.args.sql.now given old new rows.items
            (plain (omega (arith, clean, survives.clean))) h).0.now_is))
            (on_err c.query_all.result _ _ (err clean)
            (λ e h. failed_same c.args.sql.now given old new settled on e h));
        crash = looks c.args.sql.now given old new plain survives;
      };
      same = λ clean. on_each c.query_all.result _ _ (ok clean)
          (λ rows h. shown_same c.args.sql.now given old new rows.items
          (plain (omega (arith, clean, survives.clean))) h);
    }
