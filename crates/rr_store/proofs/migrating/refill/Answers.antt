use Rattle.std.proofs.Common.{◌∙◌, refl}
use Rattle.sqlite.specs.Held.{state}
use Rattle.rr_store.proofs.OtherLemmas.{others_then}
use Rattle.rr_store.proofs.StepLemmas.{steps_then}
use Rattle.rr_store.proofs.migrating.refill.Goals as goal

pub returns : goal.returns
returns g c = record {
  same_reference = c.fill.ensures.same_reference ∙ c.in_ok-clear_rows.ensures.same_reference;
  step =
      steps_then g.S.Store c.in_ok-clear_rows.ensures.step c.fill.ensures.step refl
      (λ clean on cleared. cleared.bare) (λ clean cleared filled. record {
        filled = filled.store.filled;
        others = others_then (state g.S.Store c.args.tx.now.conn.now).now
            (state g.S.Store c.clear_rows.new.tx.conn.now).now
            (state g.S.Store c.fill.new.tx.conn.now).now cleared.others filled.others;
      });
}
