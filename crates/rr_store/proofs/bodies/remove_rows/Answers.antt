use Rattle.std.proofs.Common.{◌∙◌, refl}
use Rattle.sqlite.specs.Held.{state}
use Rattle.rr_store.proofs.BodyLemmas.{taken_by}
use Rattle.rr_store.proofs.StepLemmas.{steps_ok, steps_then}
use Rattle.rr_store.proofs.bodies.remove_rows.Goals as goal

pub returns : goal.returns
returns g c = record {
  same_reference = c.in_ok-_removed.ensures.same_reference
      ∙ c.in_ok-forget_names.ensures.same_reference;
  step =
      steps_ok g.S.Store _ (steps_then g.S.Store c.in_ok-forget_names.ensures.step
      c.in_ok-_removed.ensures.step refl (λ clean on made. made.tidy) (λ clean first second.
      taken_by c.args.class c.args.key.now (state g.S.Store c.args.tx.now.conn.now).now
      (state g.S.Store c.forget_names.new.tx.conn.now).now
      (state g.S.Store c.remove_object.new.tx.conn.now).now first second)) refl;
}
