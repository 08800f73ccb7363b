use Rattle.std.proofs.Common.{◌∙◌, refl}
use Rattle.sqlite.specs.Held.{state}
use Rattle.rr_store.proofs.BodyLemmas.{added_by}
use Rattle.rr_store.proofs.StepLemmas.{steps_more, steps_ok}
use Rattle.rr_store.proofs.bodies.add_rows.Goals as goal

pub returns : goal.returns
returns g c = record {
  same_reference = c.in_ok-add_names.ensures.same_reference
      ∙ c.in_ok-_object.ensures.same_reference;
  step =
      steps_ok g.S.Store _ (steps_more g.S.Store c.in_ok-_object.ensures.step
      c.in_ok-add_names.ensures.step refl (λ clean on made. made.tidy) (λ clean first second.
      let added = added_by c.class-class.result c.key-key.result.now c.body.result.now
      c.names.result.now (state g.S.Store c.args.tx.now.conn.now).now
      (state g.S.Store c.add_object.new.tx.conn.now).now
      (state g.S.Store c.add_names.new.tx.conn.now).now first second in
      rw (c.class-class.ensures, c.key-key.ensures, c.body.ensures, c.names.ensures) at added))
      refl;
}
