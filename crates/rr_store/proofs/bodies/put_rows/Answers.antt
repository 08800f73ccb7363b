use Rattle.std.proofs.Common.{◌∙◌, refl}
use Rattle.sqlite.specs.Held.{state}
use Rattle.rr_store.proofs.BodyLemmas.{put_by}
use Rattle.rr_store.proofs.StepLemmas.{steps_then}
use Rattle.rr_store.proofs.bodies.put_rows.Goals as goal

pub returns : goal.returns
returns g c = record {
  same_reference = c.add_rows.ensures.same_reference ∙ c.in_ok-remove_rows.ensures.same_reference;
  step =
      steps_then g.S.Store c.in_ok-remove_rows.ensures.step c.add_rows.ensures.step refl
      (λ clean on made. made.tidy)
      (λ clean first added.
      let taken = rw (c.class.ensures, c.key.ensures) at first in
      put_by c.args.entry.now (state g.S.Store c.args.tx.now.conn.now).now
      (state g.S.Store c.remove_rows.new.tx.conn.now).now
      (state g.S.Store c.add_rows.new.tx.conn.now).now taken added);
}
