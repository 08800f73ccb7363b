use Rattle.std.proofs.Common.{◌∙◌, refl}
use Rattle.sqlite.specs.Held.{state}
use Rattle.rr_store.proofs.MigrateLemmas.{cleared, cleared_alone}
use Rattle.rr_store.proofs.StepLemmas.{steps_both, steps_ok, steps_then}
use Rattle.rr_store.proofs.migrating.clear_rows.Goals as goal

pub returns : goal.returns
returns g c = record {
  same_reference = c.in_ok-_names.ensures.same_reference ∙ (c.in_ok-_objects.ensures.same_reference
      ∙ c.in_ok-_meta.ensures.same_reference);
  step =
      let old = (state g.S.Store c.args.tx.now.conn.now).now in
      steps_ok g.S.Store _
      (steps_then g.S.Store (steps_both g.S.Store c.in_ok-_meta.ensures.step
      c.in_ok-_objects.ensures.step refl (λ clean on made. made.tidy))
      c.in_ok-_names.ensures.step refl (λ clean on both. both.2.tidy)
      (λ clean both third. record {
        bare = cleared old both.0 _ _ both.1 both.2 third;
        others = cleared_alone old both.0 _ _ both.1 both.2 third;
      })) refl;
}
