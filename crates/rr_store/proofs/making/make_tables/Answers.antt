use Rattle.std.proofs.Common.{◌∙◌, refl}
use Rattle.sqlite.specs.Held.{state}
use Rattle.rr_store.proofs.CreateLemmas.{bare}
use Rattle.rr_store.proofs.StepLemmas.{steps_both, steps_ok, steps_then}
use Rattle.rr_store.proofs.making.make_tables.Goals as goal

pub returns : goal.returns
returns g c = record {
  same_reference = c.in_ok-_third.ensures.same_reference ∙ (c.in_ok-_second.ensures.same_reference
      ∙ c.in_ok-_first.ensures.same_reference);
  step =
      steps_ok g.S.Store _
      (steps_then g.S.Store (steps_both g.S.Store c.in_ok-_first.ensures.step
      c.in_ok-_second.ensures.step refl (λ clean on made. made.schema_is))
      c.in_ok-_third.ensures.step refl (λ clean on both. both.2.schema_is)
      (λ clean both third. record {
        bare = bare (state g.S.Store c.args.tx.now.conn.now).now both.0 _ _ both.1 both.2 third;
        schema = third.schema_is;
      })) refl;
}
