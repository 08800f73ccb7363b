use Rattle.std.proofs.Common.{◌∙◌, arith, refl, sym, subst}
use Rattle.std.specs.List.{AllByRecursion}
use Rattle.sqlite.specs.Held.{state}
use Rattle.sqlite.specs.State.{HasCleanDisk}
use Rattle.rr_store.specs.Contents.{Alters, IsTidy, RemovesRows, is_name_among}
use Rattle.rr_store.specs.Maps.{AreNamesOf, AreOfObjects}
use Rattle.rr_store.specs.StepParts.{IsOver}
use Rattle.rr_store.proofs.BodyLemmas.{forgotten}
use Rattle.rr_store.proofs.StepLemmas.{steps_more, steps_ok, steps_over}
use Rattle.rr_store.proofs.bodies.forget_names.Goals as goal

pub rows_of_key-requires : goal.rows_of_key-requires
rows_of_key-requires g c clean on = (c.requires clean on).rows.tidy

pub returns : goal.returns
returns g c = record {
  same_reference = c.in_ok-remove_names.ensures.same_reference
      ∙ c.in_ok-rows.ensures.steps.same_reference;
  step =
      let old = c.args.tx.now.conn.now in
      let tidy : IsOver g.S.Store AreOfObjects old → IsOver g.S.Store IsTidy old =
      λ over clean on. (over clean on).rows.tidy in
      let asked = c.in_ok-rows.ensures.steps.step in
      steps_ok g.S.Store _
      (steps_over g.S.Store tidy (steps_more g.S.Store asked c.in_ok-remove_names.ensures.step
      refl
      (λ clean on same. subst IsTidy (sym same)
      (c.requires (omega (arith, clean, asked.survives.clean))
      ((asked.kept clean).was_open on)).rows.tidy)
      (λ clean first second.
      let mid : HasCleanDisk (state g.S.Store c.rows_of_key.new.tx.conn.now) =
      omega (arith, clean, c.in_ok-remove_names.ensures.step.survives.clean) in
      let on = (asked.goes_on mid).is_open in
      let held = c.requires (omega (arith, mid, asked.survives.clean))
      ((asked.kept mid).was_open on) in
      let all = subst (AllByRecursion (AreNamesOf c.in_ok-names.names.items)) c.deref.ensures.value
      c.in_ok-names.ensures.names in
      let gone = subst (λ names. Alters (state g.S.Store c.rows_of_key.new.tx.conn.now).now
      (state g.S.Store c.remove_names.new.tx.conn.now).now 4
      (RemovesRows (is_name_among c.args.class c.args.key.now names)))
      c.deref-2.ensures.value second in
      forgotten c.args.class c.args.key.now c.in_ok-names.names.items c.in_ok-rows.rows.items
      (state g.S.Store c.args.tx.now.conn.now).now
      (state g.S.Store c.rows_of_key.new.tx.conn.now).now
      (state g.S.Store c.remove_names.new.tx.conn.now).now held first
      (c.in_ok-rows.ensures.rows mid) all gone))) refl;
}
