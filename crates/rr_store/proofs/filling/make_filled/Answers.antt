use Rattle.std.proofs.Common.{◌∙◌, arith, inl, refl}
use Rattle.sqlite.specs.Held.{state}
use Rattle.rr_store.specs.FillingParts.{IsBlank}
use Rattle.rr_store.specs.StepParts.{Step}
use Rattle.rr_store.proofs.OtherLemmas.{tables_made}
use Rattle.rr_store.proofs.BodyLemmas.{then_ok}
use Rattle.rr_store.proofs.StepLemmas.{steps_then}
use Rattle.rr_store.proofs.filling.make_filled.Goals as goal

pub returns : goal.returns
returns g c = record {
  same_reference = c.fill.ensures.same_reference ∙ c.in_ok-make_tables.ensures.same_reference;
  step =
      let made = c.in_ok-make_tables.ensures.step in
      let filled = c.fill.ensures.step in
      let all : Step g.S.Store IsBlank (λ _ _. Unit {0}) c.args.tx.now.conn.now
      c.fill.new.tx.conn.now c.fill.result = steps_then g.S.Store made filled refl
      (λ clean on tables. tables.bare) (λ clean first second. tt) in
      record {
        made = λ over clean.
            let last = filled.survives.clean in
            let first = made.survives.clean in
            let mid = made.goes_on (omega (arith, clean, last)) in
            let tables = made.made over (omega (arith, clean, last)) in
            let blank = over (omega (arith, clean, last, first))
            ((made.kept (omega (arith, clean, last))).was_open mid.is_open) in
            then_ok c.fill.result (filled.made (λ clean on. tables.bare) clean) (λ rows. record {
              vacant = inl blank;
              tables = tables_made (state g.S.Store c.args.tx.now.conn.now).now
                  (state g.S.Store c.fill.new.tx.conn.now).now blank
                  (rows.others.schema ∙ tables.schema);
              rows = rows.store;
            });
        goes_on = all.goes_on;
        kept = all.kept;
        survives = all.survives;
      };
}
