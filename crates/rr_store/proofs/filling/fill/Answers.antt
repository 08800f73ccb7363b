use Rattle.std.proofs.Common.{◌∙◌, arith, map, refl}
use Rattle.sqlite.specs.Held.{state}
use Rattle.rr_store.specs.Contents.{IsTidy}
use Rattle.rr_store.specs.Entries.{entry_of}
use Rattle.rr_store.proofs.OtherLemmas.{others_then}
use Rattle.rr_object.specs.Objects.{lent}
use Rattle.rr_store.proofs.BodyLemmas.{both_ok, filled_so}
use Rattle.rr_store.proofs.StepLemmas.{steps_more}
use Rattle.rr_store.specs.StepParts.{Step}
use Rattle.rr_store.proofs.filling.fill.Goals as goal

pub returns : goal.returns
returns g c = record {
  same_reference = c.add_objects.ensures.steps.same_reference
      ∙ c.in_ok-_version.ensures.same_reference;
  step =
      let version = c.in_ok-_version.ensures.step in
      let added = c.add_objects.ensures.steps.step in
      let all : Step g.S.Store IsTidy (λ _ _. Unit {0}) c.args.tx.now.conn.now
      c.add_objects.new.tx.conn.now c.add_objects.result =
      steps_more g.S.Store version added refl (λ clean on made. made.tidy)
      (λ clean first second. tt) in
      record {
        made = λ over clean.
            let last = added.survives.clean in
            let first = version.survives.clean in
            let mid = version.goes_on (omega (arith, clean, last)) in
            let row = version.made (λ clean on. (over clean on).tidy)
            (omega (arith, clean, last)) in
            both_ok c.add_objects.result c.add_objects.ensures.read
            (added.made (λ clean on. row.tidy) clean mid.is_open) (λ read rows. record {
              store = record {
                read = read;
                filled = filled_so (map entry_of (lent c.args.objects.now))
                    (state g.S.Store c.args.tx.now.conn.now).now
                    (state g.S.Store c.add_meta_row.new.tx.conn.now).now
                    (state g.S.Store c.add_objects.new.tx.conn.now).now
                    (over (omega (arith, clean, last, first))
                    ((version.kept (omega (arith, clean, last))).was_open mid.is_open))
                    (rw c.text.ensures at row) rows;
              };
              others = others_then (state g.S.Store c.args.tx.now.conn.now).now
                  (state g.S.Store c.add_meta_row.new.tx.conn.now).now
                  (state g.S.Store c.add_objects.new.tx.conn.now).now row.others rows.others;
            });
        goes_on = all.goes_on;
        kept = all.kept;
        survives = all.survives;
      };
}
