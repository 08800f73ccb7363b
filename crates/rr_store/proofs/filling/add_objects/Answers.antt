use Rattle.std.proofs.Common.{◌≡◌, ◌+◌, ◌<◌, [], ◌∷◌, ◌++◌, length, map, take, refl, sym, ap, subst}
use Rattle.std.proofs.Common.{◌∙◌, arith}
use Rattle.std.proofs.Math.Seq.{take-length}
use Rattle.std.proofs.lemmas.List.{take_more, map-append}
use Rattle.std.specs.List.{AllByRecursion}
use Rattle.sqlite.specs.Held.{state}
use Rattle.rr_store.specs.Entries.{IsAdded, entry_of}
use Rattle.rr_store.specs.Maps.{IsObject}
use Rattle.rr_object.specs.Objects.{lent}
use Rattle.rr_store.proofs.FillLemmas.{AreFilled, none_filled, object_filled}
use Rattle.rr_store.proofs.filling.add_objects.Goals as goal

pub loop-object-init : goal.loop-object-init
loop-object-init g c =
    (refl, record { read = tt; filled = none_filled g.S.Store c.args.tx.now.conn.now })

pub loop-object-preserved : goal.loop-object-preserved
loop-object-preserved g c =
    let object = c.object-item.result in
    let objects = c.args.objects.now in
    let at = c.loop-object.object-index in
    let within : at < length objects = omega arith in
    let grown : lent (take (at + 1) objects) ≡ lent (take at objects) ++ object.now ∷ [] =
    ap lent (take_more objects at object within ∙ ap (λ o. take at objects ++ o ∷ [])
    (sym c.object-item.is)) ∙ map-append (λ o. o.now) (take at objects) (object ∷ []) in (
      c.in_ok-add_rows.ensures.same_reference ∙ c.loop-object.invariant.0,
      subst (AreFilled g.S.Store c.args.tx.now.conn.now c.add_rows.new.tx.conn.now) (sym grown)
          (object_filled g.S.Store c.args.tx.now.conn.now c.loop-object.tx.conn.now
          c.add_rows.new.tx.conn.now (lent (take at objects)) object.now
          c.in_ok-entry.ensures.object c.loop-object.invariant.1
          (λ over clean. rw c.in_ok-entry.ensures.entry at (c.in_ok-add_rows.ensures.step.made
          over clean))
          c.in_ok-add_rows.ensures.step.goes_on c.in_ok-add_rows.ensures.step.kept
          c.in_ok-add_rows.ensures.step.survives),
    )

pub returns-clause-steps : goal.returns-clause-steps
returns-clause-steps g c = record {
  same_reference = c.loop-object.invariant.0;
  step =
      let objects = c.args.objects.now in
      let last : c.loop-object.object-index ≡ length objects =
      omega (arith, c.loop-object-test.false, c.loop-object.auto.object-index-end) in
      let all = ap (λ n. take n objects) last ∙ take-length objects in
      record {
        made = λ over clean on.
            subst (λ xs. IsAdded (map entry_of (lent xs))
            (state g.S.Store c.args.tx.now.conn.now).now
            (state g.S.Store c.loop-object.tx.conn.now).now) all
            (c.loop-object.invariant.1.filled.done over clean on);
        goes_on = c.loop-object.invariant.1.filled.step;
        kept = c.loop-object.invariant.1.filled.kept;
        survives = c.loop-object.invariant.1.filled.survives;
      };
}

pub returns-clause-read : goal.returns-clause-read
returns-clause-read g c =
    let objects = c.args.objects.now in
    let last : c.loop-object.object-index ≡ length objects =
    omega (arith, c.loop-object-test.false, c.loop-object.auto.object-index-end) in
    subst (λ xs. AllByRecursion IsObject (lent xs)) (ap (λ n. take n objects) last ∙ take-length
    objects) c.loop-object.invariant.1.read
