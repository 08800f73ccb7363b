use Rattle.std.proofs.Common.{◌≡◌, ◌+◌, ◌<◌, [], ◌∷◌, ◌++◌, length, take, refl, sym, ap, subst, ◌∙◌}
use Rattle.std.proofs.Common.{arith}
use Rattle.std.proofs.Math.Seq.{take-length}
use Rattle.std.proofs.lemmas.List.{take_more}
use Rattle.sqlite.specs.Held.{state}
use Rattle.rr_store.specs.Contents.{Alters, RemovesRows, is_name_among}
use Rattle.rr_store.proofs.AddingLemmas.{HasAltered, none_removed, removed_more}
use Rattle.rr_store.proofs.bodies.remove_names.Goals as goal

pub loop-name-init : goal.loop-name-init
loop-name-init g c =
    (refl, none_removed c.args.class c.args.key.now g.S.Store c.args.tx.now.conn.now)

pub loop-name-preserved : goal.loop-name-preserved
loop-name-preserved g c =
    let name = c.name-item.result in
    let names = c.args.names.now in
    let at = c.loop-name.name-index in
    let among = is_name_among c.args.class c.args.key.now in
    let within : at < length names = omega arith in
    let grown : take (at + 1) names ≡ take at names ++ name ∷ [] = take_more names at name within
    ∙ ap (λ n. take at names ++ n ∷ []) (sym c.name-item.is) in (
      c.in_ok-_count.ensures.same_reference ∙ c.loop-name.invariant.0,
      subst (λ ns. HasAltered g.S.Store c.args.tx.now.conn.now c.remove_name.new.tx.conn.now
          (RemovesRows (among ns))) (sym grown)
          (removed_more c.args.class c.args.key.now g.S.Store c.args.tx.now.conn.now
          c.loop-name.tx.conn.now c.remove_name.new.tx.conn.now (take at names) name
          c.loop-name.invariant.1
          (λ over clean. rw c.as_bytes.ensures.value at (c.in_ok-_count.ensures.step.made over
          clean))
          c.in_ok-_count.ensures.step.goes_on c.in_ok-_count.ensures.step.kept
          c.in_ok-_count.ensures.step.survives),
    )

pub returns : goal.returns
returns g c = record {
  same_reference = c.loop-name.invariant.0;
  step =
      let names = c.args.names.now in
      let last : c.loop-name.name-index ≡ length names =
      omega (arith, c.loop-name-test.false, c.loop-name.auto.name-index-end) in
      let all = ap (λ n. take n names) last ∙ take-length names in
      record {
        made = λ over clean on. subst (λ ns. Alters (state g.S.Store c.args.tx.now.conn.now).now
            (state g.S.Store c.loop-name.tx.conn.now).now 4
            (RemovesRows (is_name_among c.args.class c.args.key.now ns))) all
            (c.loop-name.invariant.1.done over clean on);
        goes_on = c.loop-name.invariant.1.step;
        kept = c.loop-name.invariant.1.kept;
        survives = c.loop-name.invariant.1.survives;
      };
}
