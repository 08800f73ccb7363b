use Rattle.std.proofs.Common.{◌≡◌, ℕ, ◌+◌, ◌<◌, List, [], ◌∷◌, ◌++◌, length, map, take, refl, sym}
use Rattle.std.proofs.Common.{ap, subst, ◌∙◌, arith}
use Rattle.std.proofs.Math.Seq.{take-length}
use Rattle.std.proofs.lemmas.List.{take_more, map-append}
use Rattle.sqlite_value.specs.Order.{Row}
use Rattle.sqlite.specs.Held.{state}
use Rattle.rr_store.specs.Contents.{Adds, Alters, named_values}
use Rattle.rr_store.proofs.AddingLemmas.{HasAltered, added_more, none_added}
use Rattle.rr_store.proofs.bodies.add_names.Goals as goal

pub loop-name-init : goal.loop-name-init
loop-name-init g c = (refl, none_added g.S.Store c.args.tx.now.conn.now)

pub loop-name-preserved : goal.loop-name-preserved
loop-name-preserved g c =
    let name = c.name-item.result in
    let names = c.args.names.now in
    let at = c.loop-name.name-index in
    let row : List ℕ → Row = λ n. named_values n c.args.class c.args.key.now in
    let within : at < length names = omega arith in
    let grown : map row (take (at + 1) names) ≡ map row (take at names) ++ row name ∷ [] =
    ap (map row) (take_more names at name within ∙ ap (λ n. take at names ++ n ∷ [])
    (sym c.name-item.is)) ∙ map-append row (take at names) (name ∷ []) in (
      c.in_ok-_count.ensures.same_reference ∙ c.loop-name.invariant.0,
      subst (λ rows. HasAltered g.S.Store c.args.tx.now.conn.now c.add_name.new.tx.conn.now
          (Adds rows)) (sym grown)
          (added_more g.S.Store c.args.tx.now.conn.now c.loop-name.tx.conn.now
          c.add_name.new.tx.conn.now (map row (take at names)) (row name)
          c.loop-name.invariant.1
          (λ over clean. rw c.as_bytes.ensures.value at (c.in_ok-_count.ensures.step.made over
          clean))
          c.in_ok-_count.ensures.step.goes_on c.in_ok-_count.ensures.step.kept
          c.in_ok-_count.ensures.step.survives),
    )

pub returns : goal.returns
returns g c = record {
  same_reference = c.loop-name.invariant.0;
  step =
      let names = c.args.names.now in
      let last : c.loop-name.name-index ≡ length names =
      omega (arith, c.loop-name-test.false, c.loop-name.auto.name-index-end) in
      let all = ap (λ n. take n names) last ∙ take-length names in
      record {
        made = λ over clean on. subst (λ xs. Alters (state g.S.Store c.args.tx.now.conn.now).now
            (state g.S.Store c.loop-name.tx.conn.now).now 4
            (Adds (map (λ name. named_values name c.args.class c.args.key.now) xs))) all
            (c.loop-name.invariant.1.done over clean on);
        goes_on = c.loop-name.invariant.1.step;
        kept = c.loop-name.invariant.1.kept;
        survives = c.loop-name.invariant.1.survives;
      };
}
