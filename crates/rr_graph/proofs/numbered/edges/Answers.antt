use Rattle.std.proofs.Common.{◌≡◌, ℕ, Some, cond, subst, ap, ◌∙◌, arith}
use Rattle.std.specs.BTreeMap.{get, is_at}
use Rattle.std.specs.List.{filter_map}
use Rattle.std.specs.Ordering.{nat_cmp}
use Rattle.rr_graph.specs.NumberedParts.{placed_edge}
use Rattle.rr_graph.specs.ReversedParts.{edges_at}
use Rattle.rr_graph.proofs.Placing.{edges_entered, edges_none}
use Rattle.rr_graph.proofs.Seeing.{each_more, none_more}
use Rattle.rr_graph.proofs.numbered.edges.Goals as goal

pub loop-place-init : goal.loop-place-init
loop-place-init g c = record {
  each = λ p s less. absurd (omega arith);
  none = λ p _. edges_none nat_cmp c.new-all.result c.new-all.ensures.empty p;
}

pub loop-place-preserved : goal.loop-place-preserved
loop-place-preserved g c =
    let step = edges_entered nat_cmp c.loop-place.all c.insert.new.self c.loop-place.place
    c.in_ok-placed.field-0
    (subst (λ (place : ℕ). (q : ℕ) → get nat_cmp c.insert.new.self q
    ≡ cond (is_at (nat_cmp place) q) (Some c.in_ok-placed.field-0)
    (get nat_cmp c.loop-place.all q)) c.in_ok-narrow.ensures c.in_ok-insert.ensures.updates.0) in
    record {
      each = each_more (get g.N.Ord.cmp c.args.places.now) c.args.seen.now c.loop-place.place
          c.index-seen-place.result (edges_at nat_cmp c.loop-place.all)
          (edges_at nat_cmp c.insert.new.self) c.in_ok-placed.field-0.items
          c.loop-place-test.true c.index-seen-place.is
          (c.in_ok-placed.ensures
          ∙ ap (filter_map (placed_edge (get g.N.Ord.cmp c.args.places.now)))
          c.deref.ensures.value) c.loop-place.invariant.each step;
      none = none_more c.loop-place.place (edges_at nat_cmp c.loop-place.all)
          (edges_at nat_cmp c.insert.new.self) c.in_ok-placed.field-0.items
          c.loop-place.invariant.none step;
    }

pub returns : goal.returns
returns g c = record {
  each = λ p s less. c.loop-place.invariant.each p s (omega arith);
  none = λ p beyond. c.loop-place.invariant.none p (omega arith);
}
