use Rattle.std.proofs.Common.{◌≡◌, ◌↔◌, ◌∙◌, List, BTreeSet, Contains, IsTrue, true, sym, subst}
use Rattle.std.proofs.Common.{take, ◌+◌}
use Rattle.std.specs.BTreeSet.{contains}
use Rattle.std.specs.Ordering.{eq_by_cmp}
use Rattle.std.proofs.lemmas.Bool.{true≢false}
use Rattle.std.proofs.lemmas.Cmp.{eq_by_cmp_equiv}
use Rattle.std.proofs.lemmas.List.{take_all}
use Rattle.std.proofs.lemmas.Map.Views.{btree_set_contains_iff, tells_apart}
use Rattle.rr_graph.proofs.Finding.{IfOk-both}
use Rattle.rr_graph.proofs.OwnPairs.{values_more-other, values_more-same}
use Rattle.rr_graph.proofs.gathering.values_at.Goals as goal
use Rattle.rr_graph.proofs.gathering.values_at.Goals.{else-eq, then-eq+in_ok-insert}

pub loop-pair-preserved : goal.loop-pair-preserved
loop-pair-preserved g c =
    let Step : BTreeSet g.row.G-Value.Denot → Type 0 =
    λ values. (value : g.row.G-Value.Denot) → IsTrue (contains g.G.Value.Ord.cmp values value)
    ↔ Contains (take (c.loop-pair.pair-index + 1) c.args.pairs.now) (c.args.node.now, value) in
    elim c.if-eq.branch [
      | then-eq+in_ok-insert w ↦
          let same : c.pair-item.result.0 ≡ c.args.node.now =
          tells_apart g.met.G.Labelled.exact_nodes c.pair-item.result.0 c.args.node.now
          (sym (g.met.G.Node.Ord.matches_eq c.pair-item.result.0 c.args.node.now)
          ∙ sym w.if-eq.ensures) in
          subst Step (sym w.values-is)
          (values_more-same g.met.G.Value.Ord.total g.met.G.Labelled.exact_values c.args.node.now
          c.args.pairs.now c.loop-pair.pair-index c.pair-item.result c.loop-pair.values
          w.insert.new.self c.loop-pair-test.true c.pair-item.is same c.loop-pair.invariant
          w.in_ok-insert.ensures.updates)
      | else-eq w ↦
          subst Step (sym w.values-is)
          (values_more-other g.met.G.Value.Ord.total g.met.G.Labelled.exact_values c.args.node.now
          c.args.pairs.now c.loop-pair.pair-index c.pair-item.result c.loop-pair.values
          c.loop-pair-test.true c.pair-item.is
          (λ same.
          true≢false
          (sym
          (subst (λ (n : g.row.G-Node.Denot). eq_by_cmp g.G.Node.Ord.cmp c.pair-item.result.0 n
          ≡ true) same ((eq_by_cmp_equiv g.met.G.Node.Ord.total).refl c.pair-item.result.0))
          ∙ sym (g.met.G.Node.Ord.matches_eq c.pair-item.result.0 c.args.node.now)
          ∙ sym w.if-eq.ensures))
          c.loop-pair.invariant)
    ]

pub returns : goal.returns
returns g c =
    let all : (value : g.row.G-Value.Denot) →
    IsTrue (contains g.G.Value.Ord.cmp c.loop-pair.values value) ↔ Contains c.args.pairs.now
    (c.args.node.now, value) =
    subst (λ (l : List (g.row.G-Node.Denot × g.row.G-Value.Denot)). (value : g.row.G-Value.Denot) →
    IsTrue (contains g.G.Value.Ord.cmp c.loop-pair.values value)
    ↔ Contains l (c.args.node.now, value)) (take_all c.loop-pair.pair-index c.args.pairs.now
    c.loop-pair-test.false) c.loop-pair.invariant in
    IfOk-both c.ascending.result _ _ _
    (λ list is sorted. record {
      all = λ value.
          let among : IsTrue (contains g.G.Value.Ord.cmp c.loop-pair.values value)
          ↔ Contains c.loop-pair.values.keys value =
          btree_set_contains_iff g.met.G.Value.Ord.total g.met.G.Labelled.exact_values
          c.loop-pair.values value in (
            λ has. (all value).0
                (among.1 (subst (λ (l : List g.row.G-Value.Denot). Contains l value) is has)),
            λ has. rw is (among.0 ((all value).1 has)),
          );
      sorted = sorted;
    })
    c.ascending.ensures.same c.ascending.ensures.sorted
