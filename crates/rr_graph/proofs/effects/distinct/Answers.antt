use Rattle.std.proofs.Common.{◌++◌, ◌∷◌, [], List, sym, subst, ap, ◌∙◌, take}
use Rattle.std.specs.Ordering.{ordering_then}
use Rattle.std.specs.declared.cmp.Ordering.{Ordering}
use Rattle.std.proofs.lemmas.Cmp.{on_total, then_total}
use Rattle.std.proofs.lemmas.List.{take_all, take_more}
use Rattle.std.proofs.lemmas.Map.Lookups.{exact_pairs}
use Rattle.rr_graph.specs.EffectParts.{IsDistinct, IsEnough, changed}
use Rattle.rr_graph.specs.declared.labels.Edge.{Edge}
use Rattle.rr_graph.proofs.Enough.{IsDistinct-none}
use Rattle.rr_graph.proofs.effects.distinct.Goals as goal

pub loop-edge-init : goal.loop-edge-init
loop-edge-init g c =
    IsDistinct-none (changed g.G.Labelled.keeps g.G.Labelled.passed)
    (then_total (on_total (λ (p : g.row.G-Node.Denot × g.row.G-Value.Denot). p.0)
    g.met.G.Node.Ord.total) (on_total (λ (p : g.row.G-Node.Denot × g.row.G-Value.Denot). p.1)
    g.met.G.Value.Ord.total)) (exact_pairs g.G.Node.Ord.cmp g.G.Value.Ord.cmp
    g.met.G.Labelled.exact_nodes g.met.G.Labelled.exact_values) c.args.value
    c.new-kept.result.edges.items c.new-kept.result.made c.new-kept.ensures.edges
    c.new-kept.ensures.made

pub loop-edge-preserved : goal.loop-edge-preserved
loop-edge-preserved g c =
    let cmp : g.row.G-Node.Denot × g.row.G-Value.Denot → g.row.G-Node.Denot × g.row.G-Value.Denot →
    Ordering = λ x y. ordering_then (g.G.Node.Ord.cmp x.0 y.0) (g.G.Value.Ord.cmp x.1 y.1) in
    subst (λ (l : List (Edge g.row.G-Node.Denot g.row.G-Label.Denot)).
    IsDistinct cmp (changed g.G.Labelled.keeps g.G.Labelled.passed) c.args.value l
    c.add.new.self.edges.items c.add.new.self.made)
    (sym (take_more c.args.edges.now c.loop-edge.edge-index c.edge-item.result
    c.loop-edge-test.true ∙ ap (λ (z : Edge g.row.G-Node.Denot g.row.G-Label.Denot).
    take c.loop-edge.edge-index c.args.edges.now ++ z ∷ []) (sym c.edge-item.is)))
    (c.in_ok-add.ensures (take c.loop-edge.edge-index c.args.edges.now) c.loop-edge.invariant)

pub returns : goal.returns
returns g c =
    subst (λ (l : List (Edge g.row.G-Node.Denot g.row.G-Label.Denot)).
    IsEnough (changed g.G.Labelled.keeps g.G.Labelled.passed) l c.args.value
    c.loop-edge.kept.edges.items)
    (take_all c.loop-edge.edge-index c.args.edges.now c.loop-edge-test.false)
    c.loop-edge.invariant.enough
