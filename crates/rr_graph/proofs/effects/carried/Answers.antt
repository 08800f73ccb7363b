use Rattle.std.proofs.Common.{◌∙◌, ◌++◌, [], ◌∷◌, List, Option, ap, sym}
use Rattle.std.specs.Option.{option_map}
use Rattle.rr_graph.specs.declared.labels.Edge.{Edge}
use Rattle.rr_graph.proofs.Lists.{filter_map_more-None, filter_map_more-Some}
use Rattle.rr_graph.proofs.effects.carried.Goals as goal
use Rattle.rr_graph.proofs.effects.carried.Goals.{in-Some+in_ok-copy+in_ok-push, in_default}

pub loop-edge-preserved : goal.loop-edge-preserved
loop-edge-preserved g c =
    let edge : Edge g.row.G-Node.Denot g.row.G-Label.Denot = c.edge-item.result in
    let h : Edge g.row.G-Node.Denot g.row.G-Label.Denot →
    Option (g.row.G-Node.Denot × g.row.G-Value.Denot) =
    λ e. option_map (λ (carried : g.row.G-Value.Denot). (e.to, carried))
    (g.G.Labelled.passed e.label c.args.value) in
    elim c.match-pass.branch [
      | in-Some+in_ok-copy+in_ok-push w ↦
          ap (λ v. v.items) w.pairs-is ∙ w.in_ok-push.ensures.items
          ∙ ap (λ (n : g.row.G-Node.Denot). c.loop-edge.pairs.items ++ (n, w.in-Some.carried) ∷ [])
          w.in_ok-copy.ensures
          ∙ ap (λ (l : List (g.row.G-Node.Denot × g.row.G-Value.Denot)).
          l ++ (edge.to, w.in-Some.carried) ∷ []) c.loop-edge.invariant
          ∙ sym (filter_map_more-Some h c.args.edges.now c.loop-edge.edge-index edge
          (edge.to, w.in-Some.carried) c.loop-edge-test.true c.edge-item.is
          (ap (option_map (λ (carried : g.row.G-Value.Denot). (edge.to, carried)))
          (sym w.in-Some.ensures)))
      | in_default w ↦
          ap (λ v. v.items) w.pairs-is ∙ c.loop-edge.invariant
          ∙ sym (filter_map_more-None h c.args.edges.now c.loop-edge.edge-index edge
          c.loop-edge-test.true c.edge-item.is
          (ap (option_map (λ (carried : g.row.G-Value.Denot). (edge.to, carried)))
          (sym w.in_default.ensures)))
    ]
