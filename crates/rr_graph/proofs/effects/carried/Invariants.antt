use Rattle.std.proofs.Common.{◌≡◌, take}
use Rattle.std.specs.List.{filter_map}
use Rattle.std.specs.Option.{option_map}
use Rattle.rr_graph.specs.declared.labels.Edge.{Edge}
use Rattle.rr_graph.proofs.effects.carried.Given as goal

abbrev pub invariant-loop-edge : goal.invariant-loop-edge
invariant-loop-edge g l =
    l.pairs.items ≡ filter_map (λ (edge : Edge g.row.G-Node.Denot g.row.G-Label.Denot).
    option_map (λ (carried : g.row.G-Value.Denot). (edge.to, carried))
    (g.G.Labelled.passed edge.label l.value)) (take l.edge-index l.edges)
