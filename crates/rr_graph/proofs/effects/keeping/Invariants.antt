use Rattle.std.proofs.Common.{◌≡◌, filter, take}
use Rattle.rr_graph.specs.declared.labels.Edge.{Edge}
use Rattle.rr_graph.proofs.effects.keeping.Given as goal

abbrev pub invariant-loop-edge : goal.invariant-loop-edge
invariant-loop-edge g l = l.kept.items
    ≡ filter (λ (edge : Edge g.row.G-Node.Denot g.row.G-Label.Denot).
    g.G.Labelled.keeps edge.label) (take l.edge-index l.edges)
