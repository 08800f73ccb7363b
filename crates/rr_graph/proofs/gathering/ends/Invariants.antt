use Rattle.std.proofs.Common.{◌≡◌, Bor, map, take}
use Rattle.rr_graph.specs.declared.labels.Edge.{Edge}
use Rattle.rr_graph.proofs.gathering.ends.Given as goal

abbrev pub invariant-loop-edge : goal.invariant-loop-edge
invariant-loop-edge g l = map (λ (n : Bor g.row.N.Denot). n.now) l.nodes.items
    ≡ map (λ (e : Edge g.row.N.Denot g.row.L.Denot). e.to) (take l.edge-index l.edges)
