use Rattle.std.proofs.Common.{take}
use Rattle.std.specs.Ordering.{ordering_then}
use Rattle.rr_graph.specs.EffectParts.{IsDistinct, changed}
use Rattle.rr_graph.proofs.effects.distinct.Given as goal

abbrev pub invariant-loop-edge : goal.invariant-loop-edge
invariant-loop-edge g l =
    IsDistinct (λ (x y : g.row.G-Node.Denot × g.row.G-Value.Denot).
    ordering_then (g.G.Node.Ord.cmp x.0 y.0) (g.G.Value.Ord.cmp x.1 y.1))
    (changed g.G.Labelled.keeps g.G.Labelled.passed) l.value (take l.edge-index l.edges)
    l.kept.edges.items l.kept.made
