use Rattle.std.proofs.Common.{take}
use Rattle.rr_graph.specs.ReversedParts.{IsBackward, edges_at}
use Rattle.rr_graph.proofs.backward.reversed.Given as goal

abbrev pub invariant-loop-place : goal.invariant-loop-place
invariant-loop-place g l = IsBackward (g.G.Labelled.edge l.graph) (take l.place l.nodes)
    (edges_at g.G.Node.Ord.cmp l.backward.map)
