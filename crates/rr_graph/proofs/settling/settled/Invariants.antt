use Rattle.rr_graph.specs.SettledParts.{HoldsAllWithin, IsAmong, values_at}
use Rattle.rr_graph.proofs.settling.settled.Given as goal

abbrev pub invariant-loop-place : goal.invariant-loop-place
invariant-loop-place g l =
    HoldsAllWithin (g.G.Labelled.edge l.graph) (g.G.Labelled.own l.graph) g.G.Labelled.passed
    g.G.Value.Ord.cmp (values_at g.G.Node.Ord.cmp l.settled.values) l.limit l.settled.pairs
    × IsAmong l.ordered.nodes.now (values_at g.G.Node.Ord.cmp l.settled.values)
