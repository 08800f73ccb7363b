use Rattle.std.proofs.Common.{◌↔◌, Contains, take}
use Rattle.rr_graph.specs.ReversedParts.{IsOwnPair}
use Rattle.rr_graph.proofs.pairs.own_pairs.Given as goal

abbrev pub invariant-loop-place : goal.invariant-loop-place
invariant-loop-place g l = (p : g.row.G-Node.Denot × g.row.G-Value.Denot) → Contains l.pairs.items p
    ↔ IsOwnPair (g.G.Labelled.own l.graph) (take l.place l.nodes) p
