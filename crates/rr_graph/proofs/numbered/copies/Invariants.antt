use Rattle.std.proofs.Common.{◌≡◌, take}
use Rattle.rr_graph.proofs.numbered.copies.Given as goal

abbrev pub invariant-loop-edge : goal.invariant-loop-edge
invariant-loop-edge g l = l.copies.items ≡ take l.edge-index l.edges
