use Rattle.std.proofs.Common.{◌↔◌, Contains, IsTrue, take}
use Rattle.std.specs.BTreeSet.{contains}
use Rattle.rr_graph.proofs.gathering.values_at.Given as goal

abbrev pub invariant-loop-pair : goal.invariant-loop-pair
invariant-loop-pair g l = (value : g.row.G-Value.Denot) →
    IsTrue (contains g.G.Value.Ord.cmp l.values value) ↔ Contains (take l.pair-index l.pairs)
    (l.node, value)
