use Rattle.std.proofs.Common.{◌≡◌, ◌++◌, map, take}
use Rattle.rr_graph.proofs.pairs.add_own.Given as goal

abbrev pub invariant-loop-value : goal.invariant-loop-value
invariant-loop-value g l = l.pairs.items ≡ l.initial.pairs.items ++ map
    (λ (value : g.row.G-Value.Denot). (l.node, value)) (take l.value-index l.values)
