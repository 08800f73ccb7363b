use Rattle.std.proofs.Common.{◌≡◌, ◌++◌, map, take}
use Rattle.rr_graph.proofs.settling.add_made.Given as goal

abbrev pub invariant-loop-pair : goal.invariant-loop-pair
invariant-loop-pair g l = l.values.items ≡ l.initial.values.items ++ map
    (λ (pair : g.row.N.Denot × g.row.V.Denot). pair.1) (take l.pair-index l.pairs)
