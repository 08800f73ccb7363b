use Rattle.std.proofs.Common.{◌≡◌, ◌++◌, take}
use Rattle.std.specs.List.{filter_map}
use Rattle.rr_graph.proofs.settling.pass_all.Given as goal

abbrev pub invariant-loop-value : goal.invariant-loop-value
invariant-loop-value g l = l.values.items ≡ l.initial.values.items ++ filter_map
    (g.G.Labelled.passed l.label) (take l.value-index l.starts)
