use Rattle.std.proofs.Common.{take}
use Rattle.std.proofs.lemmas.Map.Lookups.{CmpEqualImpliesEq}
use Rattle.rr_graph.specs.SettledParts.{IsRun}
use Rattle.rr_graph.proofs.settling.run_length.Given as goal

abbrev pub invariant-loop-place : goal.invariant-loop-place
invariant-loop-place g l = CmpEqualImpliesEq g.N.Ord.cmp → IsRun l.node (take l.place l.edges)
