use Rattle.std.proofs.Common.{◌≡◌, ◌++◌}
use Rattle.std.specs.FinMap.{values}
use Rattle.rr_sets.specs.Lists.{lent}
use Rattle.rr_index.proofs.object_map.ObjectMap.all.Given as goal

-- the objects found and those to come are all
abbrev pub invariant-loop-object : goal.invariant-loop-object
invariant-loop-object l = lent l.found.items ++ l.object-iterator ≡ values l.self
