use Rattle.std.proofs.Common.{◌≡◌, ◌++◌}
use Rattle.std.specs.FinMap.{entries}
use Rattle.std.specs.List.{filter}
use Rattle.std.specs.Map.{values_of}
use Rattle.rr_sets.specs.Lists.{lent}
use Rattle.rr_index.specs.KeyRangeParts.{lies_between}
use Rattle.rr_index.proofs.object_map.ObjectMap.listed.Given as goal

-- the objects found and those to come are all between the keys
abbrev pub invariant-loop-object : goal.invariant-loop-object
invariant-loop-object l = lent l.found.items ++ values_of l.object-iterator ≡ values_of
    (filter (λ e. lies_between l.fn.first l.fn.last e.0) (entries l.self))
