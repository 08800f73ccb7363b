use Rattle.std.proofs.Common.{◌≡◌, ◌++◌}
use Rattle.std.specs.FinMap.{get}
use Rattle.std.specs.List.{filter_map}
use Rattle.rr_sets.specs.Lists.{lent}
use Rattle.rr_index.proofs.object_map.ObjectMap.at_keys.Given as goal

-- the objects found and those that the keys to come lead to are all
abbrev pub invariant-loop-key : goal.invariant-loop-key
invariant-loop-key l = lent l.found.items ++ filter_map (λ key. get l.self key) l.key-iterator
    ≡ filter_map (λ key. get l.self key) l.keys.keys
