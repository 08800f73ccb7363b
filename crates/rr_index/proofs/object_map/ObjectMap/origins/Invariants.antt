use Rattle.std.proofs.Common.{◌≡◌, ◌++◌}
use Rattle.std.specs.FinMap.{values}
use Rattle.std.specs.Map.{values_of}
use Rattle.rr_auth.specs.Closest.{origins_among}
use Rattle.rr_index.proofs.object_map.ObjectMap.origins.Given as goal

abbrev pub invariant-loop-object : goal.invariant-loop-object
invariant-loop-object l = l.origins.items ++ origins_among (values_of l.object-iterator) l.prefix
    ≡ origins_among (values l.self) l.prefix
