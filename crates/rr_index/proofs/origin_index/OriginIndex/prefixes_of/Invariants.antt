use Rattle.std.proofs.Common.{◌≡◌, ◌++◌, map}
use Rattle.std.specs.List.{filter}
use Rattle.rr_index.specs.Private.{is_of_origin}
use Rattle.rr_index.proofs.origin_index.OriginIndex.prefixes_of.Given as goal

-- the prefixes found and those of the routes to come are all
abbrev pub invariant-loop-route : goal.invariant-loop-route
invariant-loop-route l = l.found.items ++ map (λ route. route.1) l.route-iterator
    ≡ map (λ route. route.1) (filter (is_of_origin l.fn.origin) l.fn.self.routes.keys)
