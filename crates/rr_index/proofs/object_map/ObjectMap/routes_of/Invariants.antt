use Rattle.std.proofs.Common.{◌≡◌, ◌++◌}
use Rattle.std.specs.FinMap.{get}
use Rattle.std.specs.List.{filter, filter_map}
use Rattle.rr_object.specs.declared.key.Key.TheVariants.{Route}
use Rattle.rr_sets.specs.Lists.{lent}
use Rattle.rr_index.specs.Private.{is_of_origin}
use Rattle.rr_index.proofs.object_map.ObjectMap.routes_of.Given as goal

-- the objects found and those that the routes to come lead to are all
abbrev pub invariant-loop-route : goal.invariant-loop-route
invariant-loop-route l = lent l.found.items ++ filter_map
    (λ route. get l.self (Route route.1 route.0)) l.route-iterator
    ≡ filter_map (λ route. get l.self (Route route.1 route.0))
    (filter (is_of_origin l.fn.origin) l.fn.origins.routes.keys)
