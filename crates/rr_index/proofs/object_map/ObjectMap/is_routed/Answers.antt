use Rattle.rr_index.proofs.Routed.{told_routed}
use Rattle.rr_index.proofs.object_map.ObjectMap.is_routed.Goals as goal

pub returns-in-Route : goal.returns-in-Route
returns-in-Route c = λ r same.
    told_routed r c.args.self.now c.args.key.now c.in-Route.prefix c.in-Route.field-1
    c.has_route.result c.requires same c.in-Route.is c.has_route.ensures
