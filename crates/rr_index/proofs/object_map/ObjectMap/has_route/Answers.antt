use Rattle.std.proofs.Common.{◌∙◌}
use Rattle.std.specs.Ordering.{is_gt}
use Rattle.rr_object.specs.KeyOrders.{key_cmp}
use Rattle.rr_index.proofs.Ranges.{origins_forward, route_told}
use Rattle.rr_index.proofs.object_map.ObjectMap.has_route.Goals as goal

pub between-requires : goal.between-requires
between-requires c = (λ i. is_gt (key_cmp (c.first_of.ensures i) (c.last_of.ensures i)))
    ∙ origins_forward c.args.prefix

pub returns : goal.returns
returns c =
    c.is_some.ensures
    ∙ route_told c.args.self.now c.requires c.args.prefix c.first_of.result c.last_of.result
    c.between.result c.next.new.self c.next.result c.first_of.ensures c.last_of.ensures
    c.between.ensures c.next.ensures.steps
