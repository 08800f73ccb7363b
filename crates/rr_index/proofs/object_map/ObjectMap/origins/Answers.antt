use Rattle.std.proofs.Common.{ℕ, List, ◌++◌, ap, ◌∙◌}
use Rattle.std.specs.Map.{values_of}
use Rattle.std.specs.Ordering.{is_gt}
use Rattle.rr_object.specs.KeyOrders.{key_cmp}
use Rattle.rr_auth.specs.Closest.{origins_among}
use Rattle.rr_index.proofs.Ranges.{origins_between_keys, origins_forward}
use Rattle.rr_index.proofs.object_map.ObjectMap.origins.Goals as goal

pub loop-object-init : goal.loop-object-init
loop-object-init c =
    ap (λ (xs : List ℕ). xs ++ origins_among (values_of c.into_iter-object-iterator.result)
    c.args.prefix) c.new-origins.ensures.items
    ∙ ap (λ es. origins_among (values_of es) c.args.prefix)
    (c.into_iter-object-iterator.ensures.into_iter_gives ∙ c.between-object-items.ensures)
    ∙ origins_between_keys c.args.self.now c.requires c.args.prefix c.first_of.result
    c.last_of.result c.first_of.ensures c.last_of.ensures

pub between-object-items-requires : goal.between-object-items-requires
between-object-items-requires c =
    (λ i. is_gt (key_cmp (c.first_of.ensures i) (c.last_of.ensures i))) ∙ origins_forward
    c.args.prefix
