use Rattle.std.proofs.Common.{rules}
use Rattle.std.specs.Ordering.{is_gt}
use Rattle.std.proofs.lemmas.List.Sorted.{IsPartitionPoint-from_clause}
use Rattle.rr_object.specs.KeyOrders.{key_cmp}
use Rattle.rr_book.proofs.Places.{in_order_parted, place_of_part}
use Rattle.rr_book.proofs.object_lists.place.Goals as goal

pub returns-clause-value : goal.returns-clause-value
returns-clause-value c =
    let parted = in_order_parted c.args.key.now c.args.objects.now c.requires in
    place_of_part c.args.key.now _ _ c.partition_point.ensures.bound
    (IsPartitionPoint-from_clause (λ o. is_gt (key_cmp c.args.key.now o.key)) _ _
    c.partition_point.ensures.partitioned parted (λ a r q k. search rules))
