use Rattle.std.proofs.Common.{rules}
use Rattle.std.specs.Ordering.{is_gt}
use Rattle.std.proofs.lemmas.List.Sorted.{IsPartitionPoint-from_clause}
use Rattle.rr_object.specs.KeyOrders.{key_cmp}
use Rattle.rr_object.specs.declared.key.Key.TheVariants.{Mntner}
use Rattle.rr_book.proofs.Places.{in_order_parted, place_of_part}
use Rattle.rr_book.proofs.object_lists.place_of_mntner.Goals as goal

pub returns : goal.returns
returns c =
    let parted = in_order_parted (Mntner c.args.name.now) c.args.objects.now c.requires in
    place_of_part (Mntner c.args.name.now) _ _ c.partition_point.ensures.bound
    (IsPartitionPoint-from_clause (λ o. is_gt (key_cmp (Mntner c.args.name.now) o.key)) _ _
    c.partition_point.ensures.partitioned parted (λ a r q k. search rules))
