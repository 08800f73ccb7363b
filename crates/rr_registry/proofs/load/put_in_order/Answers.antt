use Rattle.std.proofs.Common.{◌≡◌, length, arith, rules}
use Rattle.std.specs.Vec.Iter.{into_iter_items, into_iter_len}
use Rattle.rr_registry.proofs.Gathering.{start}
use Rattle.rr_registry.proofs.load.put_in_order.Goals as goal

pub loop-object-init : goal.loop-object-init
loop-object-init c =
    let rest = c.into_iter-object-iterator.ensures.into_iter_gives in
    let begun = start c.args.objects.items _ _ c.new-gathered.ensures.none rest.0 in
    let all : into_iter_len c.into_iter-object-iterator.result
    ≡ length (into_iter_items c.into_iter-object-iterator.result) = search rules in (
      c.new-gathered.ensures.consistent,
      begun.same_clash,
      begun.same_whole,
      omega (arith, rest.2),
      all,
    )
