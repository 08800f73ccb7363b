use Rattle.std.proofs.Common.{sym, subst}
use Rattle.std.proofs.lemmas.Bool.{both_ways}
use Rattle.rr_store.specs.Maps.{AreInOrder}
use Rattle.rr_store.proofs.OrderLemmas.{apart_permutes, sorted_in_order}
use Rattle.rr_store.proofs.objects.in_order.Goals as goal

pub returns-else-are_in_order-2-clause-fault : goal.returns-else-are_in_order-2-clause-fault
returns-else-are_in_order-2-clause-fault c bad apart =
    let now = c.in_ok-sorted.sorted.items in
    let up = sorted_in_order now c.in_ok-sorted.ensures.order
    ((apart_permutes c.args.objects.items now c.in_ok-sorted.ensures.same).1 apart) in
    both_ways c.are_in_order-2.result c.if-are_in_order-2.false
    (c.are_in_order-2.ensures.only (subst AreInOrder (sym c.deref-2.ensures.value) up))
