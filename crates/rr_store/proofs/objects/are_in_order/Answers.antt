use Rattle.std.proofs.Common.{length, ◌≡◌, arith, sym, subst}
use Rattle.rr_store.proofs.OrderLemmas.{AreChained, chain_rises}
use Rattle.rr_store.proofs.TidyLemmas.{none_of_length}
use Rattle.rr_store.proofs.objects.are_in_order.Goals as goal

pub returns-clause-is : goal.returns-clause-is
returns-clause-is c held =
    let rest = c.loop-rest.rest.now in
    let none : length rest ≡ 0 = omega (arith, c.in_default.len_below) in
    chain_rises c.args.objects.now
    (c.loop-rest.invariant.0 (subst AreChained (sym (none_of_length rest none)) tt))
