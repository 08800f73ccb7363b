use Rattle.rr_book.proofs.KeysUnderSets.{indexed_by_all}
use Rattle.rr_book.proofs.plain_book.PlainBookKeeper.of.Goals as goal

pub invariant_of-result : goal.invariant_of-result
invariant_of-result c =
    let under = rw c.deref.ensures.value at c.in_ok-referrers.ensures in
    indexed_by_all c.args.objects.items c.in_ok-referrers.referrers.keys c.requires under
