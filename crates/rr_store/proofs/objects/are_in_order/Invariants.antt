use Rattle.std.proofs.Common.{length}
use Rattle.rr_store.specs.Maps.{AreInOrder}
use Rattle.rr_store.proofs.OrderLemmas.{AreChained}
use Rattle.rr_store.proofs.objects.are_in_order.Given as goal

abbrev pub invariant-loop-rest : goal.invariant-loop-rest
invariant-loop-rest l = (AreChained l.rest → AreChained l.objects)
    × (AreInOrder l.objects → AreInOrder l.rest)

abbrev pub decreases-loop-rest : goal.decreases-loop-rest
decreases-loop-rest l = length l.rest
