use Rattle.rr_registry.proofs.Rising.{IsReachedAt}
use Rattle.rr_registry.proofs.key_order.none_cross.Given as goal

abbrev pub invariant-loop-object : goal.invariant-loop-object
invariant-loop-object l = IsReachedAt l.objects l.object-index l.gone_over.inetnums
    l.gone_over.blocks
