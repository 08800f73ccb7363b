use Rattle.std.proofs.Common.{sym}
use Rattle.rr_registry.proofs.Rising.{next_reached, none_reached}
use Rattle.rr_registry.proofs.key_order.none_cross.Goals as goal

pub loop-object-init : goal.loop-object-init
loop-object-init c = none_reached c.args.objects.now _ _ c.new-gone_over.ensures

pub loop-object-preserved : goal.loop-object-preserved
loop-object-preserved c =
    next_reached c.args.objects.now c.loop-object.object-index c.object-item.result
    c.key.result.now _ _ _ _ c.loop-object-test.true c.object-item.is (sym c.key.ensures.value)
    c.requires
    c.key.ensures.formed c.loop-object.invariant (λ xs x own rise held. c.in_ok-go_over.ensures xs x
    own rise held c.if-not-branch.false)
