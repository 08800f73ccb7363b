use Rattle.rr_registry.proofs.Mntners.{named_more}
use Rattle.rr_registry.proofs.load.names_of_mntners.Goals as goal

pub loop-object-preserved : goal.loop-object-preserved
loop-object-preserved c =
    named_more c.args.objects.now c.loop-object.object-index c.object-item.result c.key.result.now
    c.loop-object.mntners c.add_mntner.new.mntners
    c.loop-object-test.true c.object-item.is c.key.ensures.value c.loop-object.invariant
    c.in_ok-add_mntner.ensures
