use Rattle.std.proofs.Common.{false, refl}
use Rattle.rr_book.proofs.KeysUnderSets.{taken_more}
use Rattle.rr_book.proofs.set_index.SetIndex.take_all.Goals as goal

pub loop-name-preserved : goal.loop-name-preserved
loop-name-preserved c =
    taken_more (λ other. false) c.member_of-name-items.result.now c.args.object.now.key
    c.loop-name.name-index c.name-item.result c.args.self.now.keys c.loop-name.self.keys
    c.take_from.new.self.keys c.loop-name-test.true c.name-item.is
    refl c.loop-name.invariant (rw c.key.ensures.value at c.take_from.ensures)
