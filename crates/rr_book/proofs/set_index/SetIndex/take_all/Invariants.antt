use Rattle.std.specs.Prelude.{false}
use Rattle.rr_book.proofs.KeysUnderSets.{TakesPrefix}
use Rattle.rr_book.proofs.set_index.SetIndex.take_all.Given as goal

abbrev pub invariant-loop-name : goal.invariant-loop-name
invariant-loop-name l = TakesPrefix (λ other. false) l.name-items l.object.key l.name-index
    l.fn.self.keys l.self.keys
