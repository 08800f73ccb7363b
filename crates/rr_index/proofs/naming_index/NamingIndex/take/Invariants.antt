use Rattle.rr_object.specs.Objects.{names_of}
use Rattle.rr_index.proofs.Namings.{TakesSo}
use Rattle.rr_index.proofs.naming_index.NamingIndex.take.Given as goal

abbrev pub invariant-loop-name : goal.invariant-loop-name
invariant-loop-name l = TakesSo (names_of l.object) l.name-iterator l.object.key l.fn.self.counts
    l.self.counts
