use Rattle.rr_object.specs.Objects.{names_of}
use Rattle.rr_index.proofs.Namings.{CountsSo}
use Rattle.rr_index.proofs.naming_index.NamingIndex.add_each.Given as goal

abbrev pub invariant-loop-name : goal.invariant-loop-name
invariant-loop-name l = CountsSo (names_of l.object) l.name-iterator l.object.key l.counted
    l.fn.self.counts l.self.counts
