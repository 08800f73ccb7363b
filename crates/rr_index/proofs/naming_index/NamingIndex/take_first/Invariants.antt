use Rattle.std.proofs.Common.{take}
use Rattle.rr_object.specs.Objects.{names_of}
use Rattle.rr_index.proofs.Namings.{TakesSo}
use Rattle.rr_index.proofs.naming_index.NamingIndex.take_first.Given as goal

abbrev pub invariant-loop-name : goal.invariant-loop-name
invariant-loop-name l = TakesSo (take l.fn.counted (names_of l.object))
    (take l.left l.name-iterator) l.object.key l.fn.self.counts l.self.counts
