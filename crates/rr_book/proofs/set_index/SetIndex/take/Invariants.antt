use Rattle.std.specs.BTreeSet.{contains}
use Rattle.std.specs.Cmp.Lexicographic.{slice_cmp}
use Rattle.std.specs.Ordering.{nat_cmp}
use Rattle.rr_book.proofs.KeysUnderSets.{TakesPrefix}
use Rattle.rr_book.proofs.set_index.SetIndex.take.Given as goal

abbrev pub invariant-loop-name : goal.invariant-loop-name
invariant-loop-name l = TakesPrefix (contains (slice_cmp nat_cmp) l.others) l.name-items
    l.object.key l.name-index l.fn.self.keys l.self.keys
