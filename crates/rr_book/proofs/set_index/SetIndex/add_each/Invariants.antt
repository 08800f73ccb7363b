use Rattle.std.specs.BTreeSet.{contains}
use Rattle.std.specs.Cmp.Lexicographic.{slice_cmp}
use Rattle.std.specs.Ordering.{nat_cmp}
use Rattle.rr_book.proofs.KeysUnderSets.{AddsFront}
use Rattle.rr_book.proofs.set_index.SetIndex.add_each.Given as goal

abbrev pub invariant-loop-name : goal.invariant-loop-name
invariant-loop-name l = AddsFront (contains (slice_cmp nat_cmp) l.others) l.name-items l.object.key
    l.name-index l.fn.self.keys l.self.keys
