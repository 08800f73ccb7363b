use Rattle.std.proofs.Common.{true, ℕ, List, subst}
use Rattle.std.specs.BTreeSet.{Updates}
use Rattle.std.specs.Cmp.Lexicographic.{slice_cmp}
use Rattle.std.specs.Ordering.{nat_cmp}
use Rattle.rr_book.proofs.KeysUnderSets.{set_more}
use Rattle.rr_book.proofs.set_index.sets_among.Goals as goal

pub loop-name-preserved : goal.loop-name-preserved
loop-name-preserved c =
    let update : Updates (slice_cmp nat_cmp) c.loop-name.sets c.insert.new.self c.name-item.result
    true =
    subst (λ (name : List ℕ). Updates (slice_cmp nat_cmp) c.loop-name.sets c.insert.new.self name
    true) c.in_ok-copy.ensures c.in_ok-insert.ensures.updates in
    set_more c.args.names.now c.loop-name.name-index c.name-item.result c.loop-name.sets
    c.insert.new.self c.loop-name-test.true c.name-item.is update c.loop-name.invariant
