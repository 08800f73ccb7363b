use Rattle.std.proofs.Common.{ℕ, ◌+◌, List, Bool, sym, subst, ◌∙◌}
use Rattle.std.specs.BTreeSet.{contains}
use Rattle.std.specs.Cmp.Lexicographic.{slice_cmp}
use Rattle.std.specs.Ordering.{nat_cmp}
use Rattle.rr_book.specs.declared.set_index.SetIndex.{SetIndex}
use Rattle.rr_book.proofs.KeysUnderSets.{TakesPrefix, left_more, taken_more}
use Rattle.rr_book.proofs.set_index.SetIndex.take.Goals as goal
use Rattle.rr_book.proofs.set_index.SetIndex.take.Goals.{then-not-contains, else-not-contains}

pub loop-name-preserved : goal.loop-name-preserved
loop-name-preserved c =
    let out : List ℕ → Bool = contains (slice_cmp nat_cmp) c.args.others.now in
    let names = c.member_of-name-items.result.now in
    let key = c.args.object.now.key in
    let i = c.loop-name.name-index in
    let before = c.loop-name.invariant in
    elim c.if-not-contains.branch [
      | then-not-contains w ↦
          subst (λ (r : SetIndex). TakesPrefix out names key (i + 1) c.args.self.now.keys r.keys)
          (sym w.self-is)
          (taken_more out names key i c.name-item.result c.args.self.now.keys c.loop-name.self.keys
          w.take_from.new.self.keys c.loop-name-test.true c.name-item.is
          (sym c.contains.ensures ∙ w.if-not-contains.true) before
          (rw w.key.ensures.value at w.take_from.ensures))
      | else-not-contains w ↦
          subst (λ (r : SetIndex). TakesPrefix out names key (i + 1) c.args.self.now.keys r.keys)
          (sym w.self-is)
          (left_more out names key i c.name-item.result c.args.self.now.keys c.loop-name.self.keys
          c.loop-name-test.true c.name-item.is
          (sym c.contains.ensures ∙ w.if-not-contains.false) before)
    ]
