use Rattle.std.proofs.Common.{ℕ, ◌+◌, List, Bool, sym, subst, ◌∙◌}
use Rattle.std.specs.BTreeSet.{contains}
use Rattle.std.specs.Cmp.Lexicographic.{slice_cmp}
use Rattle.std.specs.Ordering.{nat_cmp}
use Rattle.rr_book.specs.declared.set_index.SetIndex.{SetIndex}
use Rattle.rr_book.proofs.KeysUnderSets.{AddsFront, added_more, on_err, passed_more, some_of_all}
use Rattle.rr_book.proofs.set_index.SetIndex.add_each.Goals as goal
use Rattle.rr_book.proofs.set_index.SetIndex.add_each.Goals.{then-not-contains+in_ok-add_under}
use Rattle.rr_book.proofs.set_index.SetIndex.add_each.Goals.{else-not-contains}

pub returns-in_err-add_under-clause-some : goal.returns-in_err-add_under-clause-some
returns-in_err-add_under-clause-some c =
    on_err c.from_residual.result
    (some_of_all (contains (slice_cmp nat_cmp) c.args.others.now) c.args.object.now.member_of
    c.args.object.now.key c.loop-name.name-index c.args.self.now.keys c.loop-name.self.keys
    c.add_under.new.self.keys
    (rw c.member_of-name-items.ensures at c.loop-name.invariant) c.in_err-add_under.ensures.err)

pub loop-name-preserved : goal.loop-name-preserved
loop-name-preserved c =
    let out : List ℕ → Bool = contains (slice_cmp nat_cmp) c.args.others.now in
    let names = c.member_of-name-items.result.now in
    let key = c.args.object.now.key in
    let i = c.loop-name.name-index in
    let before = c.loop-name.invariant in
    elim c.if-not-contains.branch [
      | then-not-contains+in_ok-add_under w ↦
          subst (λ (r : SetIndex). AddsFront out names key (i + 1) c.args.self.now.keys r.keys)
          (sym w.self-is)
          (added_more out names key i c.name-item.result c.args.self.now.keys c.loop-name.self.keys
          w.add_under.new.self.keys c.loop-name-test.true c.name-item.is
          (sym c.contains.ensures ∙ w.if-not-contains.true) before
          (rw w.key.ensures.value at w.in_ok-add_under.ensures.ok))
      | else-not-contains w ↦
          subst (λ (r : SetIndex). AddsFront out names key (i + 1) c.args.self.now.keys r.keys)
          (sym w.self-is)
          (passed_more out names key i c.name-item.result c.args.self.now.keys
          c.loop-name.self.keys c.loop-name-test.true c.name-item.is
          (sym c.contains.ensures ∙ w.if-not-contains.false) before)
    ]
