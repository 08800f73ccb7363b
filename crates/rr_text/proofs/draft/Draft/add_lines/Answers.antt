-- The lines so far are added, one more or up to the one that closes.
use Rattle.std.proofs.Common.{◌≡◌, ◌∙◌, ◌++◌, [], List, ℕ, length, sym, ap, subst, append_assoc}
use Rattle.std.proofs.Common.{arith, refl}
use Rattle.std.proofs.lemmas.Bool.Decides.{nat_tests}
use Rattle.std.proofs.lemmas.List.{append-nil}
use Rattle.rr_text.specs.DraftParts.{IsUnclosed}
use Rattle.rr_text.proofs.DraftLemmas.{lines_taken, lines_closed, empty_list}
use Rattle.rr_text.proofs.draft.Draft.add_lines.Goals as goal

pub lines-init : goal.lines-init
lines-init c = (
  [],
  refl,
  λ past unclosed. subst (λ (t : List ℕ). IsUnclosed t c.args.self.now)
      (sym (append-nil past)) unclosed,
)

pub lines-preserved : goal.lines-preserved
lines-preserved c =
    let so = c.lines.invariant in (
      so.0 ++ c.split_line.result.0.now,
      lines_taken _ _ _ _ _ so.1 c.split_line.ensures.whole,
      λ past unclosed. subst (λ (t : List ℕ). IsUnclosed t c.add.new.self)
          (append_assoc past so.0 c.split_line.result.0.now)
          (c.if-add.ensures (past ++ so.0) (so.2 past unclosed)),
    )

pub returns-then-add-clause-adds : goal.returns-then-add-clause-adds
returns-then-add-clause-adds c = λ past unclosed.
    let so = c.lines.invariant in
    lines_closed past _ so.0 _ _ _ _ so.1 c.split_line.ensures.whole
    (c.if-add.ensures (past ++ so.0) (so.2 past unclosed))

pub returns-clause-adds : goal.returns-clause-adds
returns-clause-adds c = λ past unclosed.
    let so = c.lines.invariant in
    let none : length c.lines.rest.now ≡ 0 = grind (arith, nat_tests) in
    let all : c.args.text.now ≡ so.0 = so.1 ∙ (ap (λ r. so.0 ++ r) (empty_list _ none) ∙ append-nil
    so.0) in
    subst (λ (t : List ℕ). IsUnclosed (past ++ t) c.lines.self) (sym all) (so.2 past unclosed)
