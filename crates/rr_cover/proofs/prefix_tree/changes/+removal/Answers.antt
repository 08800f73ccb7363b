use Rattle.std.proofs.Common.{◌≡◌, true, false, None, ap, sym, subst, ◌∙◌, rules}
use Rattle.std.specs.Ordering.{eq_by_cmp}
use Rattle.rr_number.specs.Prefixes.{span_of}
use Rattle.rr_number.specs.Spans.{span_cmp}
use Rattle.rr_cover.specs.PrefixTrees.{in_upper, IsRootedOn, IsFork, IsTree}
use Rattle.rr_cover.specs.TreeParts.{standing}
use Rattle.rr_cover.proofs.Ties.{tied_same}
use Rattle.rr_cover.proofs.TreeHalves.{ends_ordered}
use Rattle.rr_cover.proofs.TreeHeld.{stands_root, stands_upper, stands_lower}
use Rattle.rr_cover.proofs.TreeChanged.{changed_root, changed_upper, changed_lower, fork_upper}
use Rattle.rr_cover.proofs.TreeChanged.{fork_lower}
use Rattle.rr_cover.proofs.prefix_tree.changes.+removal.Goals as goal

pub take-returns : goal.take-returns
take-returns g t c = record {
  value = search rules;
  all = search rules;
  tree = search rules;
  root = λ p side rooted. c.tidy.ensures.root p side
      (subst (IsRootedOn p side) (sym c.replace-whole.ensures.value)
      (c.take_below-value.ensures.root p side rooted));
}

-- the root has the prefix
pub take_below-returns-then-is_same : goal.take_below-returns-then-is_same
take_below-returns-then-is_same g t c = record {
  value = let node = c.in-Fork.node.value in
      let is = subst IsTree c.in-Fork.is c.requires in
      let tied : eq_by_cmp span_cmp (span_of c.args.prefix) (span_of node.prefix) ≡ true =
      sym (rw c.deref.ensures at c.if-is_same.ensures) in
      c.take.ensures.value ∙ rw c.deref_mut.ensures.value
      (sym (stands_root c.args.tree.now node.prefix node.value node.lower node.upper
      (record { all = λ s. ap (λ n. standing n s) c.in-Fork.is }) is (span_of c.args.prefix)
      tied));
  all = let node = c.in-Fork.node.value in
      let is = subst IsTree c.in-Fork.is c.requires in
      let tied : eq_by_cmp span_cmp (span_of c.args.prefix) (span_of node.prefix) ≡ true =
      sym (rw c.deref.ensures at c.if-is_same.ensures) in
      rw (c.deref_mut.ensures.value, c.take.ensures.after) (changed_root c.args.tree.now node.prefix
      node.value node.lower node.upper
      (record { all = λ s. ap (λ n. standing n s) c.in-Fork.is }) is (span_of c.args.prefix) None
      (tied_same _ _ tied));
  tree = search rules;
  root = search rules;
}

-- the prefix lies in the upper half
pub take_below-returns-then-is_upper : goal.take_below-returns-then-is_upper
take_below-returns-then-is_upper g t c = record {
  value = let node = c.in-Fork.node.value in
      let is = subst IsTree c.in-Fork.is c.requires in
      let apart : eq_by_cmp span_cmp (span_of c.args.prefix) (span_of node.prefix) ≡ false =
      sym (rw c.deref.ensures at c.if-is_same.ensures) in
      let lies : in_upper node.prefix (span_of c.args.prefix) ≡ true =
      sym (rw (c.deref-else-is_same.ensures, c.span.ensures) at c.if-is_upper.ensures) in
      c.take-then-is_upper.ensures.value ∙ rw c.deref_mut-then-is_upper.ensures.value
      (sym (stands_upper c.args.tree.now node.prefix node.value node.lower node.upper
      (record { all = λ s. ap (λ n. standing n s) c.in-Fork.is }) is (span_of c.args.prefix)
      (ends_ordered c.args.prefix) apart lies));
  all = let node = c.in-Fork.node.value in
      let is = subst IsTree c.in-Fork.is c.requires in
      let lies : in_upper node.prefix (span_of c.args.prefix) ≡ true =
      sym (rw (c.deref-else-is_same.ensures, c.span.ensures) at c.if-is_upper.ensures) in
      rw c.deref_mut-then-is_upper.ensures.value (changed_upper c.args.tree.now node.prefix
      node.value node.lower node.upper
      (record { all = λ s. ap (λ n. standing n s) c.in-Fork.is }) is (span_of c.args.prefix) None
      c.take-then-is_upper.new.tree (ends_ordered c.args.prefix) lies
      (rw c.deref_mut-then-is_upper.ensures.value at c.take-then-is_upper.ensures.all));
  tree = let now = c.deref_mut-then-is_upper.result.now in
      let is : IsFork now.prefix now.lower now.upper × (IsTree now.lower × IsTree now.upper) =
      rw c.deref_mut-then-is_upper.ensures.value (subst IsTree c.in-Fork.is c.requires) in
      fork_upper now.prefix now.lower now.upper c.take-then-is_upper.new.tree is
      (c.take-then-is_upper.ensures.root now.prefix true is.0.high)
      c.take-then-is_upper.ensures.tree;
  root = search rules;
}

-- it does not
pub take_below-returns-else-is_upper : goal.take_below-returns-else-is_upper
take_below-returns-else-is_upper g t c = record {
  value = let node = c.in-Fork.node.value in
      let is = subst IsTree c.in-Fork.is c.requires in
      let apart : eq_by_cmp span_cmp (span_of c.args.prefix) (span_of node.prefix) ≡ false =
      sym (rw c.deref.ensures at c.if-is_same.ensures) in
      let lies : in_upper node.prefix (span_of c.args.prefix) ≡ false =
      sym (rw (c.deref-else-is_same.ensures, c.span.ensures) at c.if-is_upper.ensures) in
      c.take-else-is_upper.ensures.value ∙ rw c.deref_mut-else-is_upper.ensures.value
      (sym (stands_lower c.args.tree.now node.prefix node.value node.lower node.upper
      (record { all = λ s. ap (λ n. standing n s) c.in-Fork.is }) is (span_of c.args.prefix)
      (ends_ordered c.args.prefix) apart lies));
  all = let node = c.in-Fork.node.value in
      let is = subst IsTree c.in-Fork.is c.requires in
      let apart : eq_by_cmp span_cmp (span_of c.args.prefix) (span_of node.prefix) ≡ false =
      sym (rw c.deref.ensures at c.if-is_same.ensures) in
      let lies : in_upper node.prefix (span_of c.args.prefix) ≡ false =
      sym (rw (c.deref-else-is_same.ensures, c.span.ensures) at c.if-is_upper.ensures) in
      rw c.deref_mut-else-is_upper.ensures.value (changed_lower c.args.tree.now node.prefix
      node.value node.lower node.upper
      (record { all = λ s. ap (λ n. standing n s) c.in-Fork.is }) is (span_of c.args.prefix) None
      c.take-else-is_upper.new.tree apart lies (rw c.deref_mut-else-is_upper.ensures.value at
      c.take-else-is_upper.ensures.all));
  tree = let now = c.deref_mut-else-is_upper.result.now in
      let is : IsFork now.prefix now.lower now.upper × (IsTree now.lower × IsTree now.upper) =
      rw c.deref_mut-else-is_upper.ensures.value (subst IsTree c.in-Fork.is c.requires) in
      fork_lower now.prefix now.lower now.upper c.take-else-is_upper.new.tree is
      (c.take-else-is_upper.ensures.root now.prefix false is.0.low)
      c.take-else-is_upper.ensures.tree;
  root = search rules;
}
