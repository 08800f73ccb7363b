use Rattle.std.proofs.Common.{◌≡◌, true, false, Some, ap, sym, subst, ◌∙◌, rules}
use Rattle.std.proofs.lemmas.Result.{on_ok_weaker}
use Rattle.std.specs.Ordering.{eq_by_cmp}
use Rattle.std.specs.Result.{IfOk}
use Rattle.rr_number.specs.Prefixes.{span_of}
use Rattle.rr_number.specs.Spans.{covers, span_cmp}
use Rattle.rr_cover.specs.PrefixTrees.{in_upper, lies_on, IsFork, IsTree}
use Rattle.rr_cover.specs.TreeParts.{standing, is_above}
use Rattle.rr_cover.proofs.TreeAdded.{missing_above, lies_lower, other_prefix}
use Rattle.rr_cover.proofs.TreeChanged.{changed_upper, changed_lower, fork_upper, fork_lower}
use Rattle.rr_cover.proofs.TreeHalves.{ends_ordered}
use Rattle.rr_cover.proofs.TreeHeld.{stands_root, stands_upper, stands_lower}
use Rattle.rr_cover.proofs.prefix_tree.adding.+insertion.Goals as goal

pub set-returns-then-is_above-clause-root : goal.set-returns-then-is_above-clause-root
set-returns-then-is_above-clause-root g t c = λ p side is_p lies rooted. c.set_below.ensures.root p
    side rooted

pub set-returns-clause-stood : goal.set-returns-clause-stood
set-returns-clause-stood g t c =
    sym (missing_above c.args.tree.now (span_of c.args.prefix) c.requires.order
    (sym c.if-is_above.ensures))

-- the root has the prefix
pub set_below-returns-then-is_same-clause-stood : goal.set_below-returns-then-is_same-clause-stood
set_below-returns-then-is_same-clause-stood g t c =
    let node = c.in-Fork.node.value in
    let is = subst IsTree c.in-Fork.is c.requires.ready.order in
    let tied : eq_by_cmp span_cmp (span_of c.args.prefix) (span_of node.prefix) ≡ true =
    sym (rw c.deref.ensures at c.if-is_same.ensures) in
    c.replace.ensures.value ∙ rw c.deref_mut.ensures.value
    (sym (stands_root c.args.tree.now node.prefix node.value node.lower node.upper
    (record { all = λ s. ap (λ n. standing n s) c.in-Fork.is }) is (span_of c.args.prefix)
    tied))

-- the prefix lies in the upper half
pub set_below-returns-then-is_upper-clause-stood : goal.set_below-returns-then-is_upper-clause-stood
set_below-returns-then-is_upper-clause-stood g t c =
    let node = c.in-Fork.node.value in
    let is = subst IsTree c.in-Fork.is c.requires.ready.order in
    let apart : eq_by_cmp span_cmp (span_of c.args.prefix) (span_of node.prefix) ≡ false =
    sym (rw c.deref.ensures at c.if-is_same.ensures) in
    let lies : in_upper node.prefix (span_of c.args.prefix) ≡ true =
    sym (rw (c.deref-else-is_same.ensures, c.span.ensures) at c.if-is_upper.ensures) in
    subst (λ o. IfOk c.set.result (λ old. old ≡ o)) (rw c.deref_mut-then-is_upper.ensures.value
    (sym (stands_upper c.args.tree.now node.prefix node.value node.lower node.upper
    (record { all = λ s. ap (λ n. standing n s) c.in-Fork.is }) is (span_of c.args.prefix)
    (ends_ordered c.args.prefix) apart lies))) c.set.ensures.stood

pub set_below-returns-then-is_upper-clause-puts : goal.set_below-returns-then-is_upper-clause-puts
set_below-returns-then-is_upper-clause-puts g t c = record {
  all = let node = c.in-Fork.node.value in
      let is = subst IsTree c.in-Fork.is c.requires.ready.order in
      let lies : in_upper node.prefix (span_of c.args.prefix) ≡ true =
      sym (rw (c.deref-else-is_same.ensures, c.span.ensures) at c.if-is_upper.ensures) in
      let all = rw c.deref_mut-then-is_upper.ensures.value at c.set.ensures.puts.all in
      on_ok_weaker c.set.result (λ changed. rw c.deref_mut-then-is_upper.ensures.value
      (changed_upper c.args.tree.now node.prefix node.value node.lower node.upper
      (record { all = λ s. ap (λ n. standing n s) c.in-Fork.is }) is (span_of c.args.prefix)
      (Some c.args.value) c.set.new.tree (ends_ordered c.args.prefix) lies changed)) all;
  err = search rules;
  back = search rules;
  tree = let node = c.in-Fork.node.value in
      let now = c.deref_mut-then-is_upper.result.now in
      let lies : in_upper node.prefix (span_of c.args.prefix) ≡ true =
      sym (rw (c.deref-else-is_same.ensures, c.span.ensures) at c.if-is_upper.ensures) in
      let is : IsFork now.prefix now.lower now.upper × (IsTree now.lower × IsTree now.upper) =
      rw c.deref_mut-then-is_upper.ensures.value
      (subst IsTree c.in-Fork.is c.requires.ready.order) in
      let there : lies_on now.prefix true (span_of c.args.prefix) ≡ true =
      rw c.deref_mut-then-is_upper.ensures.value lies in
      fork_upper now.prefix now.lower now.upper c.set.new.tree is
      (c.set.ensures.root now.prefix true is.0.masked there is.0.high) c.set.ensures.puts.tree;
}

-- it lies in the lower one
pub set_below-returns-else-is_upper-clause-stood : goal.set_below-returns-else-is_upper-clause-stood
set_below-returns-else-is_upper-clause-stood g t c =
    let node = c.in-Fork.node.value in
    let is = subst IsTree c.in-Fork.is c.requires.ready.order in
    let apart : eq_by_cmp span_cmp (span_of c.args.prefix) (span_of node.prefix) ≡ false =
    sym (rw c.deref.ensures at c.if-is_same.ensures) in
    let lies : in_upper node.prefix (span_of c.args.prefix) ≡ false =
    sym (rw (c.deref-else-is_same.ensures, c.span.ensures) at c.if-is_upper.ensures) in
    subst (λ o. IfOk c.set-else-is_upper.result (λ old. old ≡ o))
    (rw c.deref_mut-else-is_upper.ensures.value
    (sym (stands_lower c.args.tree.now node.prefix node.value node.lower node.upper
    (record { all = λ s. ap (λ n. standing n s) c.in-Fork.is }) is (span_of c.args.prefix)
    (ends_ordered c.args.prefix) apart lies))) c.set-else-is_upper.ensures.stood

pub set_below-returns-else-is_upper-clause-puts : goal.set_below-returns-else-is_upper-clause-puts
set_below-returns-else-is_upper-clause-puts g t c = record {
  all = let node = c.in-Fork.node.value in
      let is = subst IsTree c.in-Fork.is c.requires.ready.order in
      let apart : eq_by_cmp span_cmp (span_of c.args.prefix) (span_of node.prefix) ≡ false =
      sym (rw c.deref.ensures at c.if-is_same.ensures) in
      let outside : in_upper node.prefix (span_of c.args.prefix) ≡ false =
      sym (rw (c.deref-else-is_same.ensures, c.span.ensures) at c.if-is_upper.ensures) in
      let all = rw c.deref_mut-else-is_upper.ensures.value at
      c.set-else-is_upper.ensures.puts.all in
      on_ok_weaker c.set-else-is_upper.result (λ changed.
      rw c.deref_mut-else-is_upper.ensures.value
      (changed_lower c.args.tree.now node.prefix node.value node.lower node.upper
      (record { all = λ s. ap (λ n. standing n s) c.in-Fork.is }) is (span_of c.args.prefix)
      (Some c.args.value) c.set-else-is_upper.new.tree apart outside changed)) all;
  err = search rules;
  back = search rules;
  tree = let node = c.in-Fork.node.value in
      let now = c.deref_mut-else-is_upper.result.now in
      let order = subst IsTree c.in-Fork.is c.requires.ready.order in
      let apart : eq_by_cmp span_cmp (span_of c.args.prefix) (span_of node.prefix) ≡ false =
      sym (rw c.deref.ensures at c.if-is_same.ensures) in
      let over : covers (span_of node.prefix) (span_of c.args.prefix) ≡ true =
      subst (λ n. is_above n (span_of c.args.prefix) ≡ true) c.in-Fork.is c.requires.over in
      let outside : in_upper node.prefix (span_of c.args.prefix) ≡ false =
      sym (rw (c.deref-else-is_same.ensures, c.span.ensures) at c.if-is_upper.ensures) in
      let lies : lies_on node.prefix false (span_of c.args.prefix) ≡ true =
      lies_lower node.prefix c.args.prefix order.0.masked c.requires.ready.masked over
      (other_prefix node.prefix c.args.prefix apart) outside in
      let is : IsFork now.prefix now.lower now.upper × (IsTree now.lower × IsTree now.upper) =
      rw c.deref_mut-else-is_upper.ensures.value order in
      let there : lies_on now.prefix false (span_of c.args.prefix) ≡ true =
      rw c.deref_mut-else-is_upper.ensures.value lies in
      fork_lower now.prefix now.lower now.upper c.set-else-is_upper.new.tree is
      (c.set-else-is_upper.ensures.root now.prefix false is.0.masked there is.0.low)
      c.set-else-is_upper.ensures.puts.tree;
}
