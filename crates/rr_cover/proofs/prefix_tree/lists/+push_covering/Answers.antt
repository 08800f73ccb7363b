use Rattle.std.proofs.Common.{◌≡◌, true, false, ◌||◌, ◌&&◌, is_some, ap, sym, subst, ◌∙◌}
use Rattle.std.proofs.lemmas.Result.{on_ok_weaker}
use Rattle.rr_number.specs.Prefixes.{span_of}
use Rattle.rr_number.specs.Spans.{covers}
use Rattle.rr_cover.specs.PrefixTrees.{IsTree}
use Rattle.rr_cover.specs.TreeParts.{standing, is_listed}
use Rattle.rr_cover.proofs.TreeLists.{listed_all, none_covering, and_test}
use Rattle.rr_cover.proofs.prefix_tree.lists.+push_covering.Goals as goal

pub returns-then-not-covers : goal.returns-then-not-covers
returns-then-not-covers g t c =
    let node = c.in-Fork.node.value in
    let is = subst IsTree c.in-Fork.is c.requires in
    let apart : covers (span_of node.prefix) c.args.span ≡ false =
    sym (rw (c.span.ensures, c.deref.ensures) at c.if-not-covers.ensures) in
    record {
      ok = λ u. none_covering c.args.tree.now node.prefix node.value node.lower node.upper
          (record { all = λ s. ap (λ n. standing n s) c.in-Fork.is }) is c.args.span u
          (is_listed c.args.out.now.items u) apart;
    }

pub returns-in_ok-push_covering-in-Fork : goal.returns-in_ok-push_covering-in-Fork
returns-in_ok-push_covering-in-Fork g t c =
    let node = c.in-Fork.node.value in
    let over : covers (span_of node.prefix) c.args.span ≡ true =
    sym (rw (c.span.ensures, c.deref.ensures) at c.if-not-covers.ensures) in
    let own = rw c.deref-in-Fork-2.ensures at c.in_ok-push_if-in-Fork.ensures.ok in
    let low = rw c.deref-in-Fork-3.ensures at c.in_ok-push_covering-in-Fork.ensures.ok in
    let high = rw c.deref-in-Fork-4.ensures at c.push_covering-in-Fork.ensures.ok in
    let has : c.is_some.result ≡ is_some node.value = rw c.deref-in-Fork.ensures at
    c.is_some.ensures in
    record {
      ok = on_ok_weaker c.push_covering-in-Fork.result (λ last u.
          last u
          ∙ ap (λ b. b || (is_some (standing node.upper u) && covers u c.args.span))
          (low u ∙ ap (λ b. b || (is_some (standing node.lower u) && covers u c.args.span))
          (own u))
          ∙ listed_all c.args.tree.now node.prefix node.value node.lower node.upper
          (record { all = λ s. ap (λ n. standing n s) c.in-Fork.is }) u
          (is_listed c.args.out.now.items u) c.is_some.result (covers u c.args.span)
          (λ same. has ∙ and_test (is_some node.value) (covers u c.args.span)
          (ap (λ t. covers t c.args.span) same ∙ over))) high;
    }
