use Rattle.std.proofs.Common.{◌≡◌, true, ap, sym, ◌∙◌}
use Rattle.rr_cover.specs.TreeParts.{standing, is_idle}
use Rattle.rr_cover.proofs.TreeChanged.{idle_all}
use Rattle.rr_cover.proofs.prefix_tree.changes.tidy.Goals as goal

pub returns-then-is_idle-clause-all : goal.returns-then-is_idle-clause-all
returns-then-is_idle-clause-all g c = λ s.
    let node = c.in-Fork.node.value in
    let idle : is_idle node.value node.lower node.upper ≡ true =
    sym (rw c.deref.ensures at c.if-is_idle.ensures) in
    ap (λ n. standing n s) (rw c.into_inner.ensures at c.only_side.ensures) ∙ idle_all node.prefix
    node.value node.lower node.upper s idle ∙ sym (ap (λ n. standing n s) c.in-Fork.is)
