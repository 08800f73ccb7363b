use Rattle.std.proofs.Common.{◌≡◌, true, false, ap, sym, subst}
use Rattle.rr_number.specs.Prefixes.{span_of}
use Rattle.rr_number.specs.Spans.{covers}
use Rattle.rr_cover.specs.PrefixTrees.{IsTree}
use Rattle.rr_cover.specs.TreeParts.{standing, IsSmallestCover, NoCover}
use Rattle.rr_cover.proofs.TreeHalves.{ends_ordered}
use Rattle.rr_cover.proofs.TreeHeld.{cover_below, cover_root, no_cover, no_cover_root}
use Rattle.rr_cover.proofs.prefix_tree.reading.+smallest_cover.Goals as goal

pub returns-then-not-covers-clause-none : goal.returns-then-not-covers-clause-none
returns-then-not-covers-clause-none g t c =
    let node = c.in-Fork.node.value in
    let is = subst IsTree c.in-Fork.is c.requires in
    let apart : covers (span_of node.prefix) (span_of c.args.prefix) ≡ false =
    sym (rw c.deref.ensures at c.if-not-covers.ensures) in
    no_cover_root c.args.tree.now node.prefix node.value node.lower node.upper
    (record { all = λ s. ap (λ n. standing n s) c.in-Fork.is }) is (span_of c.args.prefix) apart

pub returns-in-Some-clause-found : goal.returns-in-Some-clause-found
returns-in-Some-clause-found g t c =
    let node = c.in-Fork.node.value in
    let is = subst IsTree c.in-Fork.is c.requires in
    let side = rw c.deref-in-Fork.ensures at c.side.ensures in
    cover_below c.args.tree.now node.prefix node.value node.lower node.upper
    (record { all = λ s. ap (λ n. standing n s) c.in-Fork.is }) is (span_of c.args.prefix) _ _
    (ends_ordered c.args.prefix)
    (subst (λ n. IsSmallestCover n (span_of c.args.prefix) (span_of c.in-Some.found.0)
    c.in-Some.found.1.now) side c.in-Some.ensures.found)

pub returns-in-Some-value-clause-found : goal.returns-in-Some-value-clause-found
returns-in-Some-value-clause-found g t c =
    let node = c.in-Fork.node.value in
    let is = subst IsTree c.in-Fork.is c.requires in
    let over : covers (span_of node.prefix) (span_of c.args.prefix) ≡ true =
    sym (rw c.deref.ensures at c.if-not-covers.ensures) in
    let side = rw c.deref-in-Fork.ensures at c.side.ensures in
    rw c.deref-in-Some-value.ensures (cover_root c.args.tree.now node.prefix node.value node.lower
    node.upper (record { all = λ s. ap (λ n. standing n s) c.in-Fork.is }) is
    (span_of c.args.prefix) c.in-Some-value.value (ends_ordered c.args.prefix)
    (rw c.deref-in-None.ensures at c.in-Some-value.is) over
    (subst (λ n. NoCover n (span_of c.args.prefix)) side c.in-None.ensures.none))

pub returns-in-None-value-clause-none : goal.returns-in-None-value-clause-none
returns-in-None-value-clause-none g t c =
    let node = c.in-Fork.node.value in
    let is = subst IsTree c.in-Fork.is c.requires in
    let side = rw c.deref-in-Fork.ensures at c.side.ensures in
    no_cover c.args.tree.now node.prefix node.value node.lower node.upper
    (record { all = λ s. ap (λ n. standing n s) c.in-Fork.is }) is (span_of c.args.prefix)
    (ends_ordered c.args.prefix) (rw c.deref-in-None.ensures at c.in-None-value.is)
    (subst (λ n. NoCover n (span_of c.args.prefix)) side c.in-None.ensures.none)
