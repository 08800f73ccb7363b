-- Prefixes grow longer from level to level of a tree.
use Rattle.std.proofs.Common.{◌+◌, ◌-◌, ◌≤◌, Bool, ap, ◌∙◌, arith}
use Rattle.rr_number.specs.Prefixes.{PrefixParts, IsMasked, span_of}
use Rattle.rr_cover.specs.PrefixTrees.{lies_on, IsRootedOn, IsTree}
use Rattle.rr_cover.specs.TreeParts.{room}
use Rattle.rr_cover.specs.declared.prefix_tree.Tree.{Tree}
use Rattle.rr_cover.specs.declared.prefix_tree.Tree.TheVariants.{Empty, Fork'}
use Rattle.rr_cover.proofs.Ties.{contradicted}
use Rattle.rr_cover.proofs.TreeHalves.{covers_half, not_in_itself}
use Rattle.rr_cover.proofs.TreeParting.{strictly}

module _ {T : Type 0} where
  -- below a node there is room for fewer levels than from it on
  pub room_falls : (p : PrefixParts) (side : Bool) (below : Tree T) → IsMasked p →
      IsRootedOn p side below → IsTree below → room below + 1 ≤ 33 - p.length
  room_falls p side Empty is rooted order = let short = is.short in omega arith
  room_falls p side (Fork' a q value lower upper) is rooted order =
      let longer = strictly p q is order.0.masked (covers_half p side (span_of q) rooted)
      (λ same. contradicted _ (not_in_itself p side) (ap (λ r. lies_on p side (span_of r)) same
      ∙ rooted)) in
      let short = order.0.masked.short in
      omega arith

  pub room_most : (tree : Tree T) → room tree ≤ 33
  room_most Empty = omega arith
  room_most (Fork' a prefix value lower upper) = omega arith
