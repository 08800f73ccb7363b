-- A tree of prefixes with a node put in at its root.
use Rattle.std.proofs.Common.{◌≡◌, Bool, true, false, cond, not, Option, Some, None, is_some, refl}
use Rattle.std.proofs.Common.{sym, ap, subst, ◌∙◌}
use Rattle.std.specs.Option.{option_or}
use Rattle.std.specs.Ordering.{eq_by_cmp}
use Rattle.rr_number.specs.Prefixes.{PrefixParts, IsMasked, span_of}
use Rattle.rr_number.specs.Spans.{Ends, covers, span_cmp}
use Rattle.rr_cover.specs.PrefixTrees.{lies_on, IsRootedOn, IsTree}
use Rattle.rr_cover.specs.TreeParts.{own, standing, is_above, root_of, IsParting}
use Rattle.rr_cover.specs.declared.prefix_tree.Tree.{Tree}
use Rattle.rr_cover.specs.declared.prefix_tree.Tree.TheVariants.{Empty, Fork'}
use Rattle.rr_cover.proofs.Ties.{tied_same, same_tied, contradicted}
use Rattle.rr_cover.proofs.TreeHalves.{ends_ordered, halves_apart, covers_itself}
use Rattle.rr_cover.proofs.TreeHeld.{none_of, or_none, root_covers}
use Rattle.rr_cover.proofs.TreeChanged.{same_either}
use Rattle.rr_cover.proofs.TreeParting.{lies_covered, splits, strictly}

some_prefix : {p q : PrefixParts} → Some p ≡ Some q → p ≡ q
some_prefix e = cc

none_some : {q : PrefixParts} → None ≡ Some q → ⊥
none_some e = cc

-- the lower half takes what lies outside the upper one
pub lies_lower : (p q : PrefixParts) → IsMasked p → IsMasked q → covers (span_of p) (span_of q)
    ≡ true → (p ≡ q → ⊥) → lies_on p true (span_of q) ≡ false → lies_on p false (span_of q) ≡ true
lies_lower p q is_p is_q over other apart = splits p q is_p is_q over
    (strictly p q is_p is_q over other) apart

pub one_way : (p q : PrefixParts) → covers (span_of q) (span_of p) ≡ false → p ≡ q → ⊥
one_way p q apart same = contradicted _ apart (ap (λ r. covers (span_of q) (span_of r)) same
    ∙ covers_itself (span_of q))

pub other_prefix : (p q : PrefixParts) → eq_by_cmp span_cmp (span_of q) (span_of p) ≡ false →
    p ≡ q → ⊥
other_prefix p q apart same = contradicted _ apart
    (same_tied (span_of q) (span_of p) (ap span_of (sym same)))

module _ {T : Type 0} where
  pub rooted_on : (tree : Tree T) (q p : PrefixParts) (side : Bool) → root_of tree ≡ Some q →
      lies_on p side (span_of q) ≡ true → IsRootedOn p side tree
  rooted_on Empty q p side is lies = tt
  rooted_on (Fork' a prefix value lower upper) q p side is lies =
      ap (λ r. lies_on p side (span_of r)) (some_prefix is) ∙ lies

  pub root_on : (tree : Tree T) (q p : PrefixParts) (side : Bool) → root_of tree ≡ Some q →
      IsRootedOn p side tree → lies_on p side (span_of q) ≡ true
  root_on Empty q p side is rooted = absurd (none_some is)
  root_on (Fork' a prefix value lower upper) q p side is rooted =
      sym (ap (λ r. lies_on p side (span_of r)) (some_prefix is)) ∙ rooted

  pub root_masked : (tree : Tree T) (q : PrefixParts) → IsTree tree → root_of tree ≡ Some q →
      IsMasked q
  root_masked Empty q order is = absurd (none_some is)
  root_masked (Fork' a prefix value lower upper) q order is = subst IsMasked (some_prefix is)
      order.0.masked

  pub root_over : (tree : Tree T) (q : PrefixParts) → IsTree tree → root_of tree ≡ Some q →
      (s : Ends) → is_some (standing tree s) ≡ true → covers (span_of q) s ≡ true
  root_over Empty q order is s held = absurd (none_some is)
  root_over (Fork' a prefix value lower upper) q order is s held =
      ap (λ r. covers (span_of r) s) (sym (some_prefix is)) ∙ root_covers
      (Fork' a prefix value lower upper) prefix value lower upper (record { all = λ u. refl })
      order s held

  pub root_apart : (tree : Tree T) (q : PrefixParts) (s : Ends) → root_of tree ≡ Some q →
      is_above tree s ≡ false → covers (span_of q) s ≡ false
  root_apart Empty q s is apart = absurd (none_some is)
  root_apart (Fork' a prefix value lower upper) q s is apart = ap (λ r. covers (span_of r) s)
      (sym (some_prefix is)) ∙ apart

  pub no_root_none : (tree : Tree T) (s : Ends) → root_of tree ≡ None → standing tree s ≡ None
  no_root_none Empty s is = refl
  no_root_none (Fork' a prefix value lower upper) s is = absurd (none_some (sym is))

  -- what the root does not cover does not stand in the tree
  pub missing_above : (tree : Tree T) (s : Ends) → IsTree tree → is_above tree s ≡ false →
      standing tree s ≡ None
  missing_above Empty s order apart = refl
  missing_above (Fork' a prefix value lower upper) s order apart =
      none_of (standing (Fork' a prefix value lower upper) s)
      (λ held. contradicted _ apart (root_covers (Fork' a prefix value lower upper) prefix
      value lower upper (record { all = λ u. refl }) order s held))

  -- a node above a tree on its lower side
  pub above_all : (b : Bool) (v : T) (below : Option T) → option_or (cond b (Some v) None)
      (option_or below None) ≡ cond b (Some v) below
  above_all true v below = refl
  above_all false v below = or_none below

  beside_case : (b : Bool) (v : T) (below leaf : Option T) → (b ≡ true → below ≡ None) →
      leaf ≡ option_or (cond b (Some v) None) None → option_or below leaf ≡ cond b (Some v) below
  beside_case true v below leaf none is = ap (λ o. option_or o leaf) (none refl) ∙ is
  beside_case false v below leaf none is = ap (option_or below) is ∙ or_none below

  -- a node without value over a tree and a node beside it
  pub beside_all : (r a b : PrefixParts) (tree : Tree T) (v : T) → IsTree tree → root_of tree
      ≡ Some b → IsParting r a b → (s : Ends) (leaf : Option T) →
      leaf ≡ option_or (own a (Some v) s) None → option_or (own r None s)
      (option_or (standing tree s) leaf) ≡ cond (eq_by_cmp span_cmp s (span_of a)) (Some v)
      (standing tree s)
  beside_all r a b tree v order is parting s leaf is_leaf =
      ap (λ o. option_or o (option_or (standing tree s) leaf))
      (same_either (eq_by_cmp span_cmp s (span_of r)) None)
      ∙ beside_case (eq_by_cmp span_cmp s (span_of a)) v (standing tree s) leaf missing is_leaf
    where
      both : (side : Bool) → lies_on r side (span_of a) ≡ true → lies_on r (not side) (span_of a)
          ≡ true → ⊥
      both false one other = halves_apart r (span_of a) (ends_ordered a) one other
      both true one other = halves_apart r (span_of a) (ends_ordered a) other one

      missing : eq_by_cmp span_cmp s (span_of a) ≡ true → standing tree s ≡ None
      missing tied =
          none_of (standing tree s) (λ held.
          let over = root_over tree b order is s held in
          both parting.side parting.one (lies_covered r (not parting.side) (span_of b) (span_of a)
          parting.other (ap (covers (span_of b)) (sym (tied_same s (span_of a) tied)) ∙ over)))
