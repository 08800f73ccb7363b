-- Which spans a tree of prefixes holds: its own, and those of its sides, each in its half.
use Rattle.std.proofs.Common.{◌≡◌, ◌≤◌, Bool, true, false, cond, ◌⊎◌, Option, Some, None, is_some}
use Rattle.std.proofs.Common.{refl, sym, ap, subst, ◌∙◌, inl, inr, arith}
use Rattle.std.specs.Option.{option_or}
use Rattle.std.specs.Ordering.{eq_by_cmp}
use Rattle.rr_number.specs.Prefixes.{PrefixParts, IsMasked, span_of}
use Rattle.rr_number.specs.Spans.{Ends, covers, size, span_cmp}
use Rattle.rr_number.proofs.PrefixSpans.{IsSpan-prefix}
use Rattle.rr_cover.specs.PrefixTrees.{in_upper, lies_on, IsRootedOn, IsFork, IsTree}
use Rattle.rr_cover.specs.TreeParts.{own, standing, side_of, IsSmallestCover, NoCover}
use Rattle.rr_cover.specs.declared.prefix_tree.Tree.{Tree}
use Rattle.rr_cover.specs.declared.prefix_tree.Tree.TheVariants.{Empty, Fork'}
use Rattle.rr_cover.proofs.Ties.{tied_same, same_tied, contradicted}
use Rattle.rr_cover.proofs.TreeHalves.{lies_further, covers_half, larger_than_half, not_in_itself}
use Rattle.rr_cover.proofs.TreeHalves.{low_over, high_over, halves_apart, covers_itself}
use Rattle.rr_cover.proofs.TreeHalves.{covers_further}

-- the span is that of a prefix
pub record Placed (s : Ends) : Type 0 where
  pub prefix : PrefixParts
  pub masked : IsMasked prefix
  pub is : s ≡ span_of prefix

placed_ordered : (s : Ends) → Placed s → s.first ≤ s.last
placed_ordered s placed = subst (λ (t : Ends). t.first ≤ t.last) (sym placed.is)
    (IsSpan-prefix placed.prefix placed.masked).ordered

module _ {T : Type 0} where
  -- the tree has this prefix at its root, with the value, and these sides
  pub record MadeOf (tree : Tree T) (prefix : PrefixParts) (value : Option T)
      (lower upper : Tree T) : Type 0 where
    pub all : (s : Ends) → standing tree s ≡ option_or (own prefix value s)
        (option_or (standing lower s) (standing upper s))

  in_parts : (a b c : Option T) → is_some (option_or a (option_or b c)) ≡ true → (is_some a ≡ true)
      ⊎ ((is_some b ≡ true) ⊎ (is_some c ≡ true))
  in_parts (Some x) b c held = inl refl
  in_parts None (Some x) c held = inr (inl refl)
  in_parts None None c held = inr (inr held)

  own_held : (prefix : PrefixParts) (value : Option T) (s : Ends) (b : Bool) → eq_by_cmp span_cmp s
      (span_of prefix) ≡ b → is_some (cond b value None) ≡ true → (s ≡ span_of prefix)
      × (is_some value ≡ true)
  own_held prefix value s true tied held = (tied_same s (span_of prefix) tied, held)
  own_held prefix value s false tied held = absurd (contradicted _ refl held)

  pub own_other : (prefix : PrefixParts) (value : Option T) (s : Ends) (b : Bool) →
      eq_by_cmp span_cmp s (span_of prefix) ≡ b → (s ≡ span_of prefix → ⊥) → cond b value None
      ≡ None
  own_other prefix value s true tied other = absurd (other (tied_same s (span_of prefix) tied))
  own_other prefix value s false tied other = refl

  pub none_of : (o : Option T) → (is_some o ≡ true → ⊥) → o ≡ None
  none_of None never = refl
  none_of (Some x) never = absurd (never refl)

  pub or_none : (o : Option T) → option_or o None ≡ o
  or_none None = refl
  or_none (Some x) = refl

  -- a span held is the root's, or is held by a side
  pub held_in : (tree : Tree T) (prefix : PrefixParts) (value : Option T) (lower upper : Tree T) →
      MadeOf tree prefix value lower upper → (s : Ends) → is_some (standing tree s) ≡ true →
      ((s ≡ span_of prefix) × (is_some value ≡ true)) ⊎ ((is_some (standing lower s) ≡ true)
      ⊎ (is_some (standing upper s) ≡ true))
  held_in tree prefix value lower upper made s held =
      elim (in_parts (own prefix value s) (standing lower s) (standing upper s)
      (ap is_some (sym (made.all s)) ∙ held)) [
        | inl at_root ↦ inl (own_held prefix value s (eq_by_cmp span_cmp s (span_of prefix)) refl
            at_root)
        | inr rest ↦ inr rest
      ]

  -- a span held is that of a prefix
  pub held_placed : (tree : Tree T) → IsTree tree → (s : Ends) → is_some (standing tree s) ≡ true →
      Placed s
  held_placed Empty is s held = absurd (contradicted _ refl held)
  held_placed (Fork' p prefix value lower upper) is s held =
      let low = held_placed lower is.1.0 s in
      let high = held_placed upper is.1.1 s in
      elim (held_in (Fork' p prefix value lower upper) prefix value lower upper
      (record { all = λ u. refl }) s held) [
        | inl at_root ↦ record { prefix = prefix; masked = is.0.masked; is = at_root.0 }
        | inr (inl in_low) ↦ low in_low
        | inr (inr in_high) ↦ high in_high
      ]

  -- a span held lies in the half of a prefix in which the root lies
  pub held_on : (tree : Tree T) → IsTree tree → (p : PrefixParts) (side : Bool) →
      IsRootedOn p side tree → (s : Ends) → is_some (standing tree s) ≡ true → lies_on p side s
      ≡ true
  held_on Empty is p side rooted s held = absurd (contradicted _ refl held)
  held_on (Fork' a prefix value lower upper) is p side rooted s held =
      let low = held_on lower is.1.0 prefix false is.0.low s in
      let high = held_on upper is.1.1 prefix true is.0.high s in
      elim (held_in (Fork' a prefix value lower upper) prefix value lower upper
      (record { all = λ u. refl }) s held) [
        | inl at_root ↦ ap (lies_on p side) at_root.0 ∙ rooted
        | inr (inl in_low) ↦ lies_further p prefix side false s rooted (low in_low)
        | inr (inr in_high) ↦ lies_further p prefix side true s rooted (high in_high)
      ]

  module _ (tree : Tree T) (prefix : PrefixParts) (value : Option T) (lower upper : Tree T)
      (made : MadeOf tree prefix value lower upper) (is : IsFork prefix lower upper
      × (IsTree lower × IsTree upper)) where
    pub in_low : (s : Ends) → is_some (standing lower s) ≡ true → lies_on prefix false s ≡ true
    in_low s held = held_on lower is.1.0 prefix false is.0.low s held

    pub in_high : (s : Ends) → is_some (standing upper s) ≡ true → lies_on prefix true s ≡ true
    in_high s held = held_on upper is.1.1 prefix true is.0.high s held

    -- the root covers each span held
    pub root_covers : (s : Ends) → is_some (standing tree s) ≡ true → covers (span_of prefix) s
        ≡ true
    root_covers s held =
        elim (held_in tree prefix value lower upper made s held) [
          | inl at_root ↦ ap (covers (span_of prefix)) at_root.0 ∙ covers_itself (span_of prefix)
          | inr (inl low) ↦ covers_half prefix false s (in_low s low)
          | inr (inr high) ↦ covers_half prefix true s (in_high s high)
        ]

    -- a span held that covers s is the root's, or stands on the side of s
    pub cover_side : (s u : Ends) → s.first ≤ s.last → is_some (standing tree u) ≡ true →
        covers u s ≡ true → ((u ≡ span_of prefix) × (is_some value ≡ true))
        ⊎ (is_some (standing (side_of prefix lower upper s) u) ≡ true)
    cover_side s u some held over =
        elim (held_in tree prefix value lower upper made u held) [
          | inl at_root ↦ inl at_root
          | inr (inl low) ↦ inr (ap (λ b. is_some (standing (cond b upper lower) u))
              (low_over prefix s u some (in_low u low) over) ∙ low)
          | inr (inr high) ↦ inr (ap (λ b. is_some (standing (cond b upper lower) u))
              (high_over prefix s u (in_high u high) over some) ∙ high)
        ]

    pub not_root : (side : Bool) (s : Ends) → lies_on prefix side s ≡ true → s ≡ span_of prefix → ⊥
    not_root side s lies same = contradicted _ (ap (lies_on prefix side) same ∙ not_in_itself
        prefix side) lies

    -- a side holds nothing of the other half
    pub none_lower : (s : Ends) → s.first ≤ s.last → in_upper prefix s ≡ true → standing lower s
        ≡ None
    none_lower s some lies = none_of (standing lower s)
        (λ low. halves_apart prefix s some (in_low s low) lies)

    pub none_upper : (s : Ends) → in_upper prefix s ≡ false → standing upper s ≡ None
    none_upper s lies = none_of (standing upper s) (λ high. contradicted _ lies (in_high s high))

    -- what stands on a side stands in the tree
    pub stands_low : (s : Ends) (v : T) → standing lower s ≡ Some v → standing tree s ≡ Some v
    stands_low s v stands =
        made.all s
        ∙ ap (λ o. option_or o (option_or (standing lower s) (standing upper s)))
        (own_other prefix value s (eq_by_cmp span_cmp s (span_of prefix)) refl
        (not_root false s (in_low s (ap is_some stands))))
        ∙ ap (λ o. option_or o (standing upper s)) stands

    pub stands_high : (s : Ends) (v : T) → standing upper s ≡ Some v → standing tree s ≡ Some v
    stands_high s v stands =
        let high : is_some (standing upper s) ≡ true = ap is_some stands in
        let ordered = placed_ordered s (held_placed upper is.1.1 s high) in
        made.all s
        ∙ ap (λ o. option_or o (option_or (standing lower s) (standing upper s)))
        (own_other prefix value s (eq_by_cmp span_cmp s (span_of prefix)) refl
        (not_root true s (in_high s high)))
        ∙ ap (λ o. option_or o (standing upper s))
        (none_of (standing lower s) (λ low. halves_apart prefix s ordered (in_low s low)
        (in_high s high)))
        ∙ stands

    side_case : (s : Ends) (v : T) (b : Bool) → standing (cond b upper lower) s ≡ Some v →
        standing tree s ≡ Some v
    side_case s v true stands = stands_high s v stands
    side_case s v false stands = stands_low s v stands

    pub stands_side : (s t : Ends) (v : T) → standing (side_of prefix lower upper s) t ≡ Some v →
        standing tree t ≡ Some v
    stands_side s t v stands = side_case t v (in_upper prefix s) stands

    side_smaller : (t : Ends) (b : Bool) → is_some (standing (cond b upper lower) t) ≡ true →
        size t ≤ size (span_of prefix)
    side_smaller t true held = larger_than_half prefix true t (in_high t held)
    side_smaller t false held = larger_than_half prefix false t (in_low t held)

    no_root : (s : Ends) → eq_by_cmp span_cmp s (span_of prefix) ≡ false → s ≡ span_of prefix → ⊥
    no_root s apart same = contradicted _ apart (same_tied s (span_of prefix) same)

    read_case : (s : Ends) (b : Bool) → s.first ≤ s.last → in_upper prefix s ≡ b →
        option_or (standing lower s) (standing upper s) ≡ standing (cond b upper lower) s
    read_case s true some lies =
        ap (λ o. option_or o (standing upper s)) (none_lower s some lies)
    read_case s false some lies =
        ap (option_or (standing lower s)) (none_upper s lies) ∙ or_none (standing lower s)

    -- another span than the root's stands on its side, or nowhere
    stands_aside : (s : Ends) → s.first ≤ s.last → eq_by_cmp span_cmp s (span_of prefix)
        ≡ false → standing tree s ≡ standing (side_of prefix lower upper s) s
    stands_aside s some apart =
        made.all s
        ∙ ap (λ o. option_or o (option_or (standing lower s) (standing upper s)))
        (ap (λ b. cond b value None) apart)
        ∙ read_case s (in_upper prefix s) some refl

    -- another span than the root's stands in its half, or nowhere
    pub stands_upper : (s : Ends) → s.first ≤ s.last → eq_by_cmp span_cmp s (span_of prefix)
        ≡ false → in_upper prefix s ≡ true → standing tree s ≡ standing upper s
    stands_upper s some apart lies = stands_aside s some apart
        ∙ ap (λ b. standing (cond b upper lower) s) lies

    pub stands_lower : (s : Ends) → s.first ≤ s.last → eq_by_cmp span_cmp s (span_of prefix)
        ≡ false → in_upper prefix s ≡ false → standing tree s ≡ standing lower s
    stands_lower s some apart lies = stands_aside s some apart
        ∙ ap (λ b. standing (cond b upper lower) s) lies

    or_absent : (o rest : Option T) → (is_some rest ≡ true → ⊥) → option_or o rest ≡ o
    or_absent o rest never = ap (option_or o) (none_of rest never) ∙ or_none o

    -- the root's value stands at its span
    pub stands_root : (s : Ends) → eq_by_cmp span_cmp s (span_of prefix) ≡ true → standing tree s
        ≡ value
    stands_root s tied =
        let same : s ≡ span_of prefix = tied_same s (span_of prefix) tied in
        made.all s
        ∙ ap (λ o. option_or o (option_or (standing lower s) (standing upper s)))
        (ap (λ b. cond b value None) tied)
        ∙ ap (option_or value) (ap (λ o. option_or o (standing upper s))
        (none_of (standing lower s) (λ low. not_root false s (in_low s low) same)))
        ∙ or_absent value (standing upper s) (λ high. not_root true s (in_high s high) same)

    -- the smallest cover on the side of a span is the smallest of all
    pub cover_below : (s t : Ends) (v : T) → s.first ≤ s.last →
        IsSmallestCover (side_of prefix lower upper s) s t v → IsSmallestCover tree s t v
    cover_below s t v some below = record {
      held = stands_side s t v below.held;
      above = below.above;
      least = λ u held over.
          elim (cover_side s u some held over) [
            | inl at_root ↦ subst (λ w. size t ≤ size w) (sym at_root.0)
                (side_smaller t (in_upper prefix s) (ap is_some below.held))
            | inr aside ↦ below.least u aside over
          ];
    }

    -- where no other covers a span, the root's own does
    pub cover_root : (s : Ends) (v : T) → s.first ≤ s.last → value ≡ Some v →
        covers (span_of prefix) s ≡ true → NoCover (side_of prefix lower upper s) s →
        IsSmallestCover tree s (span_of prefix) v
    cover_root s v some has over none = record {
      held = stands_root (span_of prefix) (same_tied (span_of prefix) (span_of prefix) refl) ∙ has;
      above = over;
      least = λ u held above.
          elim (cover_side s u some held above) [
            | inl at_root ↦ subst (λ w. size (span_of prefix) ≤ size w) (sym at_root.0)
                (same_size (size (span_of prefix)))
            | inr aside ↦ absurd (contradicted _ (none.none u aside) above)
          ];
    }
      where
        same_size : (n : _) → n ≤ n
        same_size n = omega arith

    true_or_false : (b : Bool) → (b ≡ true → ⊥) → b ≡ false
    true_or_false true never = absurd (never refl)
    true_or_false false never = refl

    -- or none does
    pub no_cover : (s : Ends) → s.first ≤ s.last → value ≡ None →
        NoCover (side_of prefix lower upper s) s → NoCover tree s
    no_cover s some bare none = record {
      none = λ u held. true_or_false (covers u s) (λ over.
          elim (cover_side s u some held over) [
            | inl at_root ↦ contradicted _ (ap is_some bare) at_root.1
            | inr aside ↦ contradicted _ (none.none u aside) over
          ]);
    }

    -- what the root does not cover nothing does
    pub no_cover_root : (s : Ends) → covers (span_of prefix) s ≡ false → NoCover tree s
    no_cover_root s apart = record {
      none = λ u held. true_or_false (covers u s)
          (λ over. contradicted _ apart (covers_further (span_of prefix) u s (root_covers u held)
          over));
    }
