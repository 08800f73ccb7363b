-- A search tree turned, with a side changed, or with a node taken out: what it holds then, and that
-- it stays in order.
-- A span stands in the side before, at the root or in the side after, so a turn regroups options.
-- It is long because single and double turns go both ways, and both sides have their lemmas. Each
-- regrouping is given by hand. `span_nest::changes` and `NestPut` need it.
use Rattle.std.proofs.Common.{◌≡◌, nat_le, Bool, true, false, cond, ◌⊎◌, Option, Some, None}
use Rattle.std.proofs.Common.{is_some, refl, sym, ap, ◌∙◌, inl, inr}
use Rattle.std.specs.Option.{option_or}
use Rattle.std.specs.Ordering.{eq_by_cmp}
use Rattle.rr_number.specs.Spans.{Ends, span_cmp}
use Rattle.rr_cover.specs.SpanNests.{is_ahead, at_span, standing, Only, Fits, IsBound, IsNest}
use Rattle.rr_cover.specs.NestParts.{IsTakenApart}
use Rattle.rr_cover.specs.declared.span_nest.bounds.Lasts.{Lasts}
use Rattle.rr_cover.specs.declared.span_nest.Nest.{Nest}
use Rattle.rr_cover.proofs.Ties.{tied_same, same_tied, contradicted}
use Rattle.rr_cover.proofs.NestOrder.{ahead_itself, ahead_back, ahead_chain}
use Rattle.rr_cover.proofs.NestHeld.{Made, held_where, stands_low, stands_own, stands_high}
use Rattle.rr_cover.proofs.NestHeld.{none_low, none_high, at_other, at_own}

module _ {T : Type 0} where
  regroup : (a b c : Option T) → option_or (option_or a b) c ≡ option_or a (option_or b c)
  regroup None b c = refl
  regroup (Some x) b c = refl

  -- what a side holds, put in for it
  pub turned_once : (outer prefix inner own after : Option T) (whole : Option T) →
      whole ≡ option_or outer (option_or prefix inner) →
      option_or outer (option_or prefix (option_or inner (option_or own after))) ≡ option_or whole
      (option_or own after)
  turned_once outer prefix inner own after whole is =
      sym (ap (λ x. option_or x (option_or own after)) is ∙ regroup outer (option_or prefix inner)
      (option_or own after) ∙ ap (option_or outer) (regroup prefix inner (option_or own after)))

  pub turned_first : (outer prefix inner own after whole back result : Option T) →
      whole ≡ option_or outer (option_or prefix inner) → back ≡ option_or inner
      (option_or own after) → result ≡ option_or outer (option_or prefix back) → result ≡ option_or
      whole (option_or own after)
  turned_first outer prefix inner own after whole back result is_whole is_back is_result =
      is_result ∙ ap (λ x. option_or outer (option_or prefix x)) is_back ∙ turned_once outer prefix
      inner own after whole is_whole

  pub turned_first_twice : (outer prefix low top high own after inner whole left right result :
      Option T) → whole ≡ option_or outer (option_or prefix inner) → inner ≡ option_or low
      (option_or top high) → left ≡ option_or outer (option_or prefix low) → right ≡ option_or high
      (option_or own after) → result ≡ option_or left (option_or top right) → result ≡ option_or
      whole (option_or own after)
  turned_first_twice outer prefix low top high own after inner whole left right result is_whole
      is_inner is_left is_right is_result =
      is_result
      ∙ ap (λ x. option_or x (option_or top right)) is_left
      ∙ regroup outer (option_or prefix low) (option_or top right)
      ∙ ap (option_or outer) (regroup prefix low (option_or top right))
      ∙ ap (λ x. option_or outer (option_or prefix (option_or low (option_or top x)))) is_right
      ∙ ap (λ x. option_or outer (option_or prefix x)) (turned_once low top high own after inner
      is_inner)
      ∙ turned_once outer prefix inner own after whole is_whole

  pub turned_last : (before own inner back outer whole prefix result : Option T) →
      whole ≡ option_or inner (option_or back outer) → prefix ≡ option_or before
      (option_or own inner) → result ≡ option_or prefix (option_or back outer) → result ≡ option_or
      before (option_or own whole)
  turned_last before own inner back outer whole prefix result is_whole is_head is_result =
      is_result
      ∙ sym (turned_once before own inner back outer prefix is_head)
      ∙ ap (λ x. option_or before (option_or own x)) (sym is_whole)

  pub turned_last_twice : (before own low top high back outer inner whole left right result :
      Option T) → whole ≡ option_or inner (option_or back outer) → inner ≡ option_or low
      (option_or top high) → left ≡ option_or before (option_or own low) → right ≡ option_or high
      (option_or back outer) → result ≡ option_or left (option_or top right) → result ≡ option_or
      before (option_or own whole)
  turned_last_twice before own low top high back outer inner whole left right result is_whole
      is_inner is_left is_right is_result =
      is_result
      ∙ sym (turned_once before own low top right left is_left)
      ∙ ap (λ x. option_or before (option_or own (option_or low (option_or top x)))) is_right
      ∙ ap (λ x. option_or before (option_or own x)) (turned_once low top high back outer inner
      is_inner)
      ∙ ap (λ x. option_or before (option_or own x)) (sym is_whole)

  -- all spans of a tree pass a test where those of its sides and its own do
  pub only_made : (p : Ends → Bool) (nest : Nest T) (span : Ends) (value : T)
      (before after : Nest T) → Made nest span value before after → Only p before → p span ≡ true →
      Only p after → Only p nest
  only_made p nest span value before after made low own high = record {
    each = λ s held.
        elim (held_where nest span value before after made s held) [
          | inl in_low ↦ low.each s in_low
          | inr (inl same) ↦ ap p same ∙ own
          | inr (inr in_high) ↦ high.each s in_high
        ];
  }

  pub after_chain : (s t : Ends) (nest : Nest T) → is_ahead s t ≡ true → Only (λ u. is_ahead t u)
      nest → Only (λ u. is_ahead s u) nest
  after_chain s t nest first only =
      record { each = λ u held. ahead_chain s t u first (only.each u held) }

  pub ahead_chained : (s t : Ends) (nest : Nest T) → Only (λ u. is_ahead u s) nest → is_ahead s t
      ≡ true → Only (λ u. is_ahead u t) nest
  ahead_chained s t nest only last = record {
    each = λ u held. ahead_chain u s t (only.each u held)
        last;
  }

  -- a tree that holds no span
  pub only_none : (p : Ends → Bool) (nest : Nest T) → ((s : Ends) → standing nest s ≡ None) →
      Only p nest
  only_none p nest none =
      record { each = λ s held. absurd (contradicted _ (ap is_some (none s)) held) }

  module _ (nest : Nest T) (span : Ends) (value : T) (before after : Nest T)
      (opened : IsTakenApart nest span value before after) where
    pub made_by : Made nest span value before after
    made_by = record { all = opened.all }

    -- what all spans of a tree pass, those of its parts pass
    pub own_of : (p : Ends → Bool) → Only p nest → p span ≡ true
    own_of p only =
        only.each span (ap is_some (stands_own nest span value before after made_by opened.fits))

    held_some : (o : Option T) → is_some o ≡ true → (v : T) × (o ≡ Some v)
    held_some None held = absurd (contradicted _ refl held)
    held_some (Some v) held = (v, refl)

    pub low_of : (p : Ends → Bool) → Only p nest → Only p before
    low_of p only = record {
      each = λ s held.
          let there = held_some (standing before s) held in
          only.each s (ap is_some (stands_low nest span value before after made_by opened.fits s
          there.0 there.1));
    }

    pub high_of : (p : Ends → Bool) → Only p nest → Only p after
    high_of p only = record {
      each = λ s held.
          let there = held_some (standing after s) held in
          only.each s (ap is_some (stands_high nest span value before after made_by opened.fits s
          there.0 there.1));
    }

  -- a side with the value at one of its spans changed
  pub record Changed (old new : Nest T) (k : Ends) (o : Option T) : Type 0 where
    pub all : (s : Ends) → standing new s ≡ cond (eq_by_cmp span_cmp s k) o (standing old s)

  changed_held : (old : Option T) (o : Option T) (s k : Ends) (b : Bool) → eq_by_cmp span_cmp s k
      ≡ b → is_some (cond b o old) ≡ true → (s ≡ k) ⊎ (is_some old ≡ true)
  changed_held old o s k true tied held = inl (tied_same s k tied)
  changed_held old o s k false tied held = inr held

  pub only_changed : (p : Ends → Bool) (old new : Nest T) (k : Ends) (o : Option T) →
      Changed old new k o → p k ≡ true → Only p old → Only p new
  only_changed p old new k o changed passes only = record {
    each = λ s held.
        elim (changed_held (standing old s) o s k (eq_by_cmp span_cmp s k) refl
        (sym (ap is_some (changed.all s)) ∙ held)) [
          | inl same ↦ ap p same ∙ passes
          | inr there ↦ only.each s there
        ];
  }

  just : (o : Option T) → option_or o (option_or None None) ≡ o
  just None = refl
  just (Some x) = refl

  module _ (nest : Nest T) (span : Ends) (value : T) (before after : Nest T)
      (opened : IsTakenApart nest span value before after) (k : Ends) (o : Option T) where
    pub low_case : (new : Nest T) (s : Ends) (b : Bool) → eq_by_cmp span_cmp s k ≡ b →
        is_ahead k span ≡ true → standing new s ≡ cond b o (standing before s) →
        option_or (standing new s) (option_or (at_span span value s) (standing after s)) ≡ cond b o
        (standing nest s)
    low_case new s true tied ahead is =
        let first : is_ahead s span ≡ true = ap (λ t. is_ahead t span) (tied_same s k tied)
        ∙ ahead in
        ap (λ x. option_or x (option_or (at_span span value s) (standing after s))) is
        ∙ ap (λ x. option_or o (option_or x (standing after s)))
        (at_other span value s (eq_by_cmp span_cmp s span) refl
        (λ same. contradicted _ (ap (λ t. is_ahead t span) same ∙ ahead_itself span) first))
        ∙ ap (λ x. option_or o (option_or None x)) (none_high nest span value before after
        (made_by nest span value before after opened) opened.fits s (ahead_back s span first))
        ∙ just o
    low_case new s false tied ahead is =
        ap (λ x. option_or x (option_or (at_span span value s) (standing after s))) is
        ∙ sym (opened.all s)

    -- the tree with the side before changed
    pub changed_low : (new result : Nest T) → is_ahead k span ≡ true → Changed before new k o →
        Made result span value new after → Changed nest result k o
    changed_low new result ahead changed made =
        record {
          all = λ s. made.all s ∙ low_case new s (eq_by_cmp span_cmp s k) refl ahead
              (changed.all s);
        }

    pub high_case : (new : Nest T) (s : Ends) (b : Bool) → eq_by_cmp span_cmp s k ≡ b →
        is_ahead span k ≡ true → standing new s ≡ cond b o (standing after s) →
        option_or (standing before s) (option_or (at_span span value s) (standing new s))
        ≡ cond b o (standing nest s)
    high_case new s true tied ahead is =
        let last : is_ahead span s ≡ true = ap (λ t. is_ahead span t) (tied_same s k tied)
        ∙ ahead in
        ap (λ x. option_or x (option_or (at_span span value s) (standing new s)))
        (none_low nest span value before after (made_by nest span value before after opened)
        opened.fits s (ahead_back span s last))
        ∙ ap (λ x. option_or x (standing new s)) (at_other span value s (eq_by_cmp span_cmp s span)
        refl (λ same. contradicted _ (ap (λ t. is_ahead span t) same ∙ ahead_itself span) last))
        ∙ is
    high_case new s false tied ahead is =
        ap (λ x. option_or (standing before s) (option_or (at_span span value s) x)) is
        ∙ sym (opened.all s)

    -- the tree with the side after changed
    pub changed_high : (new result : Nest T) → is_ahead span k ≡ true → Changed after new k o →
        Made result span value before new → Changed nest result k o
    changed_high new result ahead changed made =
        record {
          all = λ s. made.all s ∙ high_case new s (eq_by_cmp span_cmp s k) refl ahead
              (changed.all s);
        }

  -- the tree without its root
  pub taken_out : (nest : Nest T) (span : Ends) (value : T) (before after : Nest T) →
      IsTakenApart nest span value before after → (k : Ends) → k ≡ span → (result : Nest T) →
      ((s : Ends) → standing result s ≡ option_or (standing before s) (standing after s)) →
      Changed nest result k None
  taken_out nest span value before after opened k same result rest =
      record { all = λ s. rest s ∙ case s (eq_by_cmp span_cmp s k) refl }
    where
      nothing : (a b : Option T) → a ≡ None → b ≡ None → option_or a b ≡ None
      nothing a b is_a is_b = ap (λ x. option_or x b) is_a ∙ is_b

      case : (s : Ends) (b : Bool) → eq_by_cmp span_cmp s k ≡ b → option_or (standing before s)
          (standing after s) ≡ cond b None (standing nest s)
      case s true tied =
          let own : s ≡ span = tied_same s k tied ∙ same in
          nothing _ _ (none_low nest span value before after (made_by nest span value before after
          opened) opened.fits s (ap (λ t. is_ahead t span) own ∙ ahead_itself span))
          (none_high nest span value before after (made_by nest span value before after opened)
          opened.fits s (ap (λ t. is_ahead span t) own ∙ ahead_itself span))
      case s false tied =
          sym (
          opened.all s
          ∙ ap (λ x. option_or (standing before s) (option_or x (standing after s)))
          (at_other span value s (eq_by_cmp span_cmp s span) refl
          (λ own. contradicted _ tied (same_tied s k (own ∙ sym same))))
          )

  -- the first node of a tree and the rest
  pub record Split (nest : Nest T) (span : Ends) (value : T) (rest : Nest T) : Type 0 where
    pub all : (s : Ends) → option_or (at_span span value s) (standing rest s) ≡ standing nest s

  some_of : (a b : Option T) → is_some b ≡ true → is_some (option_or a b) ≡ true
  some_of None b held = held
  some_of (Some x) b held = refl

  pub only_rest : (p : Ends → Bool) (nest : Nest T) (span : Ends) (value : T) (rest : Nest T) →
      Split nest span value rest → Only p nest → Only p rest
  only_rest p nest span value rest split only =
      record {
        each = λ s held.
            only.each s (sym (ap is_some (split.all s)) ∙ some_of (at_span span value s)
            (standing rest s) held);
      }

  pub first_of_all : (p : Ends → Bool) (nest : Nest T) (span : Ends) (value : T) (rest : Nest T) →
      Split nest span value rest → Only p nest → p span ≡ true
  first_of_all p nest span value rest split only =
      only.each span (sym (ap is_some (split.all span))
      ∙ ap (λ o. is_some (option_or o (standing rest span))) (at_own span value))

  pub split_all : (span : Ends) (value : T) (s : Ends) (low own high rest result : Option T) →
      option_or (at_span span value s) rest ≡ low → result ≡ option_or rest (option_or own high) →
      option_or (at_span span value s) result ≡ option_or low (option_or own high)
  split_all span value s low own high rest result is_low is_result =
      ap (option_or (at_span span value s)) is_result
      ∙ sym (regroup (at_span span value s) rest (option_or own high))
      ∙ ap (λ x. option_or x (option_or own high)) is_low

  -- the root of the side before, over what it had before it and the old root after it
  pub fits_first : (span : Ends) (value : T) (before after : Nest T) (prefix : Ends)
      (prefix_value : T) (outer inner rest back : Nest T) → Fits span before after →
      IsTakenApart before prefix prefix_value outer inner → Made back span value rest after →
      Only (λ u. is_ahead prefix u) rest → Fits prefix outer back
  fits_first span value before after prefix prefix_value outer inner rest back fits opened made
      only =
      let first = own_of before prefix prefix_value outer inner opened (λ u. is_ahead u span)
      fits.ahead in
      record {
        ordered = opened.fits.ordered;
        ahead = opened.fits.ahead;
        after = only_made (λ u. is_ahead prefix u) back span value rest after made only first
            (after_chain prefix span after first fits.after);
      }

  -- the root of the side after, over the old root before it and what it had after it
  pub fits_last : (span : Ends) (value : T) (before after : Nest T) (last : Ends) (last_value : T)
      (inner outer rest prefix : Nest T) → Fits span before after → IsTakenApart after last
      last_value inner outer → Made prefix span value before rest → Only (λ u. is_ahead u last)
      rest → Fits last prefix outer
  fits_last span value before after last last_value inner outer rest prefix fits opened made only =
      let second = own_of after last last_value inner outer opened (λ u. is_ahead span u)
      fits.after in
      record {
        ordered = opened.fits.ordered;
        ahead = only_made (λ u. is_ahead u last) prefix span value before rest made
            (ahead_chained span last before fits.ahead second) second only;
        after = opened.fits.after;
      }

  -- a root between two nodes, each over one of its sides
  pub fits_between : (left : Ends) (left_value : T) (right : Ends) (right_value : T)
      (outer low high last prefix back middle : Nest T) (top : Ends) (top_value : T) →
      IsTakenApart middle top top_value low high → Made prefix left left_value outer low →
      Made back right right_value high last → Only (λ u. is_ahead u left) outer →
      Only (λ u. is_ahead left u) middle → Only (λ u. is_ahead u right) middle →
      Only (λ u. is_ahead right u) last → Fits top prefix back
  fits_between left left_value right right_value outer low high last prefix back middle top
      top_value opened made_prefix made_back ahead first second later =
      let from = own_of middle top top_value low high opened (λ u. is_ahead left u) first in
      let to = own_of middle top top_value low high opened (λ u. is_ahead u right) second in
      record {
        ordered = opened.fits.ordered;
        ahead = only_made (λ u. is_ahead u top) prefix left left_value outer low made_prefix
            (ahead_chained left top outer ahead from) from opened.fits.ahead;
        after = only_made (λ u. is_ahead top u) back right right_value high last made_back
            opened.fits.after to (after_chain top right last to later);
      }

  -- a span that a tree does not hold is not its root's
  pub missing_apart : (nest : Nest T) (span : Ends) (value : T) (before after : Nest T) →
      IsTakenApart nest span value before after → (k : Ends) → standing nest k ≡ None →
      eq_by_cmp span_cmp k span ≡ false
  missing_apart nest span value before after opened k none = case (eq_by_cmp span_cmp k span) refl
    where
      case : (b : Bool) → eq_by_cmp span_cmp k span ≡ b → b ≡ false
      case false tied = refl
      case true tied =
          absurd
          (contradicted _ (ap is_some (sym (ap (standing nest) (tied_same k span tied)) ∙ none))
          (ap is_some (stands_own nest span value before after
          (made_by nest span value before after opened) opened.fits)))

  -- a side with other values at the same spans
  pub record Kept (old new : Nest T) : Type 0 where
    pub all : (s : Ends) → is_some (standing new s) ≡ is_some (standing old s)

  only_kept : (p : Ends → Bool) (old new : Nest T) → Kept old new → Only p old → Only p new
  only_kept p old new kept only = record { each = λ s held. only.each s (sym (kept.all s) ∙ held) }

  -- what a node knows of its sides, and that both are in order
  abbrev pub IsNode : Ends → Lasts → Nest T → Nest T → Type 0
  IsNode span bounds before after =
      (Fits span before after × IsBound bounds span before after) × (IsNest before × IsNest after)

  pub kept_low : (span : Ends) (bounds : Lasts) (before after new : Nest T) →
      IsNode span bounds before after → Kept before new → IsNest new → IsNode span bounds new after
  kept_low span bounds before after new is kept order = (
    (
      record {
        ordered = is.0.0.ordered;
        ahead = only_kept (λ s. is_ahead s span) before new kept
            is.0.0.ahead;
        after = is.0.0.after;
      },
      record {
        before_own = is.0.1.before_own;
        before_low = only_kept (λ s. nat_le s.last bounds.before) before new kept is.0.1.before_low;
        after_high = is.0.1.after_high;
      },
    ),
    (order, is.1.1),
  )

  pub kept_high : (span : Ends) (bounds : Lasts) (before after new : Nest T) →
      IsNode span bounds before after → Kept after new → IsNest new → IsNode span bounds before new
  kept_high span bounds before after new is kept order = (
    (
      record {
        ordered = is.0.0.ordered;
        ahead = is.0.0.ahead;
        after =
            only_kept (λ s. is_ahead span s) after new kept is.0.0.after;
      },
      record {
        before_own = is.0.1.before_own;
        before_low = is.0.1.before_low;
        after_high = only_kept (λ s. nat_le s.last bounds.after) after new kept is.0.1.after_high;
      },
    ),
    (is.1.0, order),
  )
