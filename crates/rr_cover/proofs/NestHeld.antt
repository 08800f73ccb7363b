-- Which spans a search tree holds: those of its two sides, and its own.
use Rattle.std.proofs.Common.{◌≡◌, Bool, true, false, cond, ◌⊎◌, Option, Some, None, is_some, refl}
use Rattle.std.proofs.Common.{sym, ap, subst, ◌∙◌, inl, inr}
use Rattle.std.specs.Option.{option_or}
use Rattle.std.specs.Ordering.{eq_by_cmp}
use Rattle.rr_number.specs.Spans.{Ends, span_cmp}
use Rattle.rr_cover.specs.SpanNests.{is_ahead, at_span, standing, Only, Fits}
use Rattle.rr_cover.specs.NestParts.{IsLastReaching}
use Rattle.rr_cover.specs.declared.span_nest.Nest.{Nest}
use Rattle.rr_cover.proofs.Ties.{tied_same, same_tied, contradicted}
use Rattle.rr_cover.proofs.NestOrder.{ahead_itself, ahead_back, ahead_chain}

module _ {T : Type 0} where
  -- the tree has these sides, and the span with the value between them
  pub record Made (nest : Nest T) (span : Ends) (value : T) (before after : Nest T) : Type 0 where
    pub all : (s : Ends) → standing nest s ≡ option_or (standing before s)
        (option_or (at_span span value s) (standing after s))

  none_of : (o : Option T) → (is_some o ≡ true → ⊥) → o ≡ None
  none_of None never = refl
  none_of (Some x) never = absurd (never refl)

  pub at_own : (span : Ends) (value : T) → at_span span value span ≡ Some value
  at_own span value = ap (λ b. cond b (Some value) None) (same_tied span span refl)

  pub at_other : (span : Ends) (value : T) (s : Ends) (b : Bool) → eq_by_cmp span_cmp s span ≡ b →
      (s ≡ span → ⊥) → cond b (Some value) None ≡ None
  at_other span value s true tied other = absurd (other (tied_same s span tied))
  at_other span value s false tied other = refl

  -- a side holds no span that its neighbours keep out
  pub kept_out : (p : Ends → Bool) (nest : Nest T) (s : Ends) → Only p nest → p s ≡ false →
      standing nest s ≡ None
  kept_out p nest s only fails = none_of (standing nest s)
      (λ held. contradicted _ fails (only.each s held))

  in_side : (low own high : Option T) → is_some (option_or low (option_or own high)) ≡ true →
      (is_some low ≡ true) ⊎ ((is_some own ≡ true) ⊎ (is_some high ≡ true))
  in_side (Some x) own high held = inl refl
  in_side None (Some x) high held = inr (inl refl)
  in_side None None high held = inr (inr held)

  own_span : (span : Ends) (value : T) (s : Ends) (b : Bool) → eq_by_cmp span_cmp s span ≡ b →
      is_some (cond b (Some value) None) ≡ true → s ≡ span
  own_span span value s true tied held = tied_same s span tied
  own_span span value s false tied held = absurd (contradicted _ refl held)

  module _ (nest : Nest T) (span : Ends) (value : T) (before after : Nest T)
      (made : Made nest span value before after) where
    -- a span held is held by a side, or is the root's
    pub held_where : (s : Ends) → is_some (standing nest s) ≡ true →
        (is_some (standing before s) ≡ true) ⊎ ((s ≡ span) ⊎ (is_some (standing after s) ≡ true))
    held_where s held =
        elim (in_side (standing before s) (at_span span value s) (standing after s)
        (ap is_some (sym (made.all s)) ∙ held)) [
          | inl low ↦ inl low
          | inr (inl own) ↦ inr (inl (own_span span value s (eq_by_cmp span_cmp s span) refl own))
          | inr (inr high) ↦ inr (inr high)
        ]

    module _ (fits : Fits span before after) where
      -- what stands in a side, or at the root, stands in the tree
      pub stands_low : (s : Ends) (v : T) → standing before s ≡ Some v → standing nest s ≡ Some v
      stands_low s v is = made.all s
          ∙ ap (λ o. option_or o (option_or (at_span span value s) (standing after s))) is

      pub none_low : (s : Ends) → is_ahead s span ≡ false → standing before s ≡ None
      none_low s later = kept_out (λ t. is_ahead t span) before s fits.ahead later

      pub none_high : (s : Ends) → is_ahead span s ≡ false → standing after s ≡ None
      none_high s ahead = kept_out (λ t. is_ahead span t) after s fits.after ahead

      pub stands_own : standing nest span ≡ Some value
      stands_own =
          made.all span
          ∙ ap (λ o. option_or o (option_or (at_span span value span) (standing after span)))
          (none_low span (ahead_itself span))
          ∙ ap (λ b. option_or (cond b (Some value) None) (standing after span))
          (same_tied span span refl)

      pub stands_high : (s : Ends) (v : T) → standing after s ≡ Some v → standing nest s ≡ Some v
      stands_high s v is =
          let later : is_ahead span s ≡ true = fits.after.each s (ap is_some is) in
          made.all s
          ∙ ap (λ o. option_or o (option_or (at_span span value s) (standing after s)))
          (none_low s (ahead_back span s later))
          ∙ ap (λ o. option_or o (standing after s))
          (at_other span value s (eq_by_cmp span_cmp s span) refl
          (λ same. contradicted _ (ap (λ t. is_ahead span t) same ∙ ahead_itself span) later))
          ∙ is

      -- the last of the side after is the last of all
      pub reaching_high : (below to : _) (t : Ends) (v : T) → IsLastReaching after below to t v →
          IsLastReaching nest below to t v
      reaching_high below to t v last =
          let later : is_ahead span t ≡ true = fits.after.each t (ap is_some last.held) in
          record {
            held = stands_high t v last.held;
            begins = last.begins;
            reaches = last.reaches;
            last = λ u held begins reaches.
                elim (held_where u held) [
                  | inl low ↦ ahead_back u t (ahead_chain u span t (fits.ahead.each u low) later)
                  | inr (inl own) ↦ subst (λ w. is_ahead t w ≡ false) (sym own)
                      (ahead_back span t later)
                  | inr (inr high) ↦ last.last u high begins reaches
                ];
          }
