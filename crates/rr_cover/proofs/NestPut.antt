-- A search tree with a span put in on one side of its root.
use Rattle.std.proofs.Common.{◌≡◌, ℕ, ◌+◌, max, nat_le, true, cond, Some, refl, arith}
use Rattle.std.proofs.lemmas.Bool.Decides.{nat_tests}
use Rattle.std.specs.Option.{option_or}
use Rattle.std.specs.Ordering.{eq_by_cmp}
use Rattle.rr_number.specs.Spans.{Ends, span_cmp}
use Rattle.rr_cover.specs.SpanNests.{is_ahead, at_span, standing, Only, IsNest}
use Rattle.rr_cover.specs.NestParts.{count, with_before, with_after, IsTakenApart}
use Rattle.rr_cover.specs.declared.span_nest.bounds.Lasts.{Lasts}
use Rattle.rr_cover.specs.declared.span_nest.Nest.{Nest}
use Rattle.rr_cover.proofs.NestHeld.{Made}
use Rattle.rr_cover.proofs.NestTurns.{Changed, IsNode, only_changed, low_case, high_case}

-- bounds that let a number in
greatest_lets : (g n : ℕ) → nat_le n (max g n) ≡ true
greatest_lets g n = grind (arith, nat_tests)

greatest_kept : (g n x : ℕ) → nat_le x g ≡ true → nat_le x (max g n) ≡ true
greatest_kept g n x below = grind (arith, nat_tests)

module _ {T : Type 0} where
  greatest_of : (nest : Nest T) (g n : ℕ) → Only (λ s. nat_le s.last g) nest →
      Only (λ s. nat_le s.last (max g n)) nest
  greatest_of nest g n only = record {
    each = λ s held. greatest_kept g n s.last (only.each s held);
  }

  -- a node whose bounds let a span in, with that span put in on a side
  pub node_low : (span : Ends) (bounds : Lasts) (before after new : Nest T) (k : Ends) (v : T) →
      IsNode span bounds before after → is_ahead k span ≡ true → Changed before new k (Some v) →
      IsNest new → IsNode span (with_before bounds k.last) new after
  node_low span bounds before after new k v is ahead changed order =
      let before_own = is.0.1.before_own in (
        (
          record {
            ordered = is.0.0.ordered;
            ahead = only_changed (λ s. is_ahead s span) before new
                k (Some v) changed ahead is.0.0.ahead;
            after = is.0.0.after;
          },
          record {
            before_own = omega arith;
            before_low = only_changed (λ s. nat_le s.last (max bounds.before k.last)) before new k
                (Some v) changed (greatest_lets bounds.before k.last)
                (greatest_of before bounds.before k.last is.0.1.before_low);
            after_high = is.0.1.after_high;
          },
        ),
        (order, is.1.1),
      )

  pub node_high : (span : Ends) (bounds : Lasts) (before after new : Nest T) (k : Ends) (v : T) →
      IsNode span bounds before after → is_ahead span k ≡ true → Changed after new k (Some v) →
      IsNest new → IsNode span (with_after bounds k.last) before new
  node_high span bounds before after new k v is later changed order = (
    (
      record {
        ordered = is.0.0.ordered;
        ahead = is.0.0.ahead;
        after =
            only_changed (λ s. is_ahead span s) after new k (Some v) changed later is.0.0.after;
      },
      record {
        before_own = is.0.1.before_own;
        before_low = is.0.1.before_low;
        after_high = only_changed (λ s. nat_le s.last (max bounds.after k.last)) after new k
            (Some v) changed (greatest_lets bounds.after k.last)
            (greatest_of after bounds.after k.last is.0.1.after_high);
      },
    ),
    (is.1.0, order),
  )

  -- a tree seen at its root
  pub opened_of : (nest : Nest T) (span : Ends) (value : T) (bounds : Lasts)
      (before after : Nest T) → Made nest span value before after → IsNode span bounds before after
      → count nest ≡ count before + count after + 1 → IsTakenApart nest span value before after
  opened_of nest span value bounds before after made is counted = record {
    fits = is.0.0;
    low = is.1.0;
    high = is.1.1;
    all = made.all;
    fewer_before = omega (arith, counted);
    fewer_after = omega (arith, counted);
  }

  -- what the tree holds then
  pub all_low : (nest : Nest T) (span : Ends) (value : T) (before after : Nest T) →
      IsTakenApart nest span value before after → (k : Ends) (v : T) (new : Nest T) →
      is_ahead k span ≡ true → Changed before new k (Some v) → (s : Ends) →
      option_or (standing new s) (option_or (at_span span value s) (standing after s))
      ≡ cond (eq_by_cmp span_cmp s k) (Some v) (standing nest s)
  all_low nest span value before after opened k v new ahead changed s =
      low_case nest span value before after opened k (Some v) new s (eq_by_cmp span_cmp s k) refl
      ahead (changed.all s)

  pub all_high : (nest : Nest T) (span : Ends) (value : T) (before after : Nest T) →
      IsTakenApart nest span value before after → (k : Ends) (v : T) (new : Nest T) →
      is_ahead span k ≡ true → Changed after new k (Some v) → (s : Ends) →
      option_or (standing before s) (option_or (at_span span value s) (standing new s))
      ≡ cond (eq_by_cmp span_cmp s k) (Some v) (standing nest s)
  all_high nest span value before after opened k v new later changed s =
      high_case nest span value before after opened k (Some v) new s (eq_by_cmp span_cmp s k) refl
      later (changed.all s)
