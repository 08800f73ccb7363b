-- Lemmas on ranges under operators: for `Range::operator`, and for `laws`.
use Rattle.std.proofs.Common.{◌≡◌, ℕ, ◌+◌, ◌-◌, ◌≤◌, ◌==◌, ◌&&◌, Bool, true, false, Option, Some}
use Rattle.std.proofs.Common.{None, MatchOption, cond, max, nat_le, refl, ap, subst, ◌∙◌, arith}
use Rattle.std.proofs.lemmas.Bool.Decides.{nat_tests}
use Rattle.std.proofs.lemmas.Option.{cond_some}
use Rattle.std.specs.Option.{option_map}
use Rattle.rr_number.specs.Applied.{applied, is_bounds, operator_for, says}
use Rattle.rr_number.specs.Bounds.{Bounds}
use Rattle.rr_number.specs.Operators.{IsOperatorValue, lengths_under, tabled}
use Rattle.rr_number.specs.Prefixes.{PrefixParts, IsMasked, span_of}
use Rattle.rr_number.specs.RangeLaws.{is_between}
use Rattle.rr_number.specs.Ranges.{RangeParts, IsRange, admits, bare, bounds_of, range_of}
use Rattle.rr_number.specs.Spans.{covers}
use Rattle.rr_number.specs.declared.operator.Operator.{Operator}
use Rattle.rr_number.specs.declared.operator.Operator.TheVariants.{Plain, Plus, Minus, Lengths}
use Rattle.rr_number.proofs.Choices.{option_map-some}

-- which ranges each operator says
says-plain : (r : RangeParts) → IsRange r → says Plain r
    ≡ (r.prefix.length == r.low && r.prefix.length == r.high)
unfolding lengths_under
says-plain r is =
    let test : (nat_le r.prefix.length r.prefix.length && nat_le r.prefix.length 32) ≡ true =
    grind (arith, nat_tests) in
    rw test refl

says-plus : (r : RangeParts) → IsRange r → says Plus r ≡ (r.prefix.length == r.low && 32 == r.high)
unfolding lengths_under
says-plus r is =
    let test : (nat_le r.prefix.length 32 && nat_le r.prefix.length 32) ≡ true =
    grind (arith, nat_tests) in
    rw test refl

minus-step : (test : Bool) (l low high : ℕ) → (nat_le (l + 1) 32 && nat_le (l + 1) 32) ≡ test →
    low ≤ 32 → is_bounds (cond test (Some (record { low = l + 1; high = 32 })) None)
    (record { low = low; high = high }) ≡ ((l + 1) == low && 32 == high)
minus-step true l low high is_test short = refl
minus-step false l low high is_test short = grind (arith, nat_tests)

says-minus : (r : RangeParts) → IsRange r → says Minus r
    ≡ ((r.prefix.length + 1) == r.low && 32 == r.high)
unfolding lengths_under
says-minus r is = minus-step _ r.prefix.length r.low r.high refl
    (omega (arith, is.ordered, is.short))

-- the operator of a range, by its lengths
pub for_plain : (r : RangeParts) → IsRange r → r.low - r.prefix.length ≡ 0 →
    r.high ≡ r.prefix.length → Plain ≡ operator_for r
unfolding operator_for
for_plain r is start end =
    let is_plain : says Plain r ≡ true = says-plain r is ∙ grind (arith, nat_tests) in
    rw is_plain refl

pub for_plus : (r : RangeParts) → IsRange r → r.low - r.prefix.length ≡ 0 →
    (r.high ≡ r.prefix.length → ⊥) → r.high ≡ 32 → Plus ≡ operator_for r
unfolding operator_for
for_plus r is start longer end =
    let no_plain : says Plain r ≡ false = says-plain r is ∙ grind (arith, nat_tests) in
    let is_plus : says Plus r ≡ true = says-plus r is ∙ grind (arith, nat_tests) in
    rw (no_plain, is_plus) refl

pub for_minus : (r : RangeParts) → IsRange r → r.low - r.prefix.length ≡ 1 → r.high ≡ 32 →
    Minus ≡ operator_for r
unfolding operator_for
for_minus r is start end =
    let no_plain : says Plain r ≡ false = says-plain r is ∙ grind (arith, nat_tests) in
    let no_plus : says Plus r ≡ false = says-plus r is ∙ grind (arith, nat_tests) in
    let is_minus : says Minus r ≡ true = says-minus r is ∙ grind (arith, nat_tests) in
    rw (no_plain, no_plus, is_minus) refl

pub for_lengths : (r : RangeParts) → IsRange r →
    (r.low - r.prefix.length ≡ 0 → r.high ≡ r.prefix.length → ⊥) →
    (r.low - r.prefix.length ≡ 0 → r.high ≡ 32 → ⊥) → (r.low - r.prefix.length ≡ 1 → r.high ≡ 32 →
    ⊥) → Lengths (bounds_of r) ≡ operator_for r
unfolding operator_for
for_lengths r is not_plain not_plus not_minus =
    let no_plain : says Plain r ≡ false = says-plain r is ∙ grind (arith, nat_tests) in
    let no_plus : says Plus r ≡ false = says-plus r is ∙ grind (arith, nat_tests) in
    let no_minus : says Minus r ≡ false = says-minus r is ∙ grind (arith, nat_tests) in
    rw (no_plain, no_plus, no_minus) refl

-- the bounds of these two
abbrev bounds : ℕ → ℕ → Bounds
bounds low high = record { low = low; high = high }

-- bounds that are found the same are the same
is_bounds-same : (o : Option Bounds) (b : Bounds) → is_bounds o b ≡ true → o ≡ Some b
is_bounds-same None b same = cc
is_bounds-same (Some c) b same =
    let low : c.low ≡ b.low = grind (arith, nat_tests) in
    let high : c.high ≡ b.high = grind (arith, nat_tests) in
    ap (λ n. Some (bounds n c.high)) low ∙ ap (λ n. Some (bounds b.low n)) high

-- an operator that says a range makes it
says-made : (o : Operator) (r : RangeParts) → says o r ≡ true → applied o (bare r.prefix) ≡ Some r
unfolding applied
says-made o r said = ap (option_map (range_of r.prefix)) (is_bounds-same _ (bounds_of r) said)

-- and so do the range's own lengths
lengths-made : (r : RangeParts) → IsRange r → applied (Lengths (bounds_of r)) (bare r.prefix)
    ≡ Some r
unfolding applied lengths_under
lengths-made r is =
    let low : max r.low r.prefix.length ≡ r.low = grind (arith, is.inside) in
    let test : (nat_le r.low r.high && nat_le r.low 32) ≡ true =
    grind (arith, nat_tests, is.ordered, is.short) in
    rw (low, test) refl

made-step : (plain plus minus : Bool) (r : RangeParts) → IsRange r → says Plain r ≡ plain →
    says Plus r ≡ plus → says Minus r ≡ minus →
    applied (cond plain Plain (cond plus Plus (cond minus Minus (Lengths (bounds_of r)))))
    (bare r.prefix) ≡ Some r
made-step true plus minus r is is_plain is_plus is_minus = says-made Plain r is_plain
made-step false true minus r is is_plain is_plus is_minus = says-made Plus r is_plus
made-step false false true r is is_plain is_plus is_minus = says-made Minus r is_minus
made-step false false false r is is_plain is_plus is_minus = lengths-made r is

-- the operator of a range makes it of the prefix alone
pub operator_for-made : (r : RangeParts) → IsRange r → applied (operator_for r) (bare r.prefix)
    ≡ Some r
unfolding operator_for
operator_for-made r is = made-step (says Plain r) (says Plus r) (says Minus r) r is refl refl refl

value-step : (plain plus minus : Bool) (r : RangeParts) → IsRange r →
    IsOperatorValue (cond plain Plain (cond plus Plus (cond minus Minus (Lengths (bounds_of r)))))
value-step true plus minus r is = tt
value-step false true minus r is = tt
value-step false false true r is = tt
value-step false false false r is = record { ordered = is.ordered; short = is.short }

-- and is an operator
pub IsOperatorValue-for : (r : RangeParts) → IsRange r → IsOperatorValue (operator_for r)
unfolding operator_for
IsOperatorValue-for r is = value-step (says Plain r) (says Plus r) (says Minus r) r is

-- lengths that are kept admit what lies between them, and dropped lengths have nothing between them
kept_admits : (test : Bool) (t : Bounds) (p q : PrefixParts) → IsMasked q →
    (nat_le t.low t.high && nat_le t.low 32) ≡ test →
    MatchOption (option_map (range_of p) (cond test (Some t) None)) (is_between t q.length ≡ false)
    (λ s. admits s q ≡ (covers (span_of p) (span_of q) && is_between t q.length))
kept_admits true t p q is is_test = refl
kept_admits false t p q is is_test = grind (arith, nat_tests, is.short)

-- a range under an operator admits what the operator's row says
pub applied_admits : (o : Operator) (r : RangeParts) (q : PrefixParts) → IsMasked q →
    MatchOption (applied o r) (is_between (tabled o (bounds_of r)) q.length ≡ false)
    (λ s. admits s q ≡ (covers (span_of r.prefix) (span_of q) && is_between
    (tabled o (bounds_of r)) q.length))
unfolding applied lengths_under
applied_admits o r q is = kept_admits _ (tabled o (bounds_of r)) r.prefix q is refl

-- an operator's row begins no lower than the prefix
tabled-inside : (o : Operator) (r : RangeParts) → IsRange r →
    r.prefix.length ≤ (tabled o (bounds_of r)).low
tabled-inside Plain r is = is.inside
tabled-inside Plus r is = is.inside
tabled-inside Minus r is = omega (arith, is.inside)
tabled-inside (Lengths b) r is = grind (arith, is.inside)

-- and ends at 32 or below
tabled-short : (o : Operator) (r : RangeParts) → IsOperatorValue o → IsRange r →
    (tabled o (bounds_of r)).high ≤ 32
tabled-short Plain r good is = is.short
tabled-short Plus r good is = omega arith
tabled-short Minus r good is = omega arith
tabled-short (Lengths b) r good is = good.short

-- what an operator makes of a range is a range
pub applied_keeps : (o : Operator) (r s : RangeParts) → IsOperatorValue o → IsRange r → applied o r
    ≡ Some s → IsRange s
unfolding applied lengths_under
applied_keeps o r s good is made =
    option_map-some _ (lengths_under o (bounds_of r)) s made (λ b is_kept value.
    let test = cond_some (nat_le (tabled o (bounds_of r)).low (tabled o (bounds_of r)).high &&
    nat_le (tabled o (bounds_of r)).low 32) _ _ is_kept in
    let inside : r.prefix.length ≤ b.low = subst (λ (c : Bounds). r.prefix.length ≤ c.low) test.1
    (tabled-inside o r is) in
    let short : b.high ≤ 32 = subst (λ (c : Bounds). c.high ≤ 32) test.1
    (tabled-short o r good is) in
    let upward : (tabled o (bounds_of r)).low ≤ (tabled o (bounds_of r)).high =
    grind (arith, nat_tests, test.0) in
    let ordered : b.low ≤ b.high = subst (λ (c : Bounds). c.low ≤ c.high) test.1 upward in
    subst (λ (t : RangeParts). IsRange t) value (record {
      masked = is.masked;
      inside = inside;
      ordered = ordered;
      short = short;
    }))
