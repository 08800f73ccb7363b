-- The orders of prefixes, ranges and operators are total, and only equal ones tie: for `laws`, and
-- for all crates that put them in order.
use Rattle.std.proofs.Common.{◌≡◌, ℕ, refl, sym, ◌∙◌}
use Rattle.std.specs.Prelude.{◌==◌, if◌then◌else◌}
use Rattle.std.specs.declared.cmp.Ordering.{Ordering}
use Rattle.std.specs.declared.cmp.Ordering.TheVariants.{Less, Equal, Greater}
use Rattle.std.specs.Cmp.{IsTotalOrder, nat_cmp_total}
use Rattle.std.specs.FinMap.{IsAntisymmetric, nat_cmp-IsAntisymmetric}
use Rattle.std.specs.Ordering.{ordering_then, nat_cmp}
use Rattle.std.proofs.lemmas.Cmp.{then_total, on_total}
use Rattle.rr_number.specs.Bounds.{Bounds, bounds_cmp}
use Rattle.rr_number.specs.Operators.{operator_bounds, operator_cmp, operator_place}
use Rattle.rr_number.specs.PrefixLaws.{PrefixesAreOrdered}
use Rattle.rr_number.specs.Prefixes.{PrefixParts, prefix_cmp}
use Rattle.rr_number.specs.RangeLaws.{OperatorsAreOrdered, RangesAreOrdered}
use Rattle.rr_number.specs.Ranges.{RangeParts, range_cmp}
use Rattle.rr_number.specs.declared.operator.Operator.{Operator}
use Rattle.rr_number.specs.declared.operator.Operator.TheVariants.{Plain, Plus, Minus, Lengths}

-- two orders in turn find equal what both find equal
pub ties : (a b : Ordering) → ordering_then a b ≡ Equal → (a ≡ Equal) × (b ≡ Equal)
ties Less b tie = (cc, cc)
ties Equal b tie = (cc, cc)
ties Greater b tie = (cc, cc)

-- prefixes
prefix_total : IsTotalOrder prefix_cmp
prefix_total = then_total (on_total (λ (p : PrefixParts). p.address) nat_cmp_total)
    (on_total (λ (p : PrefixParts). p.length) nat_cmp_total)

prefix_exact : IsAntisymmetric prefix_cmp
prefix_exact p q tie =
    let both = ties (nat_cmp p.address q.address) (nat_cmp p.length q.length) tie in
    let address : p.address ≡ q.address = nat_cmp-IsAntisymmetric p.address q.address both.0 in
    let length : p.length ≡ q.length = nat_cmp-IsAntisymmetric p.length q.length both.1 in
    λ i. record { address = address i; length = length i }

pub prefixes_ordered : PrefixesAreOrdered
prefixes_ordered = record { total = prefix_total; exact = prefix_exact }

-- ranges
range_total : IsTotalOrder range_cmp
range_total =
    then_total (on_total (λ (r : RangeParts). r.prefix) prefix_total)
    (then_total (on_total (λ (r : RangeParts). r.low) nat_cmp_total)
    (on_total (λ (r : RangeParts). r.high) nat_cmp_total))

range_exact : IsAntisymmetric range_cmp
range_exact r s tie =
    let first = ties (prefix_cmp r.prefix s.prefix)
    (ordering_then (nat_cmp r.low s.low) (nat_cmp r.high s.high)) tie in
    let rest = ties (nat_cmp r.low s.low) (nat_cmp r.high s.high) first.1 in
    let prefix : r.prefix ≡ s.prefix = prefix_exact r.prefix s.prefix first.0 in
    let low : r.low ≡ s.low = nat_cmp-IsAntisymmetric r.low s.low rest.0 in
    let high : r.high ≡ s.high = nat_cmp-IsAntisymmetric r.high s.high rest.1 in
    λ i. record { prefix = prefix i; low = low i; high = high i }

pub ranges_ordered : RangesAreOrdered
ranges_ordered = record { total = range_total; exact = range_exact }

-- operators
bounds_total : IsTotalOrder bounds_cmp
bounds_total = then_total (on_total (λ (b : Bounds). b.low) nat_cmp_total)
    (on_total (λ (b : Bounds). b.high) nat_cmp_total)

bounds_exact : IsAntisymmetric bounds_cmp
bounds_exact b c tie =
    let both = ties (nat_cmp b.low c.low) (nat_cmp b.high c.high) tie in
    let low : b.low ≡ c.low = nat_cmp-IsAntisymmetric b.low c.low both.0 in
    let high : b.high ≡ c.high = nat_cmp-IsAntisymmetric b.high c.high both.1 in
    λ i. record { low = low i; high = high i }

-- an operator is given back by its place and its bounds
operator_at : ℕ → Bounds → Operator
operator_at n b = if n == 0 then Plain else
    (if n == 1 then Plus else (if n == 2 then Minus else Lengths b))

operator_back : (o : Operator) → operator_at (operator_place o) (operator_bounds o) ≡ o
unfolding operator_at
operator_back Plain = refl
operator_back Plus = refl
operator_back Minus = refl
operator_back (Lengths b) = refl

operator_exact : IsAntisymmetric operator_cmp
operator_exact o p tie =
    let both = ties (nat_cmp (operator_place o) (operator_place p))
    (bounds_cmp (operator_bounds o) (operator_bounds p)) tie in
    let place = nat_cmp-IsAntisymmetric (operator_place o) (operator_place p) both.0 in
    let bounds = bounds_exact (operator_bounds o) (operator_bounds p) both.1 in
    sym (operator_back o) ∙ (λ i. operator_at (place i) (bounds i)) ∙ operator_back p

pub operators_ordered : OperatorsAreOrdered
operators_ordered = record {
  total = then_total (on_total operator_place nat_cmp_total)
      (on_total operator_bounds bounds_total);
  exact = operator_exact;
}
