-- The order of spans is total, only equal spans tie, and the derived order is this one: for `laws`,
-- and for all crates that keep things by spans.
use Rattle.std.proofs.Common.{◌≡◌, refl}
use Rattle.std.specs.declared.cmp.Ordering.{Ordering}
use Rattle.std.specs.declared.cmp.Ordering.TheVariants.{Less, Equal, Greater}
use Rattle.std.specs.Cmp.{IsTotalOrder, nat_cmp_total}
use Rattle.std.specs.FinMap.{IsAntisymmetric, nat_cmp-IsAntisymmetric}
use Rattle.std.specs.Ordering.{ordering_then, nat_cmp}
use Rattle.std.proofs.lemmas.Cmp.{then_total, on_total}
use Rattle.rr_number.specs.Spans.{Ends, span_cmp}
use Rattle.rr_number.specs.contracts.span.SpanOrd.TheImpl as derived

pub span_cmp_total : IsTotalOrder span_cmp
span_cmp_total = then_total (on_total (λ (s : Ends). s.first) nat_cmp_total)
    (on_total (λ (s : Ends). s.last) nat_cmp_total)

both_equal : (a b : Ordering) → ordering_then a b ≡ Equal → (a ≡ Equal) × (b ≡ Equal)
both_equal Less b e = (cc, cc)
both_equal Equal b e = (cc, cc)
both_equal Greater b e = (cc, cc)

pub span_cmp-IsAntisymmetric : IsAntisymmetric span_cmp
span_cmp-IsAntisymmetric s t e =
    let ties = both_equal (nat_cmp s.first t.first) (nat_cmp s.last t.last) e in
    let first : s.first ≡ t.first = nat_cmp-IsAntisymmetric s.first t.first ties.0 in
    let last : s.last ≡ t.last = nat_cmp-IsAntisymmetric s.last t.last ties.1 in
    λ i. record { first = first i; last = last i }

pub derived_order : (s t : Ends) → (derived.ghosts).cmp s t ≡ span_cmp s t
derived_order s t = refl
