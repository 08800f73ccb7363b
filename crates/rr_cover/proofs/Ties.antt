-- Spans that tie are equal, and what tests tell.
use Rattle.std.proofs.Common.{◌≡◌, Bool, true, false, ◌&&◌, refl, sym, ap, subst, ◌∙◌}
use Rattle.std.specs.declared.cmp.Ordering.{Ordering}
use Rattle.std.specs.declared.cmp.Ordering.TheVariants.{Less, Equal, Greater}
use Rattle.std.specs.Ordering.{is_eq, is_lt, eq_by_cmp}
use Rattle.std.proofs.Math.Dec as B
use Rattle.std.proofs.lemmas.Cmp.{tied_itself}
use Rattle.rr_number.specs.Spans.{Ends, span_cmp}
use Rattle.rr_number.proofs.SpanOrder.{span_cmp_total, span_cmp-IsAntisymmetric}

pub is_less : (r : Ordering) → B.T (is_lt r) → r ≡ Less
is_less Less h = refl
is_less Equal h = absurd h
is_less Greater h = absurd h

pub and_first : (a b : Bool) → B.T (a && b) → B.T a
and_first true b h = tt
and_first false b h = h

pub and_second : (a b : Bool) → B.T (a && b) → B.T b
and_second true b h = h
and_second false b h = absurd h

pub contradicted : (b : Bool) → b ≡ false → b ≡ true → ⊥
contradicted b is_false is_true = cc

-- equal spans tie
ties : (s t : Ends) → s ≡ t → span_cmp s t ≡ Equal
ties s t e = subst (λ u. span_cmp s u ≡ Equal) e (tied_itself span_cmp_total s)

is_equal : (r : Ordering) (b : Bool) → is_eq r ≡ b → b ≡ true → r ≡ Equal
is_equal Less b e t = absurd (subst B.T (sym (e ∙ t)) tt)
is_equal Equal b e t = refl
is_equal Greater b e t = absurd (subst B.T (sym (e ∙ t)) tt)

-- spans that tie are equal
pub tied_same : (s t : Ends) → eq_by_cmp span_cmp s t ≡ true → s ≡ t
tied_same s t e = span_cmp-IsAntisymmetric s t (is_equal (span_cmp s t) true e refl)

-- a span ties with itself
pub same_tied : (s t : Ends) → s ≡ t → eq_by_cmp span_cmp s t ≡ true
same_tied s t e = ap is_eq (ties s t e)
