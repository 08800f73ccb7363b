-- Lemmas on two ends with a dash between them: for spans and blocks.
use Rattle.std.proofs.Common.{◌≡◌, ℕ, ◌≤◌, true, nat_le, List, [], ◌∷◌, Option, Some, refl, sym, ap}
use Rattle.std.proofs.Common.{subst, arith}
use Rattle.std.proofs.lemmas.Bool.Decides.{nat_tests}
use Rattle.std.proofs.lemmas.Option.{option_and_then_some, cond_some}
use Rattle.rr_number.specs.Dashes.{IsDashed}
use Rattle.rr_number.specs.EndsTexts.{IsEndsText, ends_between, ends_of, ends_text}
use Rattle.rr_number.specs.Spans.{Ends}

-- the ends that two numbers make are these, in order
pub ends_of-ordered : (x y : ℕ) (s : Ends) → ends_of x y ≡ Some s → (x ≤ y) × (s.first ≡ x)
    × (s.last ≡ y)
ends_of-ordered x y s is =
    let parts = cond_some (nat_le x y) _ _ is in (
      grind (arith, nat_tests, parts.0),
      ap (λ (e : Ends). e.first) (sym parts.1),
      ap (λ (e : Ends). e.last) (sym parts.1),
    )

-- two texts that are read as ends spell the span
pub ends_between-spelled : (IsEnd : List ℕ → ℕ → Type 0) (end_of : List ℕ → Option ℕ) →
    ((end : List ℕ) (n : ℕ) → end_of end ≡ Some n → IsEnd end n)
    → (text first last : List ℕ) (s : Ends) → IsDashed text first last → ends_between end_of first
    last ≡ Some s → IsEndsText IsEnd text s
unfolding ends_between
ends_between-spelled IsEnd end_of spells text first last s dashed read =
    option_and_then_some _ (end_of first) s read (λ x is_x rest.
    option_and_then_some _ (end_of last) s rest (λ y is_y ends.
    let parts = ends_of-ordered x y s ends in
    record {
      first_text = first;
      last_text = last;
      dashed = dashed;
      first = subst (IsEnd first) (sym parts.1) (spells first x is_x);
      last = subst (IsEnd last) (sym parts.2) (spells last y is_y);
      ordered = omega (arith, parts.0, parts.1, parts.2);
    }))

-- two texts that spell ends are read as the span
pub ends_between-read : (IsEnd : List ℕ → ℕ → Type 0) (end_of : List ℕ → Option ℕ) →
    ((end : List ℕ) (n : ℕ) → IsEnd end n → end_of end ≡ Some n)
    → (first last : List ℕ) (s : Ends) → IsEnd first s.first → IsEnd last s.last →
    s.first ≤ s.last → ends_between end_of first last ≡ Some s
unfolding ends_between
ends_between-read IsEnd end_of reads first last s is_first is_last ordered =
    let test : nat_le s.first s.last ≡ true = grind (arith, nat_tests) in
    rw (reads first s.first is_first, reads last s.last is_last, test) refl

-- a printed span spells it, if its printed ends spell them
pub IsEndsText-text : (IsEnd : List ℕ → ℕ → Type 0) (end_text : ℕ → List ℕ) (s : Ends) →
    IsEnd (end_text s.first) s.first → IsEnd (end_text s.last) s.last
    → s.first ≤ s.last → IsEndsText IsEnd (ends_text end_text s) s
IsEndsText-text IsEnd end_text s is_first is_last ordered = record {
  first_text = end_text s.first;
  last_text = end_text s.last;
  dashed = record {
    before = 32 ∷ [];
    after = 32 ∷ [];
    before_blank = refl;
    after_blank = refl;
    spelled = refl;
  };
  first = is_first;
  last = is_last;
  ordered = ordered;
}
