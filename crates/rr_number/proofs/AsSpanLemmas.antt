-- The spellings of blocks of AS numbers, and what is read of them: for `AsSpan::read`.
use Rattle.std.proofs.Common.{◌≡◌, ℕ, ◌≤◌, ◌==◌, true, not, List, [], ◌∷◌, take, drop, Some, refl}
use Rattle.std.proofs.Common.{arith}
use Rattle.std.proofs.lemmas.Bool.Decides.{nat_tests}
use Rattle.std.proofs.lemmas.Option.{option_and_then_some}
use Rattle.std.specs.Char.{to_ascii_uppercase}
use Rattle.std.specs.Prelude.{codes}
use Rattle.std.specs.Str.{all_ascii_digits}
use Rattle.rr_number.specs.AsNumbers.{IsAsNumber, as_number_of, as_number_text}
use Rattle.rr_number.specs.AsSpans.{IsAsSpan, IsAsSpanText, as_span_of, as_span_text}
use Rattle.rr_number.specs.EndsTexts.{ends_between}
use Rattle.rr_bytes.specs.Blanks.{is_blank}
use Rattle.rr_number.specs.Dashes.{dash, dashed_of}
use Rattle.rr_bytes.specs.LetterCase.{upper}
use Rattle.rr_number.specs.Spans.{Ends}
use Rattle.rr_number.proofs.AsNumberLemmas.{IsAsNumber-printed, as_number_of-bound}
use Rattle.rr_number.proofs.AsNumberLemmas.{as_number_of-read, as_number_of-spelled}
use Rattle.rr_bytes.proofs.CutLemmas.{lacks}
use Rattle.rr_number.proofs.DashLemmas.{HasNoBlank, dashed_of-read, dashed_of-spelled}
use Rattle.rr_number.proofs.EndsLemmas.{ends_between-spelled, ends_between-read, ends_of-ordered}
use Rattle.rr_number.proofs.EndsLemmas.{IsEndsText-text}

digits_no_blank : (ds : List ℕ) → all_ascii_digits ds ≡ true → HasNoBlank ds
digits_no_blank [] digits = refl
digits_no_blank (d ∷ ds) digits = grind (arith, nat_tests, digits_no_blank ds)

digits_no_dash : (ds : List ℕ) → all_ascii_digits ds ≡ true → lacks dash ds ≡ true
digits_no_dash [] digits = refl
digits_no_dash (d ∷ ds) digits = grind (arith, nat_tests, digits_no_dash ds)

-- a letter in some case is no blank and no dash
letter_is_no_blank : (b l : ℕ) → to_ascii_uppercase b ≡ l → 65 ≤ l → not (is_blank b) ≡ true
letter_is_no_blank b l is letter = grind (arith, nat_tests)

letter_is_no_dash : (b l : ℕ) → to_ascii_uppercase b ≡ l → 65 ≤ l → not (b == dash) ≡ true
letter_is_no_dash b l is letter = grind (arith, nat_tests)

as_text_no_blank : (text : List ℕ) → upper (take 2 text) ≡ codes "AS" →
    all_ascii_digits (drop 2 text) ≡ true → HasNoBlank text
as_text_no_blank [] begins digits = refl
as_text_no_blank (a ∷ []) begins digits = absurd (cc)
as_text_no_blank (a ∷ b ∷ ds) begins digits =
    let first : to_ascii_uppercase a ≡ 65 = cc in
    let second : to_ascii_uppercase b ≡ 83 = cc in
    rw (
      letter_is_no_blank a 65 first (omega arith),
      letter_is_no_blank b 83 second (omega arith),
      digits_no_blank ds digits,
    ) refl

as_text_no_dash : (text : List ℕ) → upper (take 2 text) ≡ codes "AS" →
    all_ascii_digits (drop 2 text) ≡ true → lacks dash text ≡ true
as_text_no_dash [] begins digits = refl
as_text_no_dash (a ∷ []) begins digits = absurd (cc)
as_text_no_dash (a ∷ b ∷ ds) begins digits =
    let first : to_ascii_uppercase a ≡ 65 = cc in
    let second : to_ascii_uppercase b ≡ 83 = cc in
    rw (
      letter_is_no_dash a 65 first (omega arith),
      letter_is_no_dash b 83 second (omega arith),
      digits_no_dash ds digits,
    ) refl

-- what is read is spelled
pub as_span_of-spelled : (text : List ℕ) (s : Ends) → as_span_of text ≡ Some s → IsAsSpanText text s
unfolding as_span_of
as_span_of-spelled text s read =
    option_and_then_some _ (dashed_of text) s read (λ ends cut pair.
    ends_between-spelled IsAsNumber as_number_of as_number_of-spelled text ends.0 ends.1 s
    (dashed_of-spelled text ends cut) pair)

-- what is spelled is read
pub as_span_of-read : (text : List ℕ) (s : Ends) → IsAsSpanText text s → as_span_of text ≡ Some s
unfolding as_span_of
as_span_of-read text s is =
    let cut = dashed_of-read text is.first_text is.last_text is.dashed
    (as_text_no_blank _ is.first.begins is.first.number.digits)
    (as_text_no_blank _ is.last.begins is.last.number.digits)
    (as_text_no_dash _ is.first.begins is.first.number.digits) in
    rw cut (ends_between-read IsAsNumber as_number_of as_number_of-read is.first_text is.last_text
    s is.first is.last is.ordered)

-- a printed block spells it
pub IsAsSpanText-text : (s : Ends) → IsAsSpan s → IsAsSpanText (as_span_text s) s
IsAsSpanText-text s is =
    IsEndsText-text IsAsNumber as_number_text s
    (IsAsNumber-printed s.first (omega (arith, is.ordered, is.bound)))
    (IsAsNumber-printed s.last is.bound) is.ordered

-- what is read between AS numbers is a block
pub ends_are_numbers : (first last : List ℕ) (s : Ends) → ends_between as_number_of first last
    ≡ Some s → IsAsSpan s
unfolding ends_between
ends_are_numbers first last s read =
    option_and_then_some _ (as_number_of first) s read (λ x is_x rest.
    option_and_then_some _ (as_number_of last) s rest (λ y is_y ends.
    let parts = ends_of-ordered x y s ends in
    record {
      ordered = omega (arith, parts.0, parts.1, parts.2);
      bound = omega (arith, parts.2, as_number_of-bound last y is_y);
    }))
