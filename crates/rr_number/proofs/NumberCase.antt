-- Letter case makes no difference to AS numbers, and an AS number is printed no longer than it is
-- spelled: for the components of sets' names.
use Rattle.std.proofs.Common.{◌≡◌, ℕ, ◌+◌, ◌*◌, ◌^◌, ◌<◌, ◌≤◌, true, ◌&&◌, List, [], ◌∷◌, Some}
use Rattle.std.proofs.Common.{take, drop, length, refl, ap, ◌∙◌, arith, length-drop}
use Rattle.std.proofs.lemmas.Bool.Decides.{nat_tests}
use Rattle.std.proofs.lemmas.Fmt.{length-decimal-le}
use Rattle.std.proofs.lemmas.Int.Digits.{digits_value-lt}
use Rattle.std.proofs.lemmas.List.{length-map}
use Rattle.std.proofs.lemmas.Str.Parse.{IsNumeralModel, numerals_by_value, tells_all_ascii_digits}
use Rattle.std.specs.Char.{digit_value, is_ascii_digit, to_ascii_uppercase}
use Rattle.std.specs.Fmt.{decimal}
use Rattle.std.specs.Str.{all_ascii_digits}
use Rattle.std.specs.Str.Parse.{digits_value, digits_value_after}
use Rattle.rr_number.specs.AsNumbers.{as_number_of, as_number_text, greatest_as_number}
use Rattle.rr_bytes.specs.LetterCase.{upper}
use Rattle.rr_number.specs.Numerals.{number_of, IsNumber}
use Rattle.rr_number.proofs.AsNumberLemmas.{as_number_of-spelled}
use Rattle.rr_number.proofs.NameLemmas.{upper-upper}

digit_byte-upper : (b : ℕ) → is_ascii_digit (to_ascii_uppercase b) ≡ is_ascii_digit b
digit_byte-upper b = grind (arith, nat_tests)

digit_value-upper : (b : ℕ) → digit_value (to_ascii_uppercase b) ≡ digit_value b
digit_value-upper b = grind (arith, nat_tests)

digits-upper : (ds : List ℕ) → all_ascii_digits (upper ds) ≡ all_ascii_digits ds
digits-upper [] = refl
digits-upper (d ∷ ds) = λ i. digit_byte-upper d i && digits-upper ds i

value-upper : (n : ℕ) (ds : List ℕ) → digits_value_after 10 n (upper ds) ≡ digits_value_after 10 n
    ds
value-upper n [] = refl
value-upper n (d ∷ ds) = ap (λ v. digits_value_after 10 (n * 10 + v) (upper ds))
    (digit_value-upper d) ∙ value-upper (n * 10 + digit_value d) ds

number_of-upper : (most limit : ℕ) (ds : List ℕ) → number_of most limit (upper ds) ≡ number_of most
    limit ds
unfolding number_of
number_of-upper most limit ds = rw (digits-upper ds, value-upper 0 ds, length-map) refl

prefix-upper : (text : List ℕ) → take 2 (upper text) ≡ upper (take 2 text)
prefix-upper [] = refl
prefix-upper (a ∷ []) = refl
prefix-upper (a ∷ b ∷ bs) = refl

back-upper : (text : List ℕ) → drop 2 (upper text) ≡ upper (drop 2 text)
back-upper [] = refl
back-upper (a ∷ []) = refl
back-upper (a ∷ b ∷ bs) = refl

pub as_number_of-upper : (text : List ℕ) → as_number_of (upper text) ≡ as_number_of text
unfolding as_number_of
as_number_of-upper text =
    rw (
      prefix-upper text,
      upper-upper (take 2 text),
      back-upper text,
      number_of-upper 10 (greatest_as_number + 1) (drop 2 text),
    ) refl

own : IsNumeralModel (λ ds. all_ascii_digits ds ≡ true) (digits_value 10)
own = numerals_by_value _ tells_all_ascii_digits

length_of_number : (digits : List ℕ) (n : ℕ) → IsNumber 10 (greatest_as_number + 1) digits n →
    length (decimal n) ≤ length digits
length_of_number digits n is =
    let small : digits_value 10 digits < 10 ^ length digits = digits_value-lt 10 digits
    (own.to digits is.digits) in
    let below : n < 10 ^ length digits = rw is.value at small in
    let fits : n < greatest_as_number + 1 = is.fits in
    length-decimal-le (length digits) n is.some below (omega arith)

-- the printed text is no longer than a spelling
pub length-as_number_text : (text : List ℕ) (n : ℕ) → as_number_of text ≡ Some n →
    length (as_number_text n) ≤ length text
length-as_number_text text n read =
    let is : IsNumber 10 (greatest_as_number + 1) (drop 2 text) n =
    (as_number_of-spelled text n read).number in
    let short : length (decimal n) ≤ length (drop 2 text) = length_of_number (drop 2 text) n is in
    let some : 0 < length (drop 2 text) = is.some in
    omega (arith, length-drop 2 text)
