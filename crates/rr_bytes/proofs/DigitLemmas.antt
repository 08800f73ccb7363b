-- Lemmas on numbers in digits: for `capped_value`.
use Rattle.std.proofs.Common.{◌≡◌, ℕ, ◌+◌, ◌-◌, ◌*◌, ◌<◌, Bool, true, false, List, length, take}
use Rattle.std.proofs.Common.{get_or, arith, refl}
use Rattle.std.specs.Prelude.{min}
use Rattle.std.specs.List.{list_all}
use Rattle.std.specs.Char.{is_ascii_digit}
use Rattle.std.specs.Int.{IsInRange}
use Rattle.std.specs.Str.Parse.{digits_value}
use Rattle.std.proofs.lemmas.Bool.Decides.{nat_tests}
use Rattle.std.proofs.lemmas.List.Folds.{list_all_at}
use Rattle.std.proofs.lemmas.Int.Digits.{digits_value_more}
use Rattle.std.proofs.lemmas.Str.{digit_value_digit}

is_not_false : (b : Bool) → (b ≡ false → ⊥) → b ≡ true
is_not_false true h = refl
is_not_false false h = absurd (h refl)

-- each of some digits is a digit
pub digit_of : (digits : List ℕ) (i : ℕ) → list_all is_ascii_digit digits ≡ true →
    i < length digits → is_ascii_digit (get_or digits i 0) ≡ true
digit_of digits i all h =
    is_not_false _ (λ e. let other : list_all is_ascii_digit digits ≡ false =
    list_all_at is_ascii_digit digits i 0 h e in cc)

-- a number that is read on by one digit stays within its bound
pub capped_next : (digits : List ℕ) (i value bound : ℕ) → list_all is_ascii_digit digits ≡ true →
    i < length digits →
    value ≡ min (digits_value 10 (take i digits)) (bound + 1) →
    min (value * 10 + (get_or digits i 0 - 48)) (bound + 1)
    ≡ min (digits_value 10 (take (i + 1) digits)) (bound + 1)
capped_next digits i value bound all h so_far =
    let digit = digit_of digits i all h in
    let within : IsInRange 48 57 (get_or digits i 0) = grind (arith, nat_tests) in
    let worth = digit_value_digit (get_or digits i 0) within in
    omega (arith, digits_value_more 10 digits i h)
