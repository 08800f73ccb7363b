-- Lemmas on decimal numbers: for all numbers that are read or printed.
use Rattle.std.proofs.Common.{length, ◌≡◌, ℕ, ◌^◌, ◌<◌, ◌≤◌, true, List, Some, arith}
use Rattle.std.proofs.Math.Nat.{pow-le-pow_right}
use Rattle.std.proofs.lemmas.Bool.Decides.{nat_tests}
use Rattle.std.proofs.lemmas.Fmt.{digits_decimal, digits_value-decimal, length-decimal-le}
use Rattle.std.proofs.lemmas.Fmt.{decimal_nonempty}
use Rattle.std.proofs.lemmas.Str.Parse.{IsNumeralModel, numerals_by_value, tells_all_ascii_digits}
use Rattle.std.specs.Fmt.{decimal}
use Rattle.std.specs.Str.{all_ascii_digits}
use Rattle.std.specs.Str.Parse.{digits_value}
use Rattle.rr_number.specs.Numerals.{IsNumber, number_of}

-- a number of at most 18 digits is below 10^18
pub few_digits : (n i : ℕ) → n < 10 ^ i → i ≤ 18 → n < 10 ^ 18
few_digits n i few short =
    let bound : 10 ^ i ≤ 10 ^ 18 = pow-le-pow_right (omega arith) short in
    omega arith

-- what is read is spelled
pub number_of-spelled : (most limit : ℕ) (text : List ℕ) (n : ℕ) → number_of most limit text
    ≡ Some n → IsNumber most limit text n
unfolding number_of
number_of-spelled most limit text n read = record {
  digits = grind (arith, nat_tests);
  some = grind (arith, nat_tests);
  few = grind (arith, nat_tests);
  value = grind (arith, nat_tests);
  fits = grind (arith, nat_tests);
}

-- what is spelled is read
pub number_of-read : (most limit : ℕ) (text : List ℕ) (n : ℕ) → IsNumber most limit text n →
    number_of most limit text ≡ Some n
unfolding number_of
number_of-read most limit text n spelled = grind (arith, nat_tests)

-- std's words for digits and their value go together
own : IsNumeralModel (λ ds. all_ascii_digits ds ≡ true) (digits_value 10)
own = numerals_by_value _ tells_all_ascii_digits

-- what is printed spells the number
pub IsNumber-decimal : (most limit n : ℕ) → 0 < most → n < 10 ^ most → n < limit → n < 2 ^ 64 →
    IsNumber most limit (decimal n) n
IsNumber-decimal most limit n one few fits wide = record {
  digits = digits_decimal own n wide;
  some = decimal_nonempty n wide;
  few = length-decimal-le most n one few wide;
  value = digits_value-decimal own n wide;
  fits = fits;
}

-- a number below 256 is printed in at most three digits
pub three_digits : (n : ℕ) → n < 256 → length (decimal n) ≤ 3
three_digits n small = length-decimal-le 3 n (omega arith) (omega arith) (omega arith)

-- a number of 32 bits is printed in at most ten digits
pub ten_digits : (n : ℕ) → n < 2 ^ 32 → length (decimal n) ≤ 10
ten_digits n small = length-decimal-le 10 n (omega arith) (omega arith) (omega arith)
