-- The spellings of AS numbers, and what is read of them: for `AsNumber::read`, blocks and names of
-- sets.
use Rattle.std.proofs.Common.{◌≡◌, ℕ, ◌+◌, ◌≤◌, ◌<◌, Bool, true, false, cond, List, Option, Some}
use Rattle.std.proofs.Common.{None, take, drop, refl, ap, ◌∙◌, arith}
use Rattle.std.specs.Cmp.Lexicographic.{bytes_decides}
use Rattle.std.specs.Prelude.{codes}
use Rattle.std.specs.Str.{bytes_eq}
use Rattle.rr_number.specs.AsNumbers.{as_number_of, as_number_text, greatest_as_number, IsAsNumber}
use Rattle.rr_bytes.specs.LetterCase.{upper}
use Rattle.rr_number.specs.Numerals.{number_of}
use Rattle.rr_number.proofs.Decimals.{number_of-spelled, number_of-read, IsNumber-decimal}

-- what is read after a test has passed it
after_test : (t : Bool) (o : Option ℕ) (n : ℕ) → cond t o None ≡ Some n → (t ≡ true) × (o ≡ Some n)
after_test true o n e = (refl, e)
after_test false o n e = absurd (cc)

-- what is read is spelled
pub as_number_of-spelled : (text : List ℕ) (n : ℕ) → as_number_of text ≡ Some n → IsAsNumber text n
unfolding as_number_of
as_number_of-spelled text n read =
    let parts = after_test (bytes_eq (upper (take 2 text)) (codes "AS"))
    (number_of 10 (greatest_as_number + 1) (drop 2 text)) n read in
    record {
      begins = (bytes_decides (upper (take 2 text)) (codes "AS")).0 parts.0;
      number = number_of-spelled 10 (greatest_as_number + 1) (drop 2 text) n parts.1;
    }

-- what is spelled is read
pub as_number_of-read : (text : List ℕ) (n : ℕ) → IsAsNumber text n → as_number_of text ≡ Some n
unfolding as_number_of
as_number_of-read text n spelled =
    let begins : bytes_eq (upper (take 2 text)) (codes "AS") ≡ true =
    (bytes_decides (upper (take 2 text)) (codes "AS")).1 spelled.begins in
    ap (λ t. cond t (number_of 10 (greatest_as_number + 1) (drop 2 text)) None) begins
    ∙ number_of-read 10 (greatest_as_number + 1) (drop 2 text) n spelled.number

pub as_number_of-bound : (text : List ℕ) (n : ℕ) → as_number_of text ≡ Some n →
    n ≤ greatest_as_number
as_number_of-bound text n read =
    let fits : n < greatest_as_number + 1 = (as_number_of-spelled text n read).number.fits in
    omega arith

-- what is printed is a spelling of the number
pub IsAsNumber-printed : (n : ℕ) → n ≤ greatest_as_number → IsAsNumber (as_number_text n) n
IsAsNumber-printed n bound = record {
  begins = refl;
  number = IsNumber-decimal 10 (greatest_as_number + 1) n (omega arith) (omega arith) (omega arith)
      (omega arith);
}

pub as_number_of-printed : (n : ℕ) → n ≤ greatest_as_number → as_number_of (as_number_text n)
    ≡ Some n
as_number_of-printed n bound = as_number_of-read (as_number_text n) n (IsAsNumber-printed n bound)
