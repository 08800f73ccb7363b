-- AS numbers: for `AsNumber`, blocks of them, and components of sets' names.
use Rattle.std.specs.Prelude.{◌≡◌, ℕ, ◌+◌, List, ◌++◌, take, drop, codes, Option}
use Rattle.std.specs.Prelude.{None, if◌then◌else◌, decimal}
use Rattle.std.specs.Str.{bytes_eq}
use Rattle.rr_bytes.specs.LetterCase.{upper}
use Rattle.rr_number.specs.Numerals.{IsNumber, number_of}

-- The greatest AS number: one of four octets (RFC 6793, 3).
abbrev pub greatest_as_number : ℕ
greatest_as_number = 4294967295

-- The greatest AS number of two octets (RFC 6793, 1).
abbrev pub greatest_16_bit_as_number : ℕ
greatest_16_bit_as_number = 65535

-- An AS number is spelled as `AS`, in any letter case, and one to ten digits of a number of at most
-- 4294967295 (RFC 2622, 2; RFC 6793, 3; the count of digits: profile).
pub record IsAsNumber (text : List ℕ) (n : ℕ) : Type 0 where
  pub begins : upper (take 2 text) ≡ codes "AS"
  pub number : IsNumber 10 (greatest_as_number + 1) (drop 2 text) n

-- The AS number that a text spells, if it spells one (RFC 2622, 2).
unfoldable pub as_number_of : List ℕ → Option ℕ
as_number_of text =
    if bytes_eq (upper (take 2 text)) (codes "AS")
    then number_of 10 (greatest_as_number + 1) (drop 2 text) else None

-- An AS number is printed as `AS` (RFC 2622, 2) and its digits without leading zeros (RFC 5396, 2).
abbrev pub as_number_text : ℕ → List ℕ
as_number_text n = codes "AS" ++ decimal n
