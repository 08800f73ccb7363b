-- Decimal numbers within a limit, as octets, lengths and AS numbers are written.
use Rattle.std.specs.Prelude.{◌≡◌, ℕ, ◌<◌, ◌≤◌, Bool, true, ◌&&◌, List}
use Rattle.std.specs.Prelude.{length, Option, Some, None, nat_lt, nat_le, if◌then◌else◌}
use Rattle.std.specs.Str.{all_ascii_digits}
use Rattle.std.specs.Str.Parse.{digits_value}

-- A text spells a number in one to `most` digits, leading zeros among them, where the number is
-- below the limit (profile).
pub record IsNumber (most limit : ℕ) (text : List ℕ) (n : ℕ) : Type 0 where
  pub digits : all_ascii_digits text ≡ true
  pub some : 0 < length text
  pub few : length text ≤ most
  pub value : digits_value 10 text ≡ n
  pub fits : n < limit

-- Whether a text spells a number below the limit in one to `most` digits (profile).
abbrev pub is_number : ℕ → ℕ → List ℕ → Bool
is_number most limit text =
    all_ascii_digits text
    && (nat_lt 0 (length text)
    && (nat_le (length text) most && nat_lt (digits_value 10 text) limit))

-- The number below the limit that a text spells in one to `most` digits, if it does (profile).
unfoldable pub number_of : ℕ → ℕ → List ℕ → Option ℕ
number_of most limit text =
    if is_number most limit text then Some (digits_value 10 text) else None
