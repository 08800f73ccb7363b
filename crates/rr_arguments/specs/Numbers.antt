-- Numbers among the arguments of the command line (profile).
use Rattle.std.specs.Prelude.{ℕ, ◌&&◌, nat_le, nat_lt, Bool, List, length, Option, Some, None}
use Rattle.std.specs.Prelude.{if◌then◌else◌}
use Rattle.std.specs.Char.{is_ascii_digit}
use Rattle.std.specs.List.{list_all}
use Rattle.std.specs.Str.Parse.{digits_value}

-- an argument spells a number from 1 to the greatest, in decimal digits alone; leading zeros are
-- taken (profile)
abbrev pub is_number_within : List ℕ → ℕ → Bool
is_number_within argument greatest =
    (nat_lt 0 (length argument) && list_all is_ascii_digit argument)
    && (nat_lt 0 (digits_value 10 argument) && nat_le (digits_value 10 argument) greatest)

-- the number that an argument spells so, if it does (profile)
abbrev pub number_within : List ℕ → ℕ → Option ℕ
number_within argument greatest =
    if is_number_within argument greatest then Some (digits_value 10 argument) else None
