-- Numbers that digits spell, up to a bound (profile): for `capped_value`.
use Rattle.std.specs.Prelude.{ℕ, ◌+◌, min, List}
use Rattle.std.specs.Str.Parse.{digits_value}

-- what digits spell, or one more than the greatest where that is less
abbrev pub capped_value : ℕ → List ℕ → ℕ
capped_value greatest digits = min (digits_value 10 digits) (greatest + 1)
