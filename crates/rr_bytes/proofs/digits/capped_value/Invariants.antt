use Rattle.std.proofs.Common.{◌≡◌, ◌+◌, take}
use Rattle.std.specs.Prelude.{min}
use Rattle.std.specs.Str.Parse.{digits_value}
use Rattle.rr_bytes.proofs.digits.capped_value.Given as goal

abbrev pub invariant-digits : goal.invariant-digits
invariant-digits l = l.value ≡ min (digits_value 10 (take l.digit-index l.digits)) (l.greatest + 1)
