use Rattle.std.proofs.Common.{◌≡◌, ◌<◌, ◌^◌, drop}
use Rattle.std.specs.Str.{all_ascii_digits}
use Rattle.std.specs.Str.Parse.{digits_value, digits_value_after}
use Rattle.rr_number.proofs.digits.read_number.Given as goal

abbrev pub invariant-bytes : goal.invariant-bytes
invariant-bytes l =
    (all_ascii_digits (drop l.byte-index l.text) ≡ all_ascii_digits l.text)
    × (digits_value_after 10 l.number (drop l.byte-index l.text) ≡ digits_value 10 l.text)
    × (l.number < 10 ^ l.byte-index)
