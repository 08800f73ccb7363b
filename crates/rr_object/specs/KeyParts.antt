-- What the private functions that make the bytes of keys promise. The definitions of these bytes
-- stand in `KeyTexts` and `OldKeys`, and no caller reads these.
use Rattle.std.specs.Prelude.{ℕ, Bool, true, List}
use Rattle.std.specs.Option.{option_map_or}
use Rattle.rr_number.specs.AsNumbers.{as_number_of}
use Rattle.rr_object.specs.declared.key_print.Digits.{Digits}
use Rattle.rr_object.specs.declared.key_print.Digits.TheVariants.{Four, Eight}
use Rattle.rr_object.specs.KeyTexts.{eight_digits}
use Rattle.rr_object.specs.OldKeys.{four_digits, has_two_octets}

-- the digits of a number: of its lower two octets, or of all four
abbrev pub digits_of : Digits → ℕ → List ℕ
digits_of Four number = four_digits number
digits_of Eight number = eight_digits number

-- a component of a set's name is not an AS number of more than two octets
abbrev pub is_old_component : List ℕ → Bool
is_old_component component = option_map_or has_two_octets (as_number_of component) true
