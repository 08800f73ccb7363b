-- Keys as bytes in tables of version 1, which knew 16-bit AS numbers alone: for `rr_store`, which
-- migrates such tables: so these bytes stay as they are.
use Rattle.std.specs.Prelude.{◌≡◌, ℕ, Bool, nat_le, List, [], ◌∷◌, Option, Some, None}
use Rattle.std.specs.Prelude.{if◌then◌else◌}
use Rattle.std.specs.List.{filter_map, list_all}
use Rattle.std.specs.Ordering.{ordering_then, nat_cmp}
use Rattle.std.specs.Cmp.Lexicographic.{slice_cmp}
use Rattle.std.specs.Int.{to_be_bytes, w16}
use Rattle.hex.specs.Hex.{encode_lower}
use Rattle.rr_number.specs.AsNumbers.{as_number_of, greatest_16_bit_as_number}
use Rattle.rr_number.specs.SetNames.{components}
use Rattle.rr_object.specs.declared.key.Key.{Key}
use Rattle.rr_object.specs.declared.key.Key.TheVariants.{Mntner, AsBlock, AutNum, Inetnum, Route}
use Rattle.rr_object.specs.declared.key.Key.TheVariants.{AsSet, RouteSet}
use Rattle.rr_object.specs.Classes.{class_number}
use Rattle.rr_object.specs.Keys.{class_of}
use Rattle.rr_object.specs.KeyOrders.{IsKeyValue, key_cmp}
use Rattle.rr_object.specs.KeyTexts.{bytes_with}

-- a 16-bit AS number (RFC 6793, 1)
abbrev pub has_two_octets : ℕ → Bool
has_two_octets number = nat_le number greatest_16_bit_as_number

-- the lower 16 bits of an AS number as four hexadecimal digits in lower case (profile)
abbrev pub four_digits : ℕ → List ℕ
four_digits number = encode_lower (to_be_bytes w16 number)

-- the AS numbers among the components of a set's name (RFC 2622, 5)
abbrev pub numbers_among : List ℕ → List ℕ
numbers_among name = filter_map as_number_of (components name)

-- the AS numbers in a key (profile)
abbrev pub numbers_in : Key → List ℕ
numbers_in (Mntner name) = []
numbers_in (AsBlock block) = block.first ∷ (block.last ∷ [])
numbers_in (AutNum number) = number ∷ []
numbers_in (Inetnum span) = []
numbers_in (Route prefix origin) = origin ∷ []
numbers_in (AsSet name) = numbers_among name
numbers_in (RouteSet name) = numbers_among name

-- a key as bytes in tables of version 1, with four digits for an AS number outside a set's name. A
-- key with an AS number above 65535, also in a set's name, has no such bytes (profile)
abbrev pub old_key_bytes : Key → Option (List ℕ)
old_key_bytes key =
    if list_all has_two_octets (numbers_in key) then Some (bytes_with four_digits key) else None

-- two well-formed keys of a class have equal bytes in tables of version 1 only if they are equal
-- (profile)
abbrev pub OldBytesTellKeys : Type 0
OldBytesTellKeys =
    (a b : Key) (bytes : List ℕ) → IsKeyValue a → IsKeyValue b → class_of a ≡ class_of b
    → old_key_bytes a ≡ Some bytes → old_key_bytes b ≡ Some bytes → a ≡ b

-- well-formed keys that have bytes in tables of version 1 are ordered by the numbers of their
-- classes, then by these bytes (profile)
abbrev pub OldBytesKeepOrder : Type 0
OldBytesKeepOrder =
    (a b : Key) (x y : List ℕ) → IsKeyValue a → IsKeyValue b → old_key_bytes a ≡ Some x
    → old_key_bytes b ≡ Some y
    → key_cmp a b
    ≡ ordering_then (nat_cmp (class_number (class_of a)) (class_number (class_of b)))
    (slice_cmp nat_cmp x y)
