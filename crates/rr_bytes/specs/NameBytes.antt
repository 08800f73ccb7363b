-- What names are made of, with letters and digits of ASCII: for names of attributes, maintainers,
-- sources and sets.
use Rattle.std.specs.Prelude.{ℕ, Bool, false, ◌-◌, ◌==◌, ◌&&◌, ◌||◌, List, []}
use Rattle.std.specs.Prelude.{◌∷◌, length, nat_le, slice_get}
use Rattle.std.specs.Char.{is_ascii_alphabetic, is_ascii_alphanumeric}
use Rattle.std.specs.List.{list_all}
use Rattle.std.specs.Option.{option_map_or}

-- Names are made of letters, digits, `-` and `_` (RFC 2622, 2).
abbrev pub is_name_byte : ℕ → Bool
is_name_byte b = is_ascii_alphanumeric b || ((b == 45) || (b == 95))

-- A text begins with a byte that passes the test.
abbrev pub begins : (ℕ → Bool) → List ℕ → Bool
begins test [] = false
begins test (b ∷ bs) = test b

-- A text begins with a letter.
abbrev pub begins_with_letter : List ℕ → Bool
begins_with_letter text = begins is_ascii_alphabetic text

-- A text ends with a letter or a digit.
abbrev pub ends_with_alphanumeric : List ℕ → Bool
ends_with_alphanumeric text =
    option_map_or is_ascii_alphanumeric (slice_get text (length text - 1)) false

-- the most bytes of an attribute's name (profile)
abbrev pub attribute_limit : ℕ
attribute_limit = 64

-- the most bytes of a name (profile)
abbrev pub name_limit : ℕ
name_limit = 80

-- An attribute's name has 1 to 64 letters, digits, `-` and `_`, the first a letter (profile).
abbrev pub is_attribute_name : List ℕ → Bool
is_attribute_name text =
    begins_with_letter text && list_all is_name_byte text && nat_le (length text) attribute_limit

-- A name has 1 to 80 (profile) letters, digits, `-` and `_`, the first a letter, the last a letter
-- or a digit (RFC 2622, 2).
unfoldable pub is_name : List ℕ → Bool
is_name text =
    nat_le (length text) name_limit
    && (list_all is_name_byte text && (begins_with_letter text && ends_with_alphanumeric text))
