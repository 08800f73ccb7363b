-- The texts of keys: in reports, and as the bytes by which they are ordered. Rows have these bytes,
-- so other bytes need other versions of tables.
use Rattle.std.specs.Prelude.{ℕ, ◌+◌, ◌/◌, ◌%◌, List, [], ◌∷◌, ◌++◌}
use Rattle.std.specs.Int.{to_be_bytes, w32}
use Rattle.hex.specs.Hex.{encode_lower}
use Rattle.rr_number.specs.AsNumbers.{as_number_text}
use Rattle.rr_number.specs.AsSpans.{as_span_text}
use Rattle.rr_number.specs.Prefixes.{PrefixParts, prefix_text}
use Rattle.rr_number.specs.Spans.{Ends}
use Rattle.rr_number.specs.SpanTexts.{span_text}
use Rattle.rr_object.specs.declared.key.Key.{Key}
use Rattle.rr_object.specs.declared.key.Key.TheVariants.{Mntner, AsBlock, AutNum, Inetnum, Route}
use Rattle.rr_object.specs.declared.key.Key.TheVariants.{AsSet, RouteSet}

-- a key as reports print it: a name as it is kept, a span or a number as it is printed. A route is
-- printed as its prefix, a space and its origin (profile)
abbrev pub key_text : Key → List ℕ
key_text (Mntner name) = name
key_text (AsBlock block) = as_span_text block
key_text (AutNum number) = as_number_text number
key_text (Inetnum span) = span_text span
key_text (Route prefix origin) = prefix_text prefix ++ (32 ∷ as_number_text origin)
key_text (AsSet name) = name
key_text (RouteSet name) = name

-- an address or an AS number as eight hexadecimal digits in lower case (profile)
abbrev pub eight_digits : ℕ → List ℕ
eight_digits number = encode_lower (to_be_bytes w32 number)

-- a length as two decimal digits (profile)
abbrev pub length_bytes : ℕ → List ℕ
length_bytes length = (48 + length / 10) ∷ ((48 + length % 10) ∷ [])

-- the ends of a span, in these digits, with a dash between them (profile)
abbrev pub span_bytes : (ℕ → List ℕ) → Ends → List ℕ
span_bytes digits span = digits span.first ++ (45 ∷ digits span.last)

-- a route as its address, a slash, its length, a dash and its origin in these digits (profile)
abbrev pub route_bytes : (ℕ → List ℕ) → PrefixParts → ℕ → List ℕ
route_bytes digits prefix origin =
    eight_digits prefix.address ++ (47 ∷ (length_bytes prefix.length ++ (45 ∷ digits origin)))

-- a key as bytes, with these digits for an AS number and eight for an address; a name is itself
-- (profile)
abbrev pub bytes_with : (ℕ → List ℕ) → Key → List ℕ
bytes_with digits (Mntner name) = name
bytes_with digits (AsBlock block) = span_bytes digits block
bytes_with digits (AutNum number) = digits number
bytes_with digits (Inetnum span) = span_bytes eight_digits span
bytes_with digits (Route prefix origin) = route_bytes digits prefix origin
bytes_with digits (AsSet name) = name
bytes_with digits (RouteSet name) = name

-- a key as the bytes by which the keys of a class are ordered and stored (profile)
abbrev pub key_bytes : Key → List ℕ
key_bytes key = bytes_with eight_digits key
