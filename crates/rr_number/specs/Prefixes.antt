-- Prefixes (RFC 2622, 2): an address and how many of its first bits count. For `Prefix`, ranges and
-- routes.
use Rattle.std.specs.Prelude.{◌≡◌, ℕ, ◌+◌, ◌-◌, ◌%◌, ◌^◌, ◌<◌}
use Rattle.std.specs.Prelude.{◌≤◌, List, ◌∷◌, ◌++◌, Option}
use Rattle.std.specs.Fmt.{decimal}
use Rattle.std.specs.declared.cmp.Ordering.{Ordering}
use Rattle.std.specs.Ordering.{ordering_then, nat_cmp}
use Rattle.std.specs.Option.{option_and_then, option_map}
use Rattle.rr_number.specs.Addresses.{IsAddress, address_of, address_text}
use Rattle.rr_bytes.specs.Cuts.{cut_at}
use Rattle.rr_number.specs.Numerals.{IsNumber, number_of}
use Rattle.rr_number.specs.Spans.{Ends}

-- A prefix as its first address and its length (RFC 2622, 2).
pub record PrefixParts : Type 0 where
  pub address : ℕ
  pub length : ℕ

-- How many addresses a prefix of this length has (RFC 2622, 2).
abbrev pub count_of : ℕ → ℕ
count_of length = 2 ^ (32 - length)

-- A prefix has an address below 2^32 and a length of at most 32 (RFC 2622, 2), and its bits past
-- the length are zero (profile).
pub record IsMasked (p : PrefixParts) : Type 0 where
  pub short : p.length ≤ 32
  pub fits : p.address < 2 ^ 32
  pub aligned : p.address % count_of p.length ≡ 0

-- The prefix of this length that the address lies in: bits past the length are read as zero
-- (profile).
abbrev pub masked : ℕ → ℕ → PrefixParts
masked address length = record { address = address - address % count_of length; length = length }

-- The span of a prefix begins at its address, and has all addresses of the prefix (RFC 2622, 2).
abbrev pub span_of : PrefixParts → Ends
span_of p = record { first = p.address; last = p.address + (count_of p.length - 1) }

-- Prefixes are ordered by address, then by length (profile).
abbrev pub prefix_cmp : PrefixParts → PrefixParts → Ordering
prefix_cmp p q = ordering_then (nat_cmp p.address q.address) (nat_cmp p.length q.length)

-- The separator of address and length, '/' (RFC 2622, 2).
abbrev pub slash : ℕ
slash = 47

-- A length is at most 32 (RFC 2622, 2), and spelled in one or two digits (profile).
abbrev pub IsLength : List ℕ → ℕ → Type 0
IsLength text n = IsNumber 2 33 text n

-- A prefix is spelled as an address, a slash and a length (RFC 2622, 2); bits past the length are
-- read as zero (profile).
pub record IsPrefix (text : List ℕ) (p : PrefixParts) : Type 0 where
  pub address_text : List ℕ
  pub length_text : List ℕ
  pub address : ℕ
  pub length : ℕ
  pub first : IsAddress address_text address
  pub second : IsLength length_text length
  pub spelled : text ≡ address_text ++ (slash ∷ length_text)
  pub value : p ≡ masked address length

-- The length that the text spells, if it does (RFC 2622, 2).
abbrev pub length_of : List ℕ → Option ℕ
length_of text = number_of 2 33 text

-- The prefix of two texts, if they spell an address and a length (RFC 2622, 2).
unfoldable pub masked_of : List ℕ → List ℕ → Option PrefixParts
masked_of address length =
    option_and_then (λ a. option_map (λ l. masked a l) (length_of length)) (address_of address)

-- The prefix that the text spells, if it does (RFC 2622, 2).
unfoldable pub prefix_of : List ℕ → Option PrefixParts
prefix_of text = option_and_then (λ parts. masked_of parts.0 parts.1) (cut_at slash text)

-- A prefix is printed as its address, a slash and its length (RFC 2622, 2).
unfoldable pub prefix_text : PrefixParts → List ℕ
prefix_text p = address_text p.address ++ (slash ∷ decimal p.length)
