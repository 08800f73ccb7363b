-- Addresses (RFC 2622, 2): four numbers with dots between them. For `Address`, and prefixes and
-- spans of addresses.
use Rattle.std.specs.Prelude.{◌≡◌, ℕ, ◌+◌, ◌*◌, List, ◌∷◌, ◌++◌, Option}
use Rattle.std.specs.Fmt.{decimal}
use Rattle.std.specs.Int.{byte_at}
use Rattle.std.specs.Option.{option_and_then, option_map}
use Rattle.rr_bytes.specs.Cuts.{cut_at}
use Rattle.rr_number.specs.Numerals.{IsNumber, number_of}

-- The separator of octets, '.' (RFC 2622, 2).
abbrev pub dot : ℕ
dot = 46

-- The greatest address: one of four octets (RFC 791, 3).
abbrev pub greatest_address : ℕ
greatest_address = 4294967295

-- An octet is below 256 (RFC 2622, 2), and spelled in one to three digits (profile).
abbrev pub IsOctet : List ℕ → ℕ → Type 0
IsOctet text n = IsNumber 3 256 text n

-- The address of four octets has the first of them as its highest (RFC 791, 3).
abbrev pub join_octets : ℕ → ℕ → ℕ → ℕ → ℕ
join_octets w x y z = ((w * 256 + x) * 256 + y) * 256 + z

-- Four texts with dots between them (RFC 2622, 2).
abbrev pub dotted : List ℕ → List ℕ → List ℕ → List ℕ → List ℕ
dotted a b c d = a ++ (dot ∷ (b ++ (dot ∷ (c ++ (dot ∷ d)))))

-- An address is spelled as four octets with dots between them (RFC 2622, 2).
pub record IsAddress (text : List ℕ) (address : ℕ) : Type 0 where
  pub a : List ℕ
  pub b : List ℕ
  pub c : List ℕ
  pub d : List ℕ
  pub w : ℕ
  pub x : ℕ
  pub y : ℕ
  pub z : ℕ
  pub first : IsOctet a w
  pub second : IsOctet b x
  pub third : IsOctet c y
  pub fourth : IsOctet d z
  pub spelled : text ≡ dotted a b c d
  pub value : address ≡ join_octets w x y z

-- The octet that the text spells, if it does (RFC 2622, 2).
abbrev pub octet_of : List ℕ → Option ℕ
octet_of text = number_of 3 256 text

-- The address of four texts, if each spells an octet (RFC 2622, 2).
unfoldable pub joined_of : List ℕ → List ℕ → List ℕ → List ℕ → Option ℕ
joined_of a b c d =
    option_and_then
    (λ w. option_and_then (λ x. option_and_then (λ y. option_map (λ z. join_octets w x y z)
    (octet_of d)) (octet_of c)) (octet_of b)) (octet_of a)

-- The address that the text spells, if it does (RFC 2622, 2).
unfoldable pub address_of : List ℕ → Option ℕ
address_of text =
    option_and_then (λ first. option_and_then (λ second. option_and_then (λ third.
    joined_of first.0 second.0 third.0 third.1)
    (cut_at dot second.1)) (cut_at dot first.1)) (cut_at dot text)

-- An address is printed as its four octets, the highest first, without leading zeros (RFC 2622, 2).
unfoldable pub address_text : ℕ → List ℕ
address_text address =
    dotted (decimal (byte_at 3 address)) (decimal (byte_at 2 address)) (decimal (byte_at 1 address))
    (decimal (byte_at 0 address))
