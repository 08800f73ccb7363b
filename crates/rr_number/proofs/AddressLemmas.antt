-- Lemmas on the texts of addresses: for `Address::read`, and for prefixes and spans.
use Rattle.std.proofs.Common.{◌≡◌, ℕ, ◌==◌, ◌<◌, ◌^◌, true, false, List, ◌∷◌, ◌++◌, Some, refl, ap}
use Rattle.std.proofs.Common.{subst, sym, arith}
use Rattle.std.proofs.lemmas.Option.{option_and_then_some}
use Rattle.std.proofs.lemmas.Nat.{from_be_bytes-to_be_bytes_4}
use Rattle.std.specs.Char.{is_ascii_digit}
use Rattle.std.specs.Fmt.{decimal}
use Rattle.std.specs.Int.{byte_at}
use Rattle.rr_bytes.specs.Cuts.{cut_at}
use Rattle.rr_number.specs.Addresses.{IsAddress, IsOctet, address_of, address_text, dot, dotted}
use Rattle.rr_number.specs.Addresses.{joined_of, octet_of}
use Rattle.rr_number.proofs.Choices.{option_map-some}
use Rattle.rr_bytes.proofs.CutLemmas.{cut_at-append, cut_at-joined, lacks, lacks-digits}
use Rattle.rr_bytes.proofs.CutLemmas.{lacks-joined}
use Rattle.rr_number.proofs.Decimals.{number_of-spelled, number_of-read, IsNumber-decimal}

-- four texts that are read as octets are octets
joined_of-octets : (a b c d : List ℕ) (n : ℕ) → joined_of a b c d ≡ Some n →
    IsAddress (dotted a b c d) n
unfolding joined_of
joined_of-octets a b c d n read =
    option_and_then_some _ (octet_of a) n read (λ w is_w rest_w.
    option_and_then_some _ (octet_of b) n rest_w (λ x is_x rest_x.
    option_and_then_some _ (octet_of c) n rest_x (λ y is_y rest_y.
    option_map-some _ (octet_of d) n rest_y (λ z is_z value. record {
      a = a;
      b = b;
      c = c;
      d = d;
      w = w;
      x = x;
      y = y;
      z = z;
      first = number_of-spelled 3 256 a w is_w;
      second = number_of-spelled 3 256 b x is_x;
      third = number_of-spelled 3 256 c y is_y;
      fourth = number_of-spelled 3 256 d z is_z;
      spelled = refl;
      value = sym value;
    }))))

-- what is read is spelled
pub address_of-spelled : (text : List ℕ) (n : ℕ) → address_of text ≡ Some n → IsAddress text n
unfolding address_of
address_of-spelled text n read =
    option_and_then_some _ (cut_at dot text) n read (λ first is_first rest_first.
    option_and_then_some _ (cut_at dot first.1) n rest_first (λ second is_second rest_second.
    option_and_then_some _ (cut_at dot second.1) n rest_second (λ third is_third rest_third.
    let at_first : text ≡ first.0 ++ (dot ∷ first.1) = cut_at-joined dot text first.0 first.1
    is_first in
    let at_second : first.1 ≡ second.0 ++ (dot ∷ second.1) = cut_at-joined dot first.1 second.0
    second.1 is_second in
    let at_third : second.1 ≡ third.0 ++ (dot ∷ third.1) = cut_at-joined dot second.1 third.0
    third.1 is_third in
    let spelled : text ≡ dotted first.0 second.0 third.0 third.1 = cc in
    subst (λ (t : List ℕ). IsAddress t n) (sym spelled) (joined_of-octets first.0 second.0 third.0
    third.1 n rest_third))))

-- what is spelled is read
pub address_of-read : (text : List ℕ) (n : ℕ) → IsAddress text n → address_of text ≡ Some n
unfolding address_of joined_of
address_of-read text n spelled =
    let first : cut_at dot text
    ≡ Some (spelled.a, spelled.b ++ (dot ∷ (spelled.c ++ (dot ∷ spelled.d)))) =
    rw spelled.spelled
    (cut_at-append dot spelled.a _ (lacks-digits dot spelled.a refl spelled.first.digits)) in
    let second : cut_at dot (spelled.b ++ (dot ∷ (spelled.c ++ (dot ∷ spelled.d))))
    ≡ Some (spelled.b, spelled.c ++ (dot ∷ spelled.d)) =
    cut_at-append dot spelled.b _ (lacks-digits dot spelled.b refl spelled.second.digits) in
    let third : cut_at dot (spelled.c ++ (dot ∷ spelled.d)) ≡ Some (spelled.c, spelled.d) =
    cut_at-append dot spelled.c _ (lacks-digits dot spelled.c refl spelled.third.digits) in
    let at_w : octet_of spelled.a ≡ Some spelled.w = number_of-read 3 256 spelled.a spelled.w
    spelled.first in
    let at_x : octet_of spelled.b ≡ Some spelled.x = number_of-read 3 256 spelled.b spelled.x
    spelled.second in
    let at_y : octet_of spelled.c ≡ Some spelled.y = number_of-read 3 256 spelled.c spelled.y
    spelled.third in
    let at_z : octet_of spelled.d ≡ Some spelled.z = number_of-read 3 256 spelled.d spelled.z
    spelled.fourth in
    rw (first, second, third, at_w, at_x, at_y, at_z) (ap Some (sym spelled.value))

-- a printed octet spells it
IsOctet-decimal : (n : ℕ) → n < 256 → IsOctet (decimal n) n
IsOctet-decimal n small = IsNumber-decimal 3 256 n (omega arith) (omega arith) small (omega arith)

-- a printed address spells it
pub IsAddress-text : (n : ℕ) → n < 2 ^ 32 → IsAddress (address_text n) n
unfolding address_text
IsAddress-text n fits = record {
  a = decimal (byte_at 3 n);
  b = decimal (byte_at 2 n);
  c = decimal (byte_at 1 n);
  d = decimal (byte_at 0 n);
  w = byte_at 3 n;
  x = byte_at 2 n;
  y = byte_at 1 n;
  z = byte_at 0 n;
  first = IsOctet-decimal (byte_at 3 n) (omega arith);
  second = IsOctet-decimal (byte_at 2 n) (omega arith);
  third = IsOctet-decimal (byte_at 1 n) (omega arith);
  fourth = IsOctet-decimal (byte_at 0 n) (omega arith);
  spelled = refl;
  value = omega (arith, from_be_bytes-to_be_bytes_4 n fits);
}

-- an address has no separator among its digits and dots
pub lacks-address : (s : ℕ) (text : List ℕ) (n : ℕ) → is_ascii_digit s ≡ false → (dot == s)
    ≡ false → IsAddress text n → lacks s text ≡ true
lacks-address s text n no_digit no_dot spelled =
    let third : lacks s (spelled.c ++ (dot ∷ spelled.d)) ≡ true =
    lacks-joined s dot spelled.c spelled.d no_dot
    (lacks-digits s spelled.c no_digit spelled.third.digits)
    (lacks-digits s spelled.d no_digit spelled.fourth.digits) in
    let second : lacks s (spelled.b ++ (dot ∷ (spelled.c ++ (dot ∷ spelled.d)))) ≡ true =
    lacks-joined s dot spelled.b _ no_dot (lacks-digits s spelled.b no_digit spelled.second.digits)
    third in
    rw spelled.spelled (lacks-joined s dot spelled.a _ no_dot
    (lacks-digits s spelled.a no_digit spelled.first.digits) second)
