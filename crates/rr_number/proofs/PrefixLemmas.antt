-- Lemmas on the texts of prefixes: for `Prefix::read`, and for ranges and spans.
use Rattle.std.proofs.Common.{◌≡◌, ℕ, List, Some, refl, ap, sym, arith}
use Rattle.std.proofs.lemmas.Option.{option_and_then_some}
use Rattle.std.specs.Fmt.{decimal}
use Rattle.rr_number.specs.Addresses.{address_of, address_text}
use Rattle.rr_bytes.specs.Cuts.{cut_at}
use Rattle.rr_number.specs.Prefixes.{PrefixParts, IsMasked, IsPrefix, length_of, masked_of}
use Rattle.rr_number.specs.Prefixes.{prefix_of, prefix_text, slash}
use Rattle.rr_number.proofs.AddressLemmas.{address_of-spelled, address_of-read, IsAddress-text}
use Rattle.rr_number.proofs.AddressLemmas.{lacks-address}
use Rattle.rr_number.proofs.Choices.{option_map-some}
use Rattle.rr_bytes.proofs.CutLemmas.{cut_at-joined, cut_at-append}
use Rattle.rr_number.proofs.Decimals.{number_of-spelled, number_of-read, IsNumber-decimal}
use Rattle.rr_number.proofs.PrefixSpans.{masked-IsMasked}

-- what is read is spelled
pub prefix_of-spelled : (text : List ℕ) (p : PrefixParts) → prefix_of text ≡ Some p →
    IsPrefix text p
unfolding prefix_of masked_of
prefix_of-spelled text p read =
    option_and_then_some _ (cut_at slash text) p read (λ parts is_parts rest.
    option_and_then_some _ (address_of parts.0) p rest (λ address is_address rest_length.
    option_map-some _ (length_of parts.1) p rest_length (λ length is_length value. record {
      address_text = parts.0;
      length_text = parts.1;
      address = address;
      length = length;
      first = address_of-spelled parts.0 address is_address;
      second = number_of-spelled 2 33 parts.1 length is_length;
      spelled = cut_at-joined slash text parts.0 parts.1 is_parts;
      value = sym value;
    })))

-- what is spelled is read
pub prefix_of-read : (text : List ℕ) (p : PrefixParts) → IsPrefix text p → prefix_of text ≡ Some p
unfolding prefix_of masked_of
prefix_of-read text p spelled =
    let cut : cut_at slash text ≡ Some (spelled.address_text, spelled.length_text) =
    rw spelled.spelled (cut_at-append slash spelled.address_text _
    (lacks-address slash _ spelled.address refl refl spelled.first)) in
    let at_address : address_of spelled.address_text ≡ Some spelled.address =
    address_of-read _ spelled.address spelled.first in
    let at_length : length_of spelled.length_text ≡ Some spelled.length = number_of-read 2 33 _
    spelled.length spelled.second in
    rw (cut, at_address, at_length) (ap Some (sym spelled.value))

-- a printed prefix spells it
pub IsPrefix-text : (p : PrefixParts) → IsMasked p → IsPrefix (prefix_text p) p
unfolding prefix_text
IsPrefix-text p is = record {
  address_text = address_text p.address;
  length_text = decimal p.length;
  address = p.address;
  length = p.length;
  first = IsAddress-text p.address is.fits;
  second = IsNumber-decimal 2 33 p.length (omega arith) (omega (arith, is.short))
      (omega (arith, is.short)) (omega (arith, is.short));
  spelled = refl;
  value = sym (masked-IsMasked p is);
}
