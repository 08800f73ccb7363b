-- Lemmas on the texts of spans of addresses: for `Span::read`.
use Rattle.std.proofs.Common.{◌≡◌, ℕ, true, List, [], ◌∷◌, Option, Some, None, refl, sym, ap, inl}
use Rattle.std.proofs.Common.{inr, arith}
use Rattle.std.proofs.lemmas.Bool.Decides.{nat_tests}
use Rattle.rr_number.specs.Addresses.{IsAddress, address_of, address_text}
use Rattle.rr_number.specs.Dashes.{dash, dashed_of}
use Rattle.rr_number.specs.Prefixes.{PrefixParts, IsPrefix, prefix_of, slash}
use Rattle.rr_number.specs.Spans.{Ends, IsSpan}
use Rattle.rr_number.specs.SpanTexts.{IsSpanText, span_by, spelled_span, span_text}
use Rattle.rr_number.proofs.AddressLemmas.{address_of-spelled, address_of-read, IsAddress-text}
use Rattle.rr_number.proofs.AddressLemmas.{lacks-address}
use Rattle.rr_number.proofs.Choices.{option_map-some}
use Rattle.rr_bytes.proofs.CutLemmas.{cut_at-lacks, lacks, lacks-digits, lacks-joined}
use Rattle.rr_number.proofs.DashLemmas.{HasNoBlank, dashed_of-spelled, dashed_of-read}
use Rattle.rr_number.proofs.EndsLemmas.{ends_between-spelled, ends_between-read, IsEndsText-text}
use Rattle.rr_number.proofs.PrefixLemmas.{prefix_of-spelled, prefix_of-read}

-- a text without a dash is not cut
dashed_of-lacks : (text : List ℕ) → lacks dash text ≡ true → dashed_of text ≡ None
unfolding dashed_of
dashed_of-lacks text none = rw (cut_at-lacks dash text none) refl

-- a text with none of the three blanks has no blank
no_blank : (text : List ℕ) → lacks 32 text ≡ true → lacks 9 text ≡ true → lacks 13 text ≡ true →
    HasNoBlank text
no_blank [] spaces tabs returns' = refl
no_blank (b ∷ bs) spaces tabs returns' = grind (arith, nat_tests, no_blank bs)

-- an address has no blank and no dash
address_no_blank : (text : List ℕ) (n : ℕ) → IsAddress text n → HasNoBlank text
address_no_blank text n spelled =
    no_blank text (lacks-address 32 text n refl refl spelled)
    (lacks-address 9 text n refl refl spelled) (lacks-address 13 text n refl refl spelled)

prefix_lacks_dash : (text : List ℕ) (p : PrefixParts) → IsPrefix text p → lacks dash text ≡ true
prefix_lacks_dash text p spelled =
    rw spelled.spelled (lacks-joined dash slash spelled.address_text spelled.length_text refl
    (lacks-address dash spelled.address_text spelled.address refl refl spelled.first)
    (lacks-digits dash spelled.length_text refl spelled.second.digits))

span_by-spelled : (text : List ℕ) (s : Ends) (ends : Option (List ℕ × List ℕ)) → dashed_of text
    ≡ ends → span_by text ends ≡ Some s → IsSpanText text s
span_by-spelled text s (Some ends) cut read =
    inl (ends_between-spelled IsAddress address_of address_of-spelled text ends.0 ends.1 s
    (dashed_of-spelled text ends cut) read)
span_by-spelled text s None cut read =
    option_map-some _ (prefix_of text) s read
    (λ p is value.
    inr (record { prefix = p; spelled = prefix_of-spelled text p is; value = sym value }))

-- what is read is spelled
pub spelled_span-spelled : (text : List ℕ) (s : Ends) → spelled_span text ≡ Some s →
    IsSpanText text s
unfolding spelled_span
spelled_span-spelled text s read = span_by-spelled text s (dashed_of text) refl read

-- what is spelled is read
pub spelled_span-read : (text : List ℕ) (s : Ends) → IsSpanText text s → spelled_span text ≡ Some s
unfolding spelled_span
spelled_span-read text s (inl pair) =
    let cut = dashed_of-read text pair.first_text pair.last_text pair.dashed
    (address_no_blank _ s.first pair.first) (address_no_blank _ s.last pair.last)
    (lacks-address dash _ s.first refl refl pair.first) in
    rw cut (ends_between-read IsAddress address_of address_of-read pair.first_text pair.last_text s
    pair.first pair.last pair.ordered)
spelled_span-read text s (inr span) =
    let cut = dashed_of-lacks text (prefix_lacks_dash text span.prefix span.spelled) in
    let read = prefix_of-read text span.prefix span.spelled in
    rw (cut, read) (ap Some (sym span.value))

-- a printed span spells it
pub IsSpanText-text : (s : Ends) → IsSpan s → IsSpanText (span_text s) s
unfolding span_text
IsSpanText-text s is =
    inl (IsEndsText-text IsAddress address_text s
    (IsAddress-text s.first (omega (arith, is.ordered, is.fits)))
    (IsAddress-text s.last is.fits) is.ordered)
