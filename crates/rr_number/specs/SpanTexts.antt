-- The texts of spans of addresses, which are the keys of inetnums: for `Span::read` and `text`.
use Rattle.std.specs.Prelude.{◌≡◌, ℕ, ◌⊎◌, List, Option, Some, None}
use Rattle.std.specs.Option.{option_map}
use Rattle.rr_number.specs.Addresses.{IsAddress, address_of, address_text}
use Rattle.rr_number.specs.Dashes.{dashed_of}
use Rattle.rr_number.specs.EndsTexts.{IsEndsText, ends_between, ends_text}
use Rattle.rr_number.specs.Prefixes.{PrefixParts, IsPrefix, span_of, prefix_of}
use Rattle.rr_number.specs.Spans.{Ends}

-- A prefix spells the span of its addresses (profile).
pub record IsPrefixSpan (text : List ℕ) (s : Ends) : Type 0 where
  pub prefix : PrefixParts
  pub spelled : IsPrefix text prefix
  pub value : s ≡ span_of prefix

-- A span is spelled as two addresses with a dash between them, the first not above the last, or as
-- a prefix (profile).
abbrev pub IsSpanText : List ℕ → Ends → Type 0
IsSpanText text s = IsEndsText IsAddress text s ⊎ IsPrefixSpan text s

-- The span of a text with a dash, or of one without (profile).
abbrev pub span_by : List ℕ → Option (List ℕ × List ℕ) → Option Ends
span_by text (Some ends) = ends_between address_of ends.0 ends.1
span_by text None = option_map span_of (prefix_of text)

-- The span that the text spells, if it does (profile).
unfoldable pub spelled_span : List ℕ → Option Ends
spelled_span text = span_by text (dashed_of text)

-- A span is printed as its two addresses with ` - ` between them (profile).
unfoldable pub span_text : Ends → List ℕ
span_text s = ends_text address_text s
