-- Blocks of AS numbers, the keys of as-blocks: for `AsSpan`.
use Rattle.std.specs.Prelude.{ℕ, ◌≤◌, List, Option}
use Rattle.std.specs.Option.{option_and_then}
use Rattle.rr_number.specs.AsNumbers.{IsAsNumber, as_number_of, as_number_text, greatest_as_number}
use Rattle.rr_number.specs.Dashes.{dashed_of}
use Rattle.rr_number.specs.EndsTexts.{IsEndsText, ends_between, ends_text}
use Rattle.rr_number.specs.Spans.{Ends}

-- The ends of a block are AS numbers, the first not above the last (RFC 2725, 10; profile).
pub record IsAsSpan (s : Ends) : Type 0 where
  pub ordered : s.first ≤ s.last
  pub bound : s.last ≤ greatest_as_number

-- A block is spelled as two AS numbers with a dash between them, the first not above the last
-- (profile).
abbrev pub IsAsSpanText : List ℕ → Ends → Type 0
IsAsSpanText text s = IsEndsText IsAsNumber text s

-- The block that the text spells, if it does (profile).
unfoldable pub as_span_of : List ℕ → Option Ends
as_span_of text =
    option_and_then (λ ends. ends_between as_number_of ends.0 ends.1) (dashed_of text)

-- A block is printed as its two AS numbers with ` - ` between them (profile).
abbrev pub as_span_text : Ends → List ℕ
as_span_text s = ends_text as_number_text s
