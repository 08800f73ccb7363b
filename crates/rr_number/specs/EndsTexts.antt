-- The texts of spans of addresses and of AS numbers: two ends with a dash between them. What an end
-- is, `SpanTexts` and `AsSpans` say.
use Rattle.std.specs.Prelude.{ℕ, ◌≤◌, nat_le, List, ◌∷◌, ◌++◌, Option, Some, None}
use Rattle.std.specs.Prelude.{if◌then◌else◌}
use Rattle.std.specs.Option.{option_and_then}
use Rattle.rr_number.specs.Dashes.{IsDashed, dash}
use Rattle.rr_number.specs.Spans.{Ends}

-- Two ends with a dash between them, the first not above the last, spell the span from the one to
-- the other (profile).
pub record IsEndsText (IsEnd : List ℕ → ℕ → Type 0) (text : List ℕ)
    (s : Ends) : Type 0 where
  pub first_text : List ℕ
  pub last_text : List ℕ
  pub dashed : IsDashed text first_text last_text
  pub first : IsEnd first_text s.first
  pub last : IsEnd last_text s.last
  pub ordered : s.first ≤ s.last

-- The span from one number to another, if the first is not above the last (profile).
abbrev pub ends_of : ℕ → ℕ → Option Ends
ends_of first last =
    if nat_le first last then Some (record { first = first; last = last }) else None

-- The span between the ends that two texts spell, if they do and the first is not above the last
-- (profile).
unfoldable pub ends_between : (List ℕ → Option ℕ) → List ℕ → List ℕ → Option Ends
ends_between end_of first last =
    option_and_then (λ x. option_and_then (λ y. ends_of x y) (end_of last)) (end_of first)

-- A span is printed as its two ends with ` - ` between them (profile).
abbrev pub ends_text : (ℕ → List ℕ) → Ends → List ℕ
ends_text end_text s = end_text s.first ++ (32 ∷ dash ∷ 32 ∷ end_text s.last)
