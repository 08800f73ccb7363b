-- Range operators (RFC 2622, 2), their texts, and what they make of lengths: for `Operator`.
use Rattle.std.specs.Prelude.{◌≡◌, ℕ, ◌+◌, ◌≤◌, ◌⊎◌, ◌==◌, ◌&&◌}
use Rattle.std.specs.Prelude.{List, [], ◌∷◌, ◌++◌, Option, Some, None}
use Rattle.std.specs.Prelude.{if◌then◌else◌, max, nat_le}
use Rattle.std.specs.Fmt.{decimal}
use Rattle.std.specs.declared.cmp.Ordering.{Ordering}
use Rattle.std.specs.Ordering.{ordering_then, nat_cmp}
use Rattle.std.specs.Option.{option_and_then, option_map}
use Rattle.std.specs.Str.{bytes_eq}
use Rattle.rr_number.specs.Bounds.{Bounds, IsBounds, bounds_cmp}
use Rattle.rr_bytes.specs.Cuts.{cut_at}
use Rattle.rr_number.specs.Dashes.{dash}
use Rattle.rr_number.specs.Prefixes.{IsLength, length_of}
use Rattle.rr_number.specs.declared.operator.Operator.{Operator}
use Rattle.rr_number.specs.declared.operator.Operator.TheVariants.{Plain, Plus, Minus, Lengths}

-- The byte that begins an operator, '^' (RFC 2622, 2).
abbrev pub caret : ℕ
caret = 94

-- The byte of the operator `^+`, '+' (RFC 2622, 2).
abbrev pub plus : ℕ
plus = 43

-- One length, as `^n`, bounds on both sides (RFC 2622, 2).
pub record IsOneLength (text : List ℕ) (b : Bounds) : Type 0 where
  pub digits : List ℕ
  pub spelled : text ≡ caret ∷ digits
  pub low : IsLength digits b.low
  pub same : b.high ≡ b.low

-- Two lengths, as `^n-m`, the first not above the second (RFC 2622, 2).
pub record IsTwoLengths (text : List ℕ) (b : Bounds) : Type 0 where
  pub first : List ℕ
  pub second : List ℕ
  pub spelled : text ≡ caret ∷ (first ++ (dash ∷ second))
  pub low : IsLength first b.low
  pub high : IsLength second b.high
  pub ordered : b.low ≤ b.high

-- An operator is spelled as nothing, `^+`, `^-`, `^n` or `^n-m` (RFC 2622, 2; nothing: profile).
abbrev pub IsOperator : List ℕ → Operator → Type 0
IsOperator text Plain = text ≡ []
IsOperator text Plus = text ≡ caret ∷ plus ∷ []
IsOperator text Minus = text ≡ caret ∷ dash ∷ []
IsOperator text (Lengths b) = IsOneLength text b ⊎ IsTwoLengths text b

-- The lengths of an operator, if it has any, are in order and at most 32 (RFC 2622, 2).
abbrev pub IsOperatorValue : Operator → Type 0
IsOperatorValue Plain = Unit {0}
IsOperatorValue Plus = Unit {0}
IsOperatorValue Minus = Unit {0}
IsOperatorValue (Lengths b) = IsBounds b

-- The operator of two lengths, where the first is not above the second (RFC 2622, 2).
abbrev pub lengths_from : ℕ → ℕ → Option Operator
lengths_from low high =
    if nat_le low high then Some (Lengths (record { low = low; high = high })) else None

-- The operator of one length's text (RFC 2622, 2).
unfoldable pub one_length_of : List ℕ → Option Operator
one_length_of text = option_map (λ n. Lengths (record { low = n; high = n })) (length_of text)

-- The operator of two lengths' texts (RFC 2622, 2).
unfoldable pub two_lengths_of : List ℕ → List ℕ → Option Operator
two_lengths_of first second =
    option_and_then (λ low. option_and_then (λ high. lengths_from low high) (length_of second))
    (length_of first)

-- The operator whose text after the caret is cut so at its first dash, or not at all (RFC 2622, 2).
abbrev pub lengths_cut_of : List ℕ → Option (List ℕ × List ℕ) → Option Operator
lengths_cut_of text None = one_length_of text
lengths_cut_of text (Some parts) = two_lengths_of parts.0 parts.1

-- The operator whose text after the caret is this (RFC 2622, 2).
unfoldable pub carried_of : List ℕ → Option Operator
carried_of text =
    if bytes_eq text (plus ∷ []) then Some Plus
    else (if bytes_eq text (dash ∷ []) then Some Minus
    else lengths_cut_of text (cut_at dash text))

-- The operator that the text spells, if it does (RFC 2622, 2; nothing: profile).
unfoldable pub operator_of : List ℕ → Option Operator
operator_of [] = Some Plain
operator_of (b ∷ bs) = if b == caret then carried_of bs else None

-- Lengths are printed as `^n` where they are equal, and else as `^n-m` (profile).
abbrev pub lengths_text : ℕ → ℕ → List ℕ
lengths_text low high =
    if low == high then caret ∷ decimal low
    else caret ∷ (decimal low ++ (dash ∷ decimal high))

-- An operator is printed as nothing, `^+`, `^-`, `^n` or `^n-m` (profile).
unfoldable pub operator_text : Operator → List ℕ
operator_text Plain = []
operator_text Plus = caret ∷ plus ∷ []
operator_text Minus = caret ∷ dash ∷ []
operator_text (Lengths b) = lengths_text b.low b.high

-- What an operator makes of a least and a greatest length, before any is dropped (RFC 2622, 2).
-- `Plain` leaves them; `^+` goes from the least to 32, and `^-` from one above it to 32. `^n-m`
-- goes from n, or the least where this is greater, to m.
abbrev pub tabled : Operator → Bounds → Bounds
tabled Plain b = b
tabled Plus b = record { low = b.low; high = 32 }
tabled Minus b = record { low = b.low + 1; high = 32 }
tabled (Lengths c) b = record { low = max c.low b.low; high = c.high }

-- Lengths whose least is above the greatest or above 32 are dropped (RFC 2622, 2).
abbrev pub kept : Bounds → Option Bounds
kept b = if nat_le b.low b.high && nat_le b.low 32 then Some b else None

-- What an operator makes of a least and a greatest length, if it does not drop them (RFC 2622, 2).
unfoldable pub lengths_under : Operator → Bounds → Option Bounds
lengths_under operator b = kept (tabled operator b)

-- The place of an operator's form among the forms (profile).
abbrev pub operator_place : Operator → ℕ
operator_place Plain = 0
operator_place Plus = 1
operator_place Minus = 2
operator_place (Lengths b) = 3

-- The bounds of an operator, zeros where it has none (profile).
abbrev pub operator_bounds : Operator → Bounds
operator_bounds (Lengths b) = b
operator_bounds _ = record { low = 0; high = 0 }

-- Operators are ordered by their forms: none, `^+`, `^-`, lengths. Lengths are ordered by their
-- least, then by their greatest (profile).
abbrev pub operator_cmp : Operator → Operator → Ordering
operator_cmp o p = ordering_then (nat_cmp (operator_place o) (operator_place p))
    (bounds_cmp (operator_bounds o) (operator_bounds p))
