-- Operators on ranges, and the texts of both together (RFC 2622, 2): for `Operator::apply`,
-- `read_ranged` and `Range::text`.
use Rattle.std.specs.Prelude.{◌≡◌, ℕ, Bool, false, ◌==◌, ◌&&◌, List, ◌++◌}
use Rattle.std.specs.Prelude.{Option, Some, None, if◌then◌else◌}
use Rattle.std.specs.List.{before_first}
use Rattle.std.specs.Option.{option_and_then, option_map}
use Rattle.rr_number.specs.Bounds.{Bounds}
use Rattle.rr_bytes.specs.Cuts.{from_first}
use Rattle.rr_number.specs.Operators.{IsOperator, caret, operator_of, operator_text}
pub use Rattle.rr_number.specs.Operators.{lengths_under}
use Rattle.rr_number.specs.Prefixes.{PrefixParts, IsPrefix, prefix_of, prefix_text}
use Rattle.rr_number.specs.Ranges.{RangeParts, bare, bounds_of, range_of}
use Rattle.rr_number.specs.declared.operator.Operator.{Operator}
use Rattle.rr_number.specs.declared.operator.Operator.TheVariants.{Plain, Plus, Minus, Lengths}

-- An operator keeps the prefix of a range and changes its lengths, or drops it (RFC 2622, 2).
unfoldable pub applied : Operator → RangeParts → Option RangeParts
applied operator r = option_map (range_of r.prefix) (lengths_under operator (bounds_of r))

-- A text spells this prefix and, right after it, this operator, which may be none (RFC 2622, 2).
pub record IsRanged (text : List ℕ) (prefix : PrefixParts) (operator : Operator) : Type 0 where
  pub before : List ℕ
  pub rest : List ℕ
  pub spelled : text ≡ before ++ rest
  pub first : IsPrefix before prefix
  pub second : IsOperator rest operator

-- A text spells a pair: a prefix and, right after it, an operator, which may be none (RFC 2622, 2).
abbrev pub IsRangedText : List ℕ → PrefixParts × Operator → Type 0
IsRangedText text ranged = IsRanged text ranged.0 ranged.1

-- The prefix and the operator of two texts, if they spell them (RFC 2622, 2).
unfoldable pub ranged_from : List ℕ → List ℕ → Option (PrefixParts × Operator)
ranged_from before rest =
    option_and_then (λ prefix. option_map (λ operator. (prefix, operator)) (operator_of rest))
    (prefix_of before)

-- The prefix with its operator that the text spells, if it does (RFC 2622, 2).
unfoldable pub ranged_of : List ℕ → Option (PrefixParts × Operator)
ranged_of text = ranged_from (before_first (λ b. b == caret) text) (from_first caret text)

-- Whether there are bounds, and they are those given (profile).
abbrev pub is_bounds : Option Bounds → Bounds → Bool
is_bounds None b = false
is_bounds (Some c) b = c.low == b.low && c.high == b.high

-- An operator says a range that it gives where it is applied to the range's own prefix alone
-- (profile).
abbrev pub says : Operator → RangeParts → Bool
says operator r = is_bounds (lengths_under operator (bounds_of (bare r.prefix))) (bounds_of r)

-- The first of none, `^+` and `^-` that says the range; and else the range's lengths (profile).
unfoldable pub operator_for : RangeParts → Operator
operator_for r =
    if says Plain r then Plain
    else (if says Plus r then Plus else (if says Minus r then Minus else Lengths (bounds_of r)))

-- A range is printed as its prefix and, right after it, its operator as just defined (profile).
unfoldable pub range_text : RangeParts → List ℕ
range_text r = prefix_text r.prefix ++ operator_text (operator_for r)
