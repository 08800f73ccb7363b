-- What operators mean for ranges as sets of prefixes: laws of `src/laws.rt`.
use Rattle.std.specs.Prelude.{◌≡◌, ℕ, Bool, false, ◌&&◌, MatchOption, Some, nat_le}
use Rattle.std.specs.Cmp.{IsTotalOrder}
use Rattle.std.specs.FinMap.{IsAntisymmetric}
use Rattle.rr_number.specs.Applied.{IsRanged, applied, operator_for, range_text}
use Rattle.rr_number.specs.Bounds.{Bounds}
use Rattle.rr_number.specs.Operators.{IsOperatorValue, operator_cmp, tabled}
use Rattle.rr_number.specs.Prefixes.{PrefixParts, IsMasked, span_of}
use Rattle.rr_number.specs.Ranges.{RangeParts, IsRange, admits, bare, bounds_of, range_cmp}
use Rattle.rr_number.specs.Spans.{covers}
use Rattle.rr_number.specs.declared.operator.Operator.{Operator}

-- A length is not below the least one and not above the greatest (RFC 2622, 2).
abbrev pub is_between : Bounds → ℕ → Bool
is_between b n = nat_le b.low n && nat_le n b.high

-- What an operator makes of a range admits exactly what the range's prefix covers, of the lengths
-- that the operator makes of its lengths. Where the operator drops the range, no prefix has such a
-- length (RFC 2622, 2).
abbrev pub OperatorsAdmit : Type 0
OperatorsAdmit =
    (o : Operator) (r : RangeParts) (q : PrefixParts) → IsMasked q
    → MatchOption (applied o r) (is_between (tabled o (bounds_of r)) q.length ≡ false)
    (λ s. admits s q
    ≡ (covers (span_of r.prefix) (span_of q) && is_between (tabled o (bounds_of r)) q.length))

-- What an operator makes of a range is a range (RFC 2622, 2).
abbrev pub OperatorsKeepRanges : Type 0
OperatorsKeepRanges =
    (o : Operator) (r s : RangeParts) → IsOperatorValue o → IsRange r → applied o r ≡ Some s
    → IsRange s

-- The text of a range spells its prefix and the operator that is printed for it (profile).
abbrev pub PrintedRangesAreRead : Type 0
PrintedRangesAreRead =
    (r : RangeParts) → IsRange r → IsRanged (range_text r) r.prefix (operator_for r)

-- The operator with which a range is printed gives the range where it is applied to the range's
-- prefix alone (profile).
abbrev pub PrintedOperatorsMakeRanges : Type 0
PrintedOperatorsMakeRanges =
    (r : RangeParts) → IsRange r → applied (operator_for r) (bare r.prefix) ≡ Some r

-- The order of ranges is total, and only equal ranges tie (profile).
pub record RangesAreOrdered : Type 0 where
  pub total : IsTotalOrder range_cmp
  pub exact : IsAntisymmetric range_cmp

-- The order of operators is total, and only equal operators tie (profile).
pub record OperatorsAreOrdered : Type 0 where
  pub total : IsTotalOrder operator_cmp
  pub exact : IsAntisymmetric operator_cmp
