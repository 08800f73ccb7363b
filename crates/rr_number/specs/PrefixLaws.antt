-- How prefixes lie among each other as sets of addresses: laws of `src/laws.rt`.
use Rattle.std.specs.Prelude.{◌≡◌, true, false, ◌≤◌}
use Rattle.std.specs.Cmp.{IsTotalOrder}
use Rattle.std.specs.FinMap.{IsAntisymmetric}
use Rattle.rr_number.specs.Prefixes.{PrefixParts, IsMasked, prefix_cmp, span_of}
use Rattle.rr_number.specs.Spans.{IsSpan, covers, crosses}

-- The span of a prefix has its ends in order, both below 2^32 (RFC 2622, 2).
abbrev pub PrefixesHaveSpans : Type 0
PrefixesHaveSpans = (p : PrefixParts) → IsMasked p → IsSpan (span_of p)

-- Two prefixes never cross: they lie apart, or one covers the other (RFC 2622, 2).
abbrev pub PrefixesNeverCross : Type 0
PrefixesNeverCross =
    (p q : PrefixParts) → IsMasked p → IsMasked q → crosses (span_of p) (span_of q) ≡ false

-- A prefix is no longer than one that it covers (RFC 2622, 2).
abbrev pub CoversLonger : Type 0
CoversLonger =
    (p q : PrefixParts) → IsMasked p → IsMasked q → covers (span_of p) (span_of q) ≡ true
    → p.length ≤ q.length

-- Only equal prefixes have the same addresses (RFC 2622, 2).
abbrev pub SpansTellPrefixes : Type 0
SpansTellPrefixes =
    (p q : PrefixParts) → IsMasked p → IsMasked q → span_of p ≡ span_of q → p ≡ q

-- Only equal prefixes cover each other (RFC 2622, 2).
abbrev pub CoverEachOtherAlone : Type 0
CoverEachOtherAlone =
    (p q : PrefixParts) → IsMasked p → IsMasked q → covers (span_of p) (span_of q) ≡ true
    → covers (span_of q) (span_of p) ≡ true → p ≡ q

-- The order of prefixes is total, and only equal prefixes tie (profile).
pub record PrefixesAreOrdered : Type 0 where
  pub total : IsTotalOrder prefix_cmp
  pub exact : IsAntisymmetric prefix_cmp
