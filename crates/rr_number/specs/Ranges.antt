-- Ranges of prefixes (RFC 2622, 2): for `Range`, `mnt-routes` and route-sets.
use Rattle.std.specs.Prelude.{ℕ, ◌≤◌, Bool, ◌&&◌, nat_le}
use Rattle.std.specs.declared.cmp.Ordering.{Ordering}
use Rattle.std.specs.Ordering.{ordering_then, nat_cmp}
use Rattle.rr_number.specs.Bounds.{Bounds}
use Rattle.rr_number.specs.Prefixes.{PrefixParts, IsMasked, prefix_cmp, span_of}
use Rattle.rr_number.specs.Spans.{covers}

-- A range as its prefix, its least and its greatest length (RFC 2622, 2).
pub record RangeParts : Type 0 where
  pub prefix : PrefixParts
  pub low : ℕ
  pub high : ℕ

-- A range has a prefix with an address below 2^32 and only zeros past its length. Its least length
-- is not below the prefix's, and its greatest lies from the least to 32 (RFC 2622, 2).
pub record IsRange (r : RangeParts) : Type 0 where
  pub masked : IsMasked r.prefix
  pub inside : r.prefix.length ≤ r.low
  pub ordered : r.low ≤ r.high
  pub short : r.high ≤ 32

-- The range of a prefix with these lengths (RFC 2622, 2).
abbrev pub range_of : PrefixParts → Bounds → RangeParts
range_of p b = record { prefix = p; low = b.low; high = b.high }

-- The lengths of a range (RFC 2622, 2).
abbrev pub bounds_of : RangeParts → Bounds
bounds_of r = record { low = r.low; high = r.high }

-- The range of a prefix alone: its least and its greatest length are the prefix's (RFC 2622, 2).
abbrev pub bare : PrefixParts → RangeParts
bare p = record { prefix = p; low = p.length; high = p.length }

-- A range admits a prefix that the range's own prefix covers, and whose length is not below the
-- range's least and not above its greatest (RFC 2622, 2).
abbrev pub admits : RangeParts → PrefixParts → Bool
admits r q =
    covers (span_of r.prefix) (span_of q) && (nat_le r.low q.length && nat_le q.length r.high)

-- Ranges are ordered by prefix, then by least and by greatest length (profile).
abbrev pub range_cmp : RangeParts → RangeParts → Ordering
range_cmp r s =
    ordering_then (prefix_cmp r.prefix s.prefix)
    (ordering_then (nat_cmp r.low s.low) (nat_cmp r.high s.high))
