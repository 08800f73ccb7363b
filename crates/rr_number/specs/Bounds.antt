-- Bounds on the lengths of prefixes: for `LengthBounds`, and for what operators make of ranges.
use Rattle.std.specs.Prelude.{ℕ, ◌≤◌}
use Rattle.std.specs.declared.cmp.Ordering.{Ordering}
use Rattle.std.specs.Ordering.{ordering_then, nat_cmp}

-- A least and a greatest length of prefixes (RFC 2622, 2).
pub record Bounds : Type 0 where
  pub low : ℕ
  pub high : ℕ

-- The least length is not above the greatest, and this not above 32 (RFC 2622, 2).
pub record IsBounds (b : Bounds) : Type 0 where
  pub ordered : b.low ≤ b.high
  pub short : b.high ≤ 32

-- Bounds are ordered by the least length, then by the greatest (profile).
abbrev pub bounds_cmp : Bounds → Bounds → Ordering
bounds_cmp b c = ordering_then (nat_cmp b.low c.low) (nat_cmp b.high c.high)
