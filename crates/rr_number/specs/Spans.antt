-- Spans of numbers: runs of addresses, or of AS numbers, seen as sets. For `Span`, `AsSpan` and all
-- that covers.
use Rattle.std.specs.Prelude.{ℕ, refl, Bool, not, ◌&&◌, ◌+◌, ◌-◌, ◌^◌, ◌<◌}
use Rattle.std.specs.Prelude.{◌≤◌, nat_le}
use Rattle.std.specs.Coded.{Coded, code_by, coded×, coded_ℕ}
use Rattle.std.specs.declared.cmp.Ordering.{Ordering}
use Rattle.std.specs.Ordering.{ordering_then, nat_cmp}

-- The two ends of a span, both of them in it (profile).
pub record Ends : Type 0 where
  pub first : ℕ
  pub last : ℕ

-- The code of two ends is the pair of them, by which maps of spans tell them apart.
abbrev pub ends_code : Coded Ends
ends_code =
    code_by (ℕ × ℕ) (coded× coded_ℕ coded_ℕ) (λ s. (s.first, s.last))
    (λ p. record { first = p.0; last = p.1 }) (λ _. refl)

-- Ends are those of a span where the first is not above the last and both have 32 bits (profile).
pub record IsSpan (s : Ends) : Type 0 where
  pub ordered : s.first ≤ s.last
  pub fits : s.last < 2 ^ 32

-- A number lies in a span where it is not below the first end and not above the last.
pub record LiesIn (n : ℕ) (s : Ends) : Type 0 where
  pub from : s.first ≤ n
  pub to : n ≤ s.last

-- A span covers another where it begins no later and ends no earlier: each number of the other lies
-- in it (RFC 2725, 9).
abbrev pub covers : Ends → Ends → Bool
covers s t = nat_le s.first t.first && nat_le t.last s.last

-- Two spans meet where neither begins after the other ends: some number lies in both.
abbrev pub meets : Ends → Ends → Bool
meets s t = nat_le s.first t.last && nat_le t.first s.last

-- Two spans cross where they meet and neither covers the other (profile).
abbrev pub crosses : Ends → Ends → Bool
crosses s t = meets s t && (not (covers s t) && not (covers t s))

-- The size of a span is the count of its numbers, both ends among them.
abbrev pub size : Ends → ℕ
size s = s.last - s.first + 1

-- Spans are ordered by their first number, then by their last (profile).
abbrev pub span_cmp : Ends → Ends → Ordering
span_cmp s t = ordering_then (nat_cmp s.first t.first) (nat_cmp s.last t.last)
