-- A tree of prefixes with their values, as the map of spans that it holds: for `PrefixTree`.
use Rattle.std.specs.Prelude.{◌≡◌, ℕ, Bool, true, false, ◌&&◌, ◌+◌, ◌-◌}
use Rattle.std.specs.Prelude.{◌/◌, nat_lt, nat_le, List, [], ◌∷◌, ◌++◌, Option, Some}
use Rattle.std.specs.Prelude.{None}
use Rattle.std.specs.FinMap.{from_entries}
use Rattle.rr_number.specs.Prefixes.{PrefixParts, IsMasked, count_of, span_of}
use Rattle.rr_number.specs.Spans.{Ends}
use Rattle.rr_cover.specs.SpanMaps.{SpanMap}
use Rattle.rr_cover.specs.declared.prefix_tree.Tree.{Tree}
use Rattle.rr_cover.specs.declared.prefix_tree.Tree.TheVariants.{Empty, Fork'}

-- A prefix with its value, if it has one.
abbrev pub own_entry : {T : Type 0} → PrefixParts → Option T → List (Ends × T)
own_entry prefix None = []
own_entry prefix (Some value) = (span_of prefix, value) ∷ []

-- The spans of a tree with their values: its own, those of the lower half, those of the upper half.
abbrev pub entries_of : {T : Type 0} → Tree T → List (Ends × T)
entries_of Empty = []
entries_of (Fork' p prefix value lower upper) =
    own_entry prefix value ++ (entries_of lower ++ entries_of upper)

-- The map that a tree holds.
abbrev pub held_by : {T : Type 0} → Tree T → SpanMap T
held_by tree = from_entries (entries_of tree)

-- How many addresses each half of a prefix has; a prefix of one address has no halves.
abbrev pub half : PrefixParts → ℕ
half p = count_of p.length / 2

-- A span lies in the lower half of a prefix.
abbrev pub in_lower : PrefixParts → Ends → Bool
in_lower p s = nat_le p.address s.first && nat_lt s.last (p.address + half p)

-- A span lies in the upper half of a prefix.
abbrev pub in_upper : PrefixParts → Ends → Bool
in_upper p s =
    nat_le (p.address + (count_of p.length - half p)) s.first
    && nat_lt s.last (p.address + count_of p.length)

-- A span lies in a half of a prefix: in the lower, or in the upper one.
abbrev pub lies_on : PrefixParts → Bool → Ends → Bool
lies_on p false s = in_lower p s
lies_on p true s = in_upper p s

-- The prefix at the root of a tree lies in a half of a prefix, unless the tree is empty.
abbrev pub IsRootedOn : {T : Type 0} → PrefixParts → Bool → Tree T → Type 0
IsRootedOn p side Empty = Unit {0}
IsRootedOn p side (Fork' a prefix value lower upper) = lies_on p side (span_of prefix) ≡ true

-- A node's prefix has at most 32 bits, with only zeros after them. The prefixes below the node lie
-- in the halves of its own: so each is longer, and a tree has 33 levels at most.
pub record IsFork {T : Type 0} (prefix : PrefixParts) (lower upper : Tree T) : Type 0 where
  pub masked : IsMasked prefix
  pub low : IsRootedOn prefix false lower
  pub high : IsRootedOn prefix true upper

-- A tree is in order: each of its nodes has its sides in the halves of its prefix.
abbrev pub IsTree : {T : Type 0} → Tree T → Type 0
IsTree Empty = Unit {0}
IsTree (Fork' p prefix value lower upper) =
    IsFork prefix lower upper × (IsTree lower × IsTree upper)
