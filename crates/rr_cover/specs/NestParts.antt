-- What the private functions of a nest answer and leave. No public contract cites these.
use Rattle.std.specs.Prelude.{◌≡◌, ℕ, ◌+◌, ◌<◌, ◌≤◌, max, Bool, true}
use Rattle.std.specs.Prelude.{false, ◌&&◌, nat_lt, nat_le, List, Some, None, Result, is_some}
use Rattle.std.specs.Prelude.{IfErr, OnOk, OnErr}
use Rattle.std.specs.List.{list_any}
use Rattle.std.specs.Option.{option_or}
use Rattle.std.specs.Ordering.{eq_by_cmp}
use Rattle.rr_number.specs.Spans.{Ends, IsSpan, crosses, span_cmp}
use Rattle.rr_cover.specs.SpanNests.{is_ahead, at_span, standing, Fits, IsNest, HoldsAll}
use Rattle.rr_cover.specs.SpanNests.{HoldsWith, HoldsWithout}
use Rattle.rr_cover.specs.declared.span_nest.bounds.Lasts.{Lasts}
use Rattle.rr_cover.specs.declared.span_nest.Nest.{Nest}
use Rattle.rr_cover.specs.declared.span_nest.Nest.TheVariants.{Empty, Fork'}

-- A list of spans has the span u.
abbrev pub lists_span : List Ends → Ends → Bool
lists_span spans u = list_any (eq_by_cmp span_cmp u) spans

-- How many nodes a tree has.
abbrev pub count : {T : Type 0} → Nest T → ℕ
count Empty = 0
count (Fork' p span value height bounds before after) = count before + count after + 1

-- The bounds of a node, widened so that its side before may have a last number.
abbrev pub with_before : Lasts → ℕ → Lasts
with_before bounds last = record bounds { before = max bounds.before last }

-- The bounds of a node, widened so that its side after may have a last number.
abbrev pub with_after : Lasts → ℕ → Lasts
with_after bounds last = record bounds { after = max bounds.after last }

-- The last span in a tree's order of those that begin below a number and reach another one, with
-- its value.
pub record IsLastReaching {T : Type 0} (nest : Nest T) (below to : ℕ) (t : Ends)
    (value : T) : Type 0 where
  pub held : standing nest t ≡ Some value
  pub begins : t.first < below
  pub reaches : to ≤ t.last
  pub last :
      (u : Ends) → is_some (standing nest u) ≡ true → u.first < below → to ≤ u.last
      → is_ahead t u ≡ false

-- No span of a tree that begins below a number reaches another one.
pub record NoneReaches {T : Type 0} (nest : Nest T) (below to : ℕ) : Type 0 where
  pub none : (u : Ends) → is_some (standing nest u) ≡ true → u.first < below → u.last < to

-- A span begins before another and ends within it.
abbrev pub ends_in : Ends → Ends → Bool
ends_in t s = nat_lt t.first s.first && (nat_le s.first t.last && nat_lt t.last s.last)

-- A span begins within another and ends after it.
abbrev pub begins_in : Ends → Ends → Bool
begins_in t s = nat_lt s.first t.first && (nat_le t.first s.last && nat_lt s.last t.last)

-- Some span of a tree crosses a span.
pub record SomeCrosses {T : Type 0} (nest : Nest T) (s : Ends) : Type 0 where
  pub span : Ends
  pub held : is_some (standing nest span) ≡ true
  pub crossing : crosses span s ≡ true

-- No span of a tree crosses a span.
pub record NoneCrosses {T : Type 0} (nest : Nest T) (s : Ends) : Type 0 where
  pub none : (t : Ends) → is_some (standing nest t) ≡ true → crosses t s ≡ false

-- A tree in order is taken apart at its root: it holds a value at a span that fits between two
-- trees in order, and what these hold; each of them has fewer nodes.
pub record IsTakenApart {T : Type 0} (nest : Nest T) (span : Ends) (value : T)
    (before after : Nest T) : Type 0 where
  pub fits : Fits span before after
  pub low : IsNest before
  pub high : IsNest after
  pub all :
      (s : Ends)
      → standing nest s
      ≡ option_or (standing before s) (option_or (at_span span value s) (standing after s))
  pub fewer_before : count before < count nest
  pub fewer_after : count after < count nest

-- The spans of one tree stand ahead of those of another.
pub record Precedes {T : Type 0} (left right : Nest T) : Type 0 where
  pub ahead :
      (s t : Ends) → is_some (standing left s) ≡ true → is_some (standing right t) ≡ true
      → is_ahead s t ≡ true

-- A span can join two trees as the root of one: it fits between them, and both are in order.
pub record CanJoin {T : Type 0} (span : Ends) (before after : Nest T) : Type 0 where
  pub fits : Fits span before after
  pub nests : IsNest before × IsNest after

-- A tree in order holds what stands before a span, the value at it, and what stands after it.
pub record Joins {T : Type 0} (before : Nest T) (span : Ends) (value : T)
    (after whole : Nest T) : Type 0 where
  pub all : HoldsAll before span value after whole
  pub nest : IsNest whole

-- A tree in order holds what another holds.
pub record HoldsSame {T : Type 0} (old new : Nest T) : Type 0 where
  pub all : (s : Ends) → standing new s ≡ standing old s
  pub nest : IsNest new

-- A tree in order holds nothing at a span, whose first number is not above its last.
pub record Lacks {T : Type 0} (old : Nest T) (span : Ends) : Type 0 where
  pub order : IsNest old
  pub ends : IsSpan span
  pub missing : standing old span ≡ None

-- A tree in order holds the value at the span, and at any other what another holds.
pub record Gains {T : Type 0} (old : Nest T) (span : Ends) (value : T) (new : Nest T)
    : Type 0 where
  pub all : HoldsWith old span value new
  pub nest : IsNest new

-- A tree in order holds nothing at the span, and at any other what another holds.
pub record Loses {T : Type 0} (old : Nest T) (span : Ends) (new : Nest T) : Type 0 where
  pub all : HoldsWithout old span new
  pub nest : IsNest new

-- The value is put at the span; or nothing changes, and the value comes back. The tree is in order.
pub record PutsInNest {T X : Type 0} (old : Nest T) (span : Ends) (value : T) (new : Nest T)
    (result : Result X T) : Type 0 where
  pub all : OnOk result (HoldsWith old span value new)
  pub err : OnErr result (new ≡ old)
  pub back : IfErr result (λ given. given ≡ value)
  pub nest : IsNest new
