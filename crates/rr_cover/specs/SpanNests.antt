-- A search tree of spans with their values, as the map that it holds: for `SpanNest`.
use Rattle.std.specs.Prelude.{◌≡◌, ◌≤◌, Bool, true, false, ◌&&◌, ◌||◌, nat_lt}
use Rattle.std.specs.Prelude.{nat_le, nat_eq, if◌then◌else◌, List, [], ◌∷◌, ◌++◌}
use Rattle.std.specs.Prelude.{Option, Some, None, is_some}
use Rattle.std.specs.FinMap.{from_entries}
use Rattle.std.specs.Option.{option_or}
use Rattle.std.specs.Ordering.{eq_by_cmp}
use Rattle.rr_number.specs.Spans.{Ends, IsSpan, crosses, span_cmp}
use Rattle.rr_cover.specs.SpanMaps.{SpanMap}
use Rattle.rr_cover.specs.declared.span_nest.bounds.Lasts.{Lasts}
use Rattle.rr_cover.specs.declared.span_nest.Nest.{Nest}
use Rattle.rr_cover.specs.declared.span_nest.Nest.TheVariants.{Empty, Fork'}

-- A span stands ahead of another where it begins before it, or begins with it and ends after it: a
-- span stands ahead of those inside it.
abbrev pub is_ahead : Ends → Ends → Bool
is_ahead s t = nat_lt s.first t.first || (nat_eq s.first t.first && nat_lt t.last s.last)

-- The spans of a tree with their values: those before its root, its own, those after.
abbrev pub entries_of : {T : Type 0} → Nest T → List (Ends × T)
entries_of Empty = []
entries_of (Fork' p span value height bounds before after) =
    entries_of before ++ ((span, value) ∷ entries_of after)

-- The map that a tree holds.
abbrev pub nested : {T : Type 0} → Nest T → SpanMap T
nested nest = from_entries (entries_of nest)

-- What a single span with a value holds at a span s: the value, if both are one.
abbrev pub at_span : {T : Type 0} → Ends → T → Ends → Option T
at_span span value s = if eq_by_cmp span_cmp s span then Some value else None

-- The value that a tree holds at a span.
abbrev pub standing : {T : Type 0} → Nest T → Ends → Option T
standing Empty s = None
standing (Fork' p span value height bounds before after) s =
    option_or (standing before s) (option_or (at_span span value s) (standing after s))

-- A tree holds what stands before a span, the value at it, and what stands after it.
abbrev pub HoldsAll : {T : Type 0} → Nest T → Ends → T → Nest T → Nest T → Type 0
HoldsAll before span value after nest =
    (s : Ends) → standing nest s
    ≡ option_or (standing before s) (option_or (at_span span value s) (standing after s))

-- A tree holds the value at the span, and at any other what another holds.
abbrev pub HoldsWith : {T : Type 0} → Nest T → Ends → T → Nest T → Type 0
HoldsWith old span value new =
    (s : Ends) → standing new s
    ≡ (if eq_by_cmp span_cmp s span then Some value else standing old s)

-- A tree holds nothing at the span, and at any other what another holds.
abbrev pub HoldsWithout : {T : Type 0} → Nest T → Ends → Nest T → Type 0
HoldsWithout old span new =
    (s : Ends) → standing new s ≡ (if eq_by_cmp span_cmp s span then None else standing old s)

-- Each span of a tree passes a test.
pub record Only {T : Type 0} (p : Ends → Bool) (nest : Nest T) : Type 0 where
  pub each : (s : Ends) → is_some (standing nest s) ≡ true → p s ≡ true

-- A span, whose first number is not above its last, fits between two sides: the spans of the low
-- one stand ahead of it, and it stands ahead of those of the high one.
pub record Fits {T : Type 0} (span : Ends) (low high : Nest T) : Type 0 where
  pub ordered : IsSpan span
  pub ahead : Only (λ s. is_ahead s span) low
  pub after : Only (λ s. is_ahead span s) high

-- Bounds on the last numbers of a node's span and two sides: none of the span and the side before
-- is above one, and none of the side after above another.
pub record IsBound {T : Type 0} (bounds : Lasts) (span : Ends)
    (before after : Nest T) : Type 0 where
  pub before_own : span.last ≤ bounds.before
  pub before_low : Only (λ s. nat_le s.last bounds.before) before
  pub after_high : Only (λ s. nat_le s.last bounds.after) after

-- A tree is in order: so are its spans, and each node keeps bounds on the last numbers from it
-- down.
abbrev pub IsNest : {T : Type 0} → Nest T → Type 0
IsNest Empty = Unit {0}
IsNest (Fork' p span value height bounds before after) =
    (Fits span before after × IsBound bounds span before after) × (IsNest before × IsNest after)

-- No two spans of a tree cross.
pub record HasNoCrossing {T : Type 0} (nest : Nest T) : Type 0 where
  pub apart :
      (s t : Ends) → is_some (standing nest s) ≡ true → is_some (standing nest t) ≡ true
      → crosses s t ≡ false

-- A tree is sound where its spans stand in order and no two cross.
pub record IsSound {T : Type 0} (root : Nest T) : Type 0 where
  pub order : IsNest root
  pub apart : HasNoCrossing root
