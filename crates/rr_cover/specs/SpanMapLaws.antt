-- What follows from the definitions of maps of spans: laws of `src/laws.rt`.
use Rattle.std.specs.Prelude.{◌≡◌, true, ◌↔◌, Contains}
use Rattle.std.specs.FinMap.{contains_key}
use Rattle.std.specs.List.Sorted.{IsStrictlySortedBy}
use Rattle.rr_number.specs.Spans.{Ends, IsSpan, covers, span_cmp}
use Rattle.rr_cover.specs.SpanMaps.{SpanMap, NoneCross, IsClosest, covering}

-- If no two spans of a map cross, at most one of them, with one value, is closest to a span.
abbrev pub ClosestIsOne : Type 0 → Type 0
ClosestIsOne T =
    (m : SpanMap T) (s t u : Ends) (v w : T) → NoneCross m → IsSpan s
    → IsClosest m s t v → IsClosest m s u w → (t ≡ u) × (v ≡ w)

-- The list of the spans of a map that cover s has a span exactly if the map has it and it covers
-- s.
abbrev pub CoveringIsWhole : Type 0 → Type 0
CoveringIsWhole T =
    (m : SpanMap T) (s t : Ends)
    → Contains (covering m s) t ↔ ((contains_key m t ≡ true) × (covers t s ≡ true))

-- The spans of a map that cover a span are listed in order of first, then last number, each once.
abbrev pub ListsRise : Type 0 → Type 0
ListsRise T = (m : SpanMap T) (s : Ends) → IsStrictlySortedBy span_cmp (covering m s)
