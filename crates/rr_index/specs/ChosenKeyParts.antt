-- What private functions that choose keys by spans and prefixes promise each other. No public
-- clause cites these.
use Rattle.std.specs.Prelude.{Bool, false, List}
use Rattle.std.specs.List.{list_any}
use Rattle.std.specs.Ordering.{eq_by_cmp}
use Rattle.rr_number.specs.Prefixes.{span_of}
use Rattle.rr_number.specs.Spans.{Ends, span_cmp}
use Rattle.rr_object.specs.declared.key.Key.{Key}
use Rattle.rr_object.specs.declared.key.Key.TheVariants.{Inetnum, Route}

-- The span is one of a list.
abbrev pub is_among : List Ends → Ends → Bool
is_among spans s = list_any (eq_by_cmp span_cmp s) spans

-- The key is that of an inetnum of one of the first spans, or of a route whose prefix has one of
-- the second spans.
abbrev pub is_chosen : List Ends → List Ends → Key → Bool
is_chosen spans routed (Inetnum s) = is_among spans s
is_chosen spans routed (Route p n) = is_among routed (span_of p)
is_chosen spans routed _ = false
