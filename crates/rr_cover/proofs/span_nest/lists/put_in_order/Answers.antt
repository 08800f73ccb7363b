use Rattle.std.proofs.Common.{List, sym, subst}
use Rattle.std.proofs.lemmas.List.Filters.{dedup_is}
use Rattle.std.proofs.lemmas.List.Kept.{IsStrictlySortedBy-dedup}
use Rattle.std.specs.List.Sorted.{IsStrictlySortedBy}
use Rattle.rr_number.specs.Spans.{Ends, span_cmp}
use Rattle.rr_number.proofs.SpanOrder.{span_cmp_total}
use Rattle.rr_cover.proofs.Ordered.{span_eq, span_eq_ties, sorted_kept}
use Rattle.rr_cover.proofs.span_nest.lists.put_in_order.Goals as goal

pub returns-clause-rising : goal.returns-clause-rising
returns-clause-rising c =
    subst (λ (spans : List Ends). IsStrictlySortedBy span_cmp spans)
    (sym (dedup_is span_eq _ _ c.dedup.ensures.filtered))
    (IsStrictlySortedBy-dedup span_cmp_total (λ s t. span_eq_ties s t) _
    c.sort_unstable.ensures.sorted)

pub returns-clause-same : goal.returns-clause-same
returns-clause-same c =
    sorted_kept _ _ _ c.sort_unstable.ensures.permutation
    (dedup_is span_eq _ _ c.dedup.ensures.filtered)
