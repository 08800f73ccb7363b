use Rattle.std.proofs.Common.{◌≡◌, List, map, sym, ap, subst, ◌∙◌, rules}
use Rattle.std.proofs.lemmas.Fn.{dedup_same}
use Rattle.std.proofs.lemmas.List.Kept.{IsStrictlySortedBy-dedup}
use Rattle.std.proofs.lemmas.List.Sorted.{IsPermutation-map, answers_always}
use Rattle.std.specs.List.{dedup}
use Rattle.std.specs.List.Sorted.{IsStrictlySortedBy}
use Rattle.rr_number.specs.Prefixes.{span_of}
use Rattle.rr_number.specs.Spans.{Ends, span_cmp}
use Rattle.rr_number.proofs.SpanOrder.{span_cmp_total}
use Rattle.rr_cover.proofs.Ordered.{span_eq_ties, sorted_kept}
use Rattle.rr_cover.proofs.TreeLists.{same_span, deduped_spans, sorted_spans, listed_spans}
use Rattle.rr_cover.proofs.prefix_tree.lists.put_in_order.Goals as goal

pub returns-clause-rising : goal.returns-clause-rising
returns-clause-rising c =
    let sorted = c.sort_unstable_by_key.new.self.items in
    let left : c.dedup_by_key.new.self.items ≡ dedup same_span sorted = dedup_same _ same_span _
    (λ x y b f' x' y' k. search rules) _ _ c.dedup_by_key.ensures.filtered in
    let rising = sorted_spans sorted (c.sort_unstable_by_key.ensures.sorted span_of
    (answers_always _ _ _ (λ f a r h called. search rules))) in
    subst (λ (spans : List Ends). IsStrictlySortedBy span_cmp spans)
    (sym (ap (map span_of) left ∙ deduped_spans sorted))
    (IsStrictlySortedBy-dedup span_cmp_total (λ s t. span_eq_ties s t) (map span_of sorted)
    rising)

pub returns-clause-same : goal.returns-clause-same
returns-clause-same c = λ u.
    let sorted = c.sort_unstable_by_key.new.self.items in
    let left : c.dedup_by_key.new.self.items ≡ dedup same_span sorted = dedup_same _ same_span _
    (λ x y b f' x' y' k. search rules) _ _ c.dedup_by_key.ensures.filtered in
    sym (listed_spans c.dedup_by_key.new.self.items u)
    ∙ sorted_kept (map span_of c.args.prefixes.now.items) (map span_of sorted)
    (map span_of c.dedup_by_key.new.self.items)
    (IsPermutation-map span_of _ _ c.sort_unstable_by_key.ensures.permutation)
    (ap (map span_of) left ∙ deduped_spans sorted) u
    ∙ listed_spans c.args.prefixes.now.items u
