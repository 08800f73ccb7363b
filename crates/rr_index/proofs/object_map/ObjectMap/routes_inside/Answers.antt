use Rattle.std.proofs.Common.{ap, ◌∙◌}
use Rattle.std.specs.FinMap.{entries}
use Rattle.std.specs.List.{filter}
use Rattle.std.specs.Map.{values_of}
use Rattle.std.specs.Ordering.{is_gt}
use Rattle.std.proofs.lemmas.Result.{IfOk-weaker}
use Rattle.rr_book.specs.Listings.{lies_in}
use Rattle.rr_object.specs.KeyOrders.{key_cmp}
use Rattle.rr_index.proofs.Inside.{routes_are, routes_forward}
use Rattle.rr_index.specs.InsideParts.{routes_from, routes_to}
use Rattle.rr_index.specs.KeyRangeParts.{lies_between}
use Rattle.rr_index.proofs.object_map.ObjectMap.routes_inside.Goals as goal

pub picked-requires : goal.picked-requires
picked-requires c =
    let low = c.routes_from.ensures ∙ ap routes_from c.first-first.ensures in
    let high = c.routes_to.ensures ∙ ap routes_to c.last-last.ensures.value in
    (λ i. is_gt (key_cmp (low i) (high i))) ∙ routes_forward c.args.span.first c.args.span.last
    c.last-last.ensures.holds.ordered

pub returns : goal.returns
returns c =
    let low = c.routes_from.ensures ∙ ap routes_from c.first-first.ensures in
    let high = c.routes_to.ensures ∙ ap routes_to c.last-last.ensures.value in
    IfOk-weaker c.picked.result _ _
    (λ found is.
    is
    ∙
    (λ i. filter (lies_in c.args.span)
    (values_of (filter (λ e. lies_between (low i) (high i) e.0) (entries c.args.self.now))))
    ∙ routes_are c.args.self.now c.requires c.args.span)
    c.picked.ensures
