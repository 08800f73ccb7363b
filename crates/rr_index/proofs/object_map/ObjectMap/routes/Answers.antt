use Rattle.std.proofs.Common.{ap, ◌∙◌}
use Rattle.std.specs.FinMap.{entries}
use Rattle.std.specs.List.{filter}
use Rattle.std.specs.Map.{values_of}
use Rattle.std.specs.Ordering.{is_gt}
use Rattle.std.proofs.lemmas.Result.{IfOk-weaker}
use Rattle.rr_number.specs.AsNumbers.{greatest_as_number}
use Rattle.rr_number.specs.Prefixes.{masked}
use Rattle.rr_object.specs.declared.key.Key.TheVariants.{Route}
use Rattle.rr_object.specs.KeyOrders.{key_cmp}
use Rattle.rr_index.proofs.Ranges.{listed_routes, routes_forward}
use Rattle.rr_index.specs.KeyRangeParts.{lies_between}
use Rattle.rr_index.proofs.object_map.ObjectMap.routes.Goals as goal

pub listed-requires : goal.listed-requires
listed-requires c =
    let least = c.first_of.ensures ∙ ap (λ p. Route p 0)
    (c.new-first.ensures ∙ ap (λ a. masked a 0) c.from_bits-lowest.ensures) in
    let greatest = c.last_of.ensures ∙ ap (λ p. Route p greatest_as_number)
    (c.new-last.ensures ∙ ap (λ a. masked a 32) c.from_bits-highest.ensures) in
    (λ i. is_gt (key_cmp (least i) (greatest i))) ∙ routes_forward

pub returns : goal.returns
returns c =
    let least = c.first_of.ensures ∙ ap (λ p. Route p 0)
    (c.new-first.ensures ∙ ap (λ a. masked a 0) c.from_bits-lowest.ensures) in
    let greatest = c.last_of.ensures ∙ ap (λ p. Route p greatest_as_number)
    (c.new-last.ensures ∙ ap (λ a. masked a 32) c.from_bits-highest.ensures) in
    IfOk-weaker c.listed.result _ _
    (λ found is.
    is
    ∙
    (λ i. values_of (filter (λ e. lies_between (least i) (greatest i) e.0)
    (entries c.args.self.now))) ∙ listed_routes c.args.self.now c.requires)
    c.listed.ensures
