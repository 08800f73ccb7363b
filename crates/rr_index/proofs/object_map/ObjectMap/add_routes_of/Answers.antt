use Rattle.std.proofs.Common.{◌||◌, ap, ◌∙◌}
use Rattle.std.specs.BTreeSet.{contains}
use Rattle.std.specs.Ordering.{is_gt}
use Rattle.rr_object.specs.KeyOrders.{key_cmp}
use Rattle.rr_index.proofs.Choices.{entry_more, is_at_some, routes_between}
use Rattle.rr_index.proofs.Ranges.{origins_forward}
use Rattle.rr_index.proofs.object_map.ObjectMap.add_routes_of.Goals as goal

pub between-key-items-requires : goal.between-key-items-requires
between-key-items-requires c = (λ i. is_gt (key_cmp (c.first_of.ensures i) (c.last_of.ensures i)))
    ∙ origins_forward c.args.prefix

pub loop-key-init : goal.loop-key-init
loop-key-init c = λ k.
    ap (λ es. contains key_cmp c.args.keys.now k || is_at_some k es)
    (c.into_iter-key-iterator.ensures.into_iter_gives ∙ c.between-key-items.ensures)
    ∙ ap (λ b. contains key_cmp c.args.keys.now k || b)
    (routes_between c.args.self.now c.requires c.args.prefix c.first_of.result c.last_of.result
    c.length-length.ensures.holds c.first_of.ensures c.last_of.ensures k)

pub loop-key-preserved : goal.loop-key-preserved
loop-key-preserved c =
    entry_more _ c.loop-key.key-iterator c.next.new.self (
      c.in-Some.key.now,
      c.in-Some.field-0-1.now,
    ) c.in_ok-copy.field-0 c.loop-key.keys c.insert.new.self
    c.in-Some.ensures.steps c.in_ok-copy.ensures c.in_ok-insert.ensures.updates c.loop-key.invariant
