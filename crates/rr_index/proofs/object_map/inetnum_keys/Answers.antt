use Rattle.std.proofs.Common.{sym, ap, ◌∙◌}
use Rattle.std.specs.BTreeMap.{is_at}
use Rattle.std.specs.List.{list_any}
use Rattle.rr_object.specs.KeyOrders.{key_cmp}
use Rattle.rr_index.proofs.Choices.{inetnum_more, none_chosen}
use Rattle.rr_index.proofs.object_map.inetnum_keys.Goals as goal

pub loop-span-init : goal.loop-span-init
loop-span-init c = λ k. ap (list_any (is_at (key_cmp k))) c.new-keys.ensures.empty
    ∙ sym (none_chosen k)

pub loop-span-preserved : goal.loop-span-preserved
loop-span-preserved c =
    inetnum_more c.args.spans.now c.loop-span.span-index c.span-item.result c.loop-span.keys
    c.insert.new.self c.loop-span-test.true c.span-item.is
    c.in_ok-insert.ensures.updates c.loop-span.invariant
