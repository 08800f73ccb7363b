use Rattle.std.proofs.Common.{sym, ◌∙◌}
use Rattle.rr_registry.proofs.Rising.{first_and_rest, rises_on}
use Rattle.rr_registry.proofs.key_order.are_in_order.Goals as goal

pub loop-rest-preserved : goal.loop-rest-preserved
loop-rest-preserved c =
    let rest = c.loop-rest.rest.now in
    rises_on c.args.objects.now rest _ c.first-item.result c.loop-rest.invariant
    (first_and_rest rest c.first-item.result c.in-len1-up.len_at_least c.first-item.is)
    (sym c.is_below.ensures ∙ c.if-not-is_below.false)
