use Rattle.std.proofs.Common.{◌∙◌, ap, arith, inl, length}
use Rattle.rr_object.proofs.lists.count_named.Goals as goal

pub count-requires-clause-fits : goal.count-requires-clause-fits
count-requires-clause-fits c =
    let all = ap length (c.filter.ensures.source ∙ c.attributes.ensures.value) in
    inl (omega (arith, c.attributes.ensures.few, all))
