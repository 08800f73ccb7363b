use Rattle.std.proofs.Common.{◌++◌, ◌-◌, get_or, length, sym, ap, ◌∙◌}
use Rattle.std.specs.Option.{option_to_list}
use Rattle.rr_registry.proofs.Open.{ending, shortened_more}
use Rattle.rr_registry.specs.OpenSpanParts.{ends_below}
use Rattle.rr_registry.proofs.open_spans.shorten.Goals as goal

pub loop-lasts-preserved : goal.loop-lasts-preserved
loop-lasts-preserved c =
    let lasts = c.loop-lasts.lasts.items in
    let end = ending lasts c.args.first (ap (λ xs. ends_below xs c.args.first)
    (sym c.deref.ensures.value) ∙ sym c.ends_below.ensures ∙ c.loop-lasts-test.true) in
    let some = rw (sym c.deref.ensures.len, c.deref.ensures.value) at c.pop.ensures.value 0 in
    shortened_more c.args.first c.args.lasts.now.items lasts c.pop.new.self.items
    (get_or lasts (length lasts - 1) 0)
    (c.pop.ensures.items ∙ ap (λ r. c.pop.new.self.items ++ option_to_list r) (some end.0))
    (end.1 0) c.loop-lasts.invariant
