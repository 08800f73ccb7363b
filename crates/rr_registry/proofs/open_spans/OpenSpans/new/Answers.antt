use Rattle.std.proofs.Common.{refl}
use Rattle.rr_registry.proofs.Open.{none_kept}
use Rattle.rr_registry.proofs.open_spans.OpenSpans.new.Goals as goal

pub returns : goal.returns
returns c = λ gone none.
    let p = none_kept gone 0 c.new.result.items c.new-2.result.items refl c.new.ensures.items
    c.new-2.ensures.items none in record { kept = p.0; within = p.1 }
