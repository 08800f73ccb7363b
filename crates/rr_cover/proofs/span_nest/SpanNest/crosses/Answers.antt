use Rattle.std.proofs.Common.{ap, ◌∙◌}
use Rattle.rr_cover.specs.SpanMaps.{crosses_some}
use Rattle.rr_cover.proofs.NestModel.{crosses_is}
use Rattle.rr_cover.proofs.span_nest.SpanNest.crosses.Goals as goal

pub returns : goal.returns
returns g c =
    crosses_is c.self.inside.root c.args.span c.crosses_any.result c.crosses_any.ensures.found
    c.crosses_any.ensures.none
    ∙ ap (λ m. crosses_some m c.args.span) c.self.view_is
