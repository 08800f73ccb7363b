use Rattle.std.proofs.Common.{subst}
use Rattle.std.specs.Option.{MatchOption}
use Rattle.rr_cover.specs.SpanMaps.{IsClosest, NoneCovers}
use Rattle.rr_cover.proofs.NestModel.{closest_last, closest_none, on_either}
use Rattle.rr_cover.proofs.span_nest.SpanNest.closest.Goals as goal

pub returns-clause-closest : goal.returns-clause-closest
returns-clause-closest g c =
    subst (λ m. MatchOption c.smallest_cover.result (NoneCovers m c.args.span)
    (λ p. IsClosest m c.args.span p.0 p.1.now)) c.self.view_is
    (on_either c.smallest_cover.result _ _ _ _ c.smallest_cover.ensures.none
    c.smallest_cover.ensures.found (closest_none c.self.inside.root c.args.span)
    (λ p last. closest_last c.self.inside.root c.args.span p.0 p.1.now c.self.invariant.apart
    c.smallest_cover.ensures.ordered last))
