use Rattle.std.proofs.Common.{subst}
use Rattle.std.specs.Option.{MatchOption}
use Rattle.rr_number.specs.Prefixes.{span_of}
use Rattle.rr_cover.specs.SpanMaps.{IsClosest, NoneCovers}
use Rattle.rr_cover.proofs.NestModel.{on_either}
use Rattle.rr_cover.proofs.TreeModel.{closest_tree, none_tree}
use Rattle.rr_cover.proofs.prefix_tree.PrefixTree.closest.Goals as goal

pub returns : goal.returns
returns g c =
    subst (λ m. MatchOption c.smallest_cover.result (NoneCovers m (span_of c.args.prefix))
    (λ p. IsClosest m (span_of c.args.prefix) (span_of p.0) p.1.now)) c.self.view_is
    (on_either c.smallest_cover.result _ _ _ _ c.smallest_cover.ensures.none
    c.smallest_cover.ensures.found (none_tree c.self.inside.root (span_of c.args.prefix))
    (λ p cover. closest_tree c.self.inside.root (span_of c.args.prefix) (span_of p.0) p.1.now
    cover))
