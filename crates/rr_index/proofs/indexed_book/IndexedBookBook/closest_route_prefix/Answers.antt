use Rattle.std.proofs.Common.{ap, ◌∙◌}
use Rattle.rr_auth.specs.Closest.{closest_route_prefix}
use Rattle.rr_index.proofs.indexed_book.IndexedBookBook.closest_route_prefix.Goals as goal

pub returns : goal.returns
returns c = c.closest_route_prefix.ensures c.self.inside.objects c.self.invariant.sound
    c.self.invariant.indexes.keys.spans ∙ ap (λ r. closest_route_prefix r c.args.prefix)
    c.self.view_is
