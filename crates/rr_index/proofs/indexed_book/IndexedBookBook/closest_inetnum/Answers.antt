use Rattle.std.proofs.Common.{ap, ◌∙◌}
use Rattle.rr_auth.specs.Closest.{closest_inetnum}
use Rattle.rr_index.proofs.Questions.{inetnum_of_closest, no_inetnum}
use Rattle.rr_index.proofs.indexed_book.IndexedBookBook.closest_inetnum.Goals as goal

pub returns-in-Some : goal.returns-in-Some
returns-in-Some c =
    c.get.ensures
    ∙ inetnum_of_closest c.self.inside.objects _ _ _ c.self.invariant.sound
    c.self.invariant.indexes.keys.spans c.args.span c.in-Some.own tt
    c.closest_inetnum.ensures.ordered c.in-Some.ensures.found
    ∙ ap (λ r. closest_inetnum r c.args.span) c.self.view_is

pub returns-in-None : goal.returns-in-None
returns-in-None c =
    no_inetnum c.self.inside.objects _ _ _ c.self.invariant.sound
    c.self.invariant.indexes.keys.spans c.args.span c.in-None.ensures.none
    ∙ ap (λ r. closest_inetnum r c.args.span) c.self.view_is
