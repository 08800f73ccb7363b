use Rattle.std.proofs.Common.{ap, ◌∙◌}
use Rattle.std.specs.FinMap.{get}
use Rattle.rr_object.specs.declared.key.Key.TheVariants.{AsBlock}
use Rattle.rr_auth.specs.Closest.{closest_block}
use Rattle.rr_index.proofs.Questions.{block_of_closest, no_block}
use Rattle.rr_index.proofs.indexed_book.IndexedBookBook.closest_block.Goals as goal

pub returns-in-Some : goal.returns-in-Some
returns-in-Some c =
    c.get.ensures
    ∙ ap (λ s. get c.self.inside.objects (AsBlock s)) c.of.ensures
    ∙ block_of_closest c.self.inside.objects _ _ _ c.self.invariant.sound
    c.self.invariant.indexes.keys.spans c.args.span c.in-Some.own tt
    c.closest_block.ensures.ordered c.in-Some.ensures.found
    ∙ ap (λ r. closest_block r c.args.span) c.self.view_is

pub returns-in-None : goal.returns-in-None
returns-in-None c =
    no_block c.self.inside.objects _ _ _ c.self.invariant.sound c.self.invariant.indexes.keys.spans
    c.args.span c.in-None.ensures.none
    ∙ ap (λ r. closest_block r c.args.span) c.self.view_is
