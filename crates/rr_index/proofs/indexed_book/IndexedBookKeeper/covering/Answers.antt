use Rattle.std.proofs.Common.{map, ap, ◌∙◌}
use Rattle.std.proofs.lemmas.Result.{IfOk-weaker}
use Rattle.rr_book.specs.Listings.{covering}
use Rattle.rr_number.specs.Prefixes.{span_of}
use Rattle.rr_number.specs.Spans.{covers}
use Rattle.rr_index.proofs.Choices.{listed_by}
use Rattle.rr_index.proofs.indexed_book.IndexedBookKeeper.covering.Goals as goal

pub returns : goal.returns
returns c =
    IfOk-weaker c.chosen.result _ _
    (λ found is. is
    ∙ listed_by c.self.inside.objects c.self.invariant.sound _ _ _
    c.self.invariant.indexes.keys.spans (λ t. covers t c.args.span) c.deref.result.now
    (map span_of c.deref-2.result.now)
    (c.deref.ensures.value ∙ c.in_ok-spans.ensures) (ap (map span_of) c.deref-2.ensures.value
    ∙ c.in_ok-prefixes.ensures)
    ∙ ap (λ r. covering r c.args.span) c.self.view_is)
    c.chosen.ensures
