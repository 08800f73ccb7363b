use Rattle.std.proofs.Common.{◌∙◌, ap}
use Rattle.std.proofs.lemmas.Result.{IfOk-weaker}
use Rattle.rr_book.specs.Listings.{inside}
use Rattle.rr_index.proofs.indexed_book.IndexedBookKeeper.inside.Goals as goal

pub returns : goal.returns
returns c = IfOk-weaker c.inside.result _ _ (λ found is. is ∙ ap (λ r. inside r c.args.span)
    c.self.view_is) c.inside.ensures
