use Rattle.std.proofs.Common.{ap, ◌∙◌}
use Rattle.std.specs.FinMap.{values}
use Rattle.std.specs.List.{filter}
use Rattle.std.proofs.lemmas.Result.{IfOk-weaker}
use Rattle.rr_sets.specs.Lists.{is_originated}
use Rattle.rr_index.proofs.Originated.{listed_from}
use Rattle.rr_index.proofs.indexed_book.IndexedBookSetBook.routes_of.Goals as goal

pub returns : goal.returns
returns c =
    IfOk-weaker c.routes_of.result _ _
    (λ found is. is
    ∙ listed_from c.self.inside.objects c.self.invariant.sound c.self.inside.indexes.origins.routes
    c.self.invariant.indexes.keys.origins c.args.origin c.routes_of.ensures.ordered
    ∙ ap (λ s. filter (is_originated c.args.origin) (values s)) c.self.view_is)
    c.routes_of.ensures.found
