use Rattle.std.proofs.Common.{ap, ◌∙◌}
use Rattle.std.specs.FinMap.{get}
use Rattle.rr_object.specs.declared.key.Key.TheVariants.{Mntner}
use Rattle.rr_index.proofs.MntnerNames.{named_key, no_name}
use Rattle.rr_index.proofs.indexed_book.IndexedBookBook.maintainer.Goals as goal

pub returns-in-Some : goal.returns-in-Some
returns-in-Some c =
    c.get.ensures
    ∙ named_key c.self.inside.objects c.args.name.now c.in-Some.key.now
    (c.in-Some.ensures ∙ c.self.invariant.indexes.keys.names c.args.name.now)
    ∙ ap (λ r. get r (Mntner c.args.name.now)) c.self.view_is

pub returns-in-None : goal.returns-in-None
returns-in-None c =
    no_name c.self.inside.objects c.args.name.now
    (c.in-None.ensures ∙ c.self.invariant.indexes.keys.names c.args.name.now)
    ∙ ap (λ r. get r (Mntner c.args.name.now)) c.self.view_is
