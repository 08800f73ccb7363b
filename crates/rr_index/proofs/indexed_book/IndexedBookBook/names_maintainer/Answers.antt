use Rattle.std.proofs.Common.{ap, ◌∙◌}
use Rattle.std.specs.Prelude.{nat_lt}
use Rattle.std.specs.FinMap.{values}
use Rattle.rr_auth.specs.Registries.{is_named}
use Rattle.rr_index.proofs.Namings.{named_told}
use Rattle.rr_index.proofs.indexed_book.IndexedBookBook.names_maintainer.Goals as goal

pub returns : goal.returns
returns c =
    c.is_named.ensures
    ∙ ap (nat_lt 0) (c.self.invariant.indexes.namings c.args.name.now)
    ∙ named_told c.args.name.now (values c.self.inside.objects)
    ∙ ap (λ r. is_named r c.args.name.now) c.self.view_is
