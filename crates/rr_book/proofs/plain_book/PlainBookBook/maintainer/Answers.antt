use Rattle.std.proofs.Common.{sym, ap, ◌∙◌}
use Rattle.rr_auth.specs.Registries.{maintainer}
use Rattle.rr_book.proofs.Order.{maintainer_of_book}
use Rattle.rr_book.proofs.plain_book.PlainBookBook.maintainer.Goals as goal

pub returns : goal.returns
returns c =
    let found = rw c.deref.ensures.value at c.find_mntner.ensures in
    found ∙ sym (maintainer_of_book _ _ c.self.invariant.book.ordered)
    ∙ ap (λ r. maintainer r c.args.name.now) c.self.view_is
