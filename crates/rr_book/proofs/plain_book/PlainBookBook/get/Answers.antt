use Rattle.std.proofs.Common.{sym, ap, subst, ◌∙◌}
use Rattle.std.specs.FinMap.{get}
use Rattle.rr_auth.specs.Registries.{Sound}
use Rattle.rr_book.proofs.Order.{get_of_book}
use Rattle.rr_book.proofs.plain_book.PlainBookBook.get.Goals as goal

pub returns : goal.returns
returns c = record {
  found = let found = rw c.deref.ensures.value at c.find_by_key.ensures in
      found ∙ sym (get_of_book _ _ c.self.invariant.book.ordered)
      ∙ ap (λ r. get r c.args.key.now) c.self.view_is;
  sound = subst Sound c.self.view_is c.self.invariant.book.sound;
}
