use Rattle.std.proofs.Common.{ap, ◌∙◌}
use Rattle.rr_book.specs.Books.{is_in_order}
use Rattle.rr_book.proofs.Order.{told}
use Rattle.rr_book.proofs.Origins.{collected_rise}
use Rattle.rr_book.proofs.plain_book.PlainBookBook.origins.Goals as goal

pub returns-clause-value : goal.returns-clause-value
returns-clause-value c =
    let objects = told _ _ c.deref.result.now c.self.view_is c.self.invariant.book.ordered
    c.deref.ensures.value in
    rw (← objects) c.origins.ensures

pub returns-clause-ascending : goal.returns-clause-ascending
returns-clause-ascending c =
    collected_rise (λ v. v.items) c.args.prefix c.deref.result.now c.origins.result
    (ap is_in_order c.deref.ensures.value ∙ c.self.invariant.book.ordered) c.origins.ensures
