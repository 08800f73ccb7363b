use Rattle.rr_book.proofs.Order.{told}
use Rattle.rr_book.proofs.plain_book.PlainBookBook.closest_route_prefix.Goals as goal

pub returns : goal.returns
returns c =
    let objects = told _ _ c.deref.result.now c.self.view_is c.self.invariant.book.ordered
    c.deref.ensures.value in
    rw (← objects) c.closest_route_prefix.ensures
