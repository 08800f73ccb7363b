use Rattle.std.proofs.lemmas.Result.{err_from_is_err_and}
use Rattle.rr_desk.proofs.opened.create_stored.Goals as goal

pub of-requires-clause-is_open : goal.of-requires-clause-is_open
of-requires-clause-is_open g c = c.in_ok-store.ensures.is_open

pub of-requires-clause-settled : goal.of-requires-clause-settled
of-requires-clause-settled g c = c.in_ok-store.ensures.settled

pub of-requires-clause-rows : goal.of-requires-clause-rows
of-requires-clause-rows g c = c.in_ok-store.ensures.rows

pub returns-clause-stock : goal.returns-clause-stock
returns-clause-stock g c = c.of.ensures.stock

pub returns-clause-makes : goal.returns-clause-makes
returns-clause-makes g c = rw c.of.ensures.store c.in_ok-store.ensures.makes

pub returns-in_err-store-clause-fails : goal.returns-in_err-store-clause-fails
returns-in_err-store-clause-fails g c =
    let exit = err_from_is_err_and c.from_residual.result c.from_residual.ensures.1 in
    rw (exit.1, exit.2) c.in_err-store.ensures.fails
