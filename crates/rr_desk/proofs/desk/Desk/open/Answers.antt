use Rattle.std.proofs.Common.{refl}
use Rattle.std.proofs.lemmas.Result.{err_from_is_err_and}
use Rattle.rr_desk.specs.Histories.Happens.{opening, no_opening}
use Rattle.rr_desk.proofs.desk.Desk.open.Goals as goal

pub same-settings : goal.same-settings
same-settings g c = refl

pub returns-clause-runs : goal.returns-clause-runs
returns-clause-runs g c = record {
  running = c.in_ok-stock.ensures.stock.running;
  settings = refl;
  of_source = rw (← c.source.ensures.source) c.in_ok-stock.ensures.stock.of_source;
  holds = c.in_ok-stock.ensures.stock.holds;
}

pub returns-clause-opens : goal.returns-clause-opens
returns-clause-opens g c = c.in_ok-stock.ensures.opens

pub returns-in_err-stock-clause-fails : goal.returns-in_err-stock-clause-fails
returns-in_err-stock-clause-fails g c =
    let exit = err_from_is_err_and c.from_residual.result c.from_residual.ensures.1 in
    rw (exit.1, exit.2, ← c.source.ensures.source) c.in_err-stock.ensures.fails

pub returns-clause-event : goal.returns-clause-event
returns-clause-event g c = opening _ _ _ (returns-clause-runs g c) (returns-clause-opens g c)

pub returns-in_err-stock-clause-event : goal.returns-in_err-stock-clause-event
returns-in_err-stock-clause-event g c =
    let exit = err_from_is_err_and c.from_residual.result c.from_residual.ensures.1 in
    let fails = rw (exit.1, exit.2) at (returns-in_err-stock-clause-fails g c) in
    rw (exit.1, exit.2) (no_opening _ _ _ _ fails)
