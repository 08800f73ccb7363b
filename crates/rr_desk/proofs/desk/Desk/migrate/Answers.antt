use Rattle.std.proofs.Common.{refl}
use Rattle.std.proofs.lemmas.Result.{err_from_is_err_and}
use Rattle.rr_desk.specs.Histories.Happens.{migration, no_migration}
use Rattle.rr_desk.proofs.desk.Desk.migrate.Goals as goal

pub returns-clause-event : goal.returns-clause-event
returns-clause-event g c =
    migration _ _ _ (record {
      running = c.in_ok-stock.ensures.stock.running;
      settings = refl;
      of_source =
          c.in_ok-stock.ensures.stock.of_source;
      holds = c.in_ok-stock.ensures.stock.holds;
    }) c.in_ok-stock.ensures.migrates

pub returns-in_err-stock-clause-event : goal.returns-in_err-stock-clause-event
returns-in_err-stock-clause-event g c =
    let exit = err_from_is_err_and c.from_residual.result c.from_residual.ensures.1 in
    rw (exit.1, exit.2) (no_migration _ _ _ _ c.in_err-stock.ensures.fails)
