use Rattle.std.proofs.Common.{refl}
use Rattle.std.proofs.lemmas.Result.{err_from_is_err_and}
use Rattle.rr_desk.proofs.ListRows.{fails_as, makes_as, untouched_back}
use Rattle.rr_desk.specs.Histories.Happens.{making, no_making}
use Rattle.rr_desk.proofs.desk.Desk.create.Goals as goal

pub returns-in_default-clause-fails : goal.returns-in_default-clause-fails
returns-in_default-clause-fails g c = record {
  none = untouched_back _ _ _ c.note_idle.ensures;
  not_empty = λ is clean. absurd (cc);
  store = λ error is. absurd (cc);
  untabled = λ error is. absurd (cc);
}

pub same-settings : goal.same-settings
same-settings g c = refl

pub returns-clause-runs : goal.returns-clause-runs
returns-clause-runs g c = record {
  running = c.in_ok-stock.ensures.stock.running;
  settings = refl;
  of_source = rw c.in_ok-stock.ensures.stock.registry c.in-Ok.ensures.of_source;
  holds = c.in_ok-stock.ensures.stock.holds;
}

pub returns-clause-opening : goal.returns-clause-opening
returns-clause-opening g c = rw c.in_ok-stock.ensures.stock.registry c.in-Ok.ensures.opening

pub returns-clause-makes : goal.returns-clause-makes
returns-clause-makes g c =
    makes_as _ _ _ (λ db rows. record {
      registry = c.in-Ok.registry;
      is_opening =
          c.in-Ok.ensures.opening;
      rows = rows;
    }) c.in_ok-stock.ensures.makes

pub returns-in_err-stock-clause-fails : goal.returns-in_err-stock-clause-fails
returns-in_err-stock-clause-fails g c =
    let exit = err_from_is_err_and c.from_residual.result c.from_residual.ensures.1 in
    rw (exit.1, exit.2)
    (fails_as _ _ _ _ (λ db rows. record {
      registry = c.in-Ok.registry;
      is_opening = c.in-Ok.ensures.opening;
      rows = rows;
    }) c.in_err-stock.ensures.fails)

pub returns-in_default-clause-event : goal.returns-in_default-clause-event
returns-in_default-clause-event g c = no_making _ _ _ (returns-in_default-clause-fails g c).none

pub returns-clause-event : goal.returns-clause-event
returns-clause-event g c =
    making _ _ _ _ (returns-clause-runs g c) (returns-clause-opening g c)
    (returns-clause-makes g c)

pub returns-in_err-stock-clause-event : goal.returns-in_err-stock-clause-event
returns-in_err-stock-clause-event g c =
    let exit = err_from_is_err_and c.from_residual.result c.from_residual.ensures.1 in
    let fails = rw (exit.1, exit.2) at (returns-in_err-stock-clause-fails g c) in
    rw (exit.1, exit.2) (no_making _ _ _ fails.none)
