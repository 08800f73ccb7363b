use Rattle.std.proofs.Common.{refl, subst}
use Rattle.rr_desk.proofs.ListRows.{makes_as, untouched_back}
use Rattle.rr_desk.specs.Private.{IsNotOfStore}
use Rattle.rr_desk.proofs.Loads.{unmade_fails}
use Rattle.rr_desk.specs.Histories.Happens.{making, no_making}
use Rattle.rr_desk.proofs.desk.Desk.load.Goals as goal

pub returns-in-Ok-create_stored-clause-runs : goal.returns-in-Ok-create_stored-clause-runs
returns-in-Ok-create_stored-clause-runs g c = record {
  running = c.in-Ok-create_stored.ensures.stock.running;
  settings = refl;
  of_source = rw (c.in-Ok-create_stored.ensures.stock.registry, ← c.source.ensures.source)
      c.in-Ok.ensures.of_source;
  holds = c.in-Ok-create_stored.ensures.stock.holds;
}

pub returns-in-Ok-create_stored-clause-makes : goal.returns-in-Ok-create_stored-clause-makes
returns-in-Ok-create_stored-clause-makes g c =
    rw (← c.source.ensures.source)
    (makes_as _ _ _ (λ db rows. record {
      registry = c.in-Ok.registry;
      is_loaded =
          c.in-Ok.ensures.loaded;
      rows = rows;
    }) c.in-Ok-create_stored.ensures.makes)

pub returns-in-Err-create_stored-clause-fails : goal.returns-in-Err-create_stored-clause-fails
returns-in-Err-create_stored-clause-fails g c =
    rw (← c.source.ensures.source)
    (unmade_fails _ _ _ _ _ c.in-Ok.ensures.loaded _ _ c.in-Err-create_stored.fault
    c.in-Err-create_stored.ensures.fails)

pub returns-in-Err-clause-fails : goal.returns-in-Err-clause-fails
returns-in-Err-clause-fails g c = record {
  none = untouched_back _ _ _ c.note_idle.ensures;
  why = rw (← c.source.ensures.source) c.in-Err.ensures.why;
  unmade = λ refused is. absurd (subst IsNotOfStore is c.in-Err.ensures.not_of_store);
}

pub returns-in-Ok-create_stored-clause-event : goal.returns-in-Ok-create_stored-clause-event
returns-in-Ok-create_stored-clause-event g c =
    making _ _ _ _ (returns-in-Ok-create_stored-clause-runs g c)
    (rw (c.in-Ok-create_stored.ensures.stock.registry, ← c.source.ensures.source)
    c.in-Ok.ensures.loaded) (returns-in-Ok-create_stored-clause-makes g c)

pub returns-in-Err-create_stored-clause-event : goal.returns-in-Err-create_stored-clause-event
returns-in-Err-create_stored-clause-event g c =
    no_making _ _ _ (returns-in-Err-create_stored-clause-fails g c).none

pub returns-in-Err-clause-event : goal.returns-in-Err-clause-event
returns-in-Err-clause-event g c = no_making _ _ _ (returns-in-Err-clause-fails g c).none
