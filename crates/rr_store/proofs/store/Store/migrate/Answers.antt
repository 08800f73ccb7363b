use Rattle.std.proofs.Common.{[], ◌∷◌, ◌++◌}
use Rattle.sqlite.specs.Held.{state}
use Rattle.rr_store.proofs.ObjectRows.{stored_held}
use Rattle.rr_store.proofs.store.Store.migrate.Goals as goal

pub invariant_of-result : goal.invariant_of-result
invariant_of-result g c = record {
  autocommit = c.in-Ok.ensures.migrates.autocommit;
  held = λ clean on.
      let migrated = c.in-Ok.ensures.migrates.done clean in
      stored_held c.args.source.now (migrated.objects ++ migrated.upper ∷ [])
      (state g.S.Store c.migrate_rows-migrated.new.conn).now migrated.after;
}

pub returns-in-Ok-clause-migrates : goal.returns-in-Ok-clause-migrates
returns-in-Ok-clause-migrates g c =
    let migrated = c.in-Ok.ensures.migrates in record {
      migrated = migrated.done;
      was_open = λ clean. migrated.opened clean (migrated.is_open clean);
      is_open = migrated.is_open;
      settled = c.note_committed.ensures.settled;
      crash = migrated.crash;
    }

pub returns-in-Err-clause-fails : goal.returns-in-Err-clause-fails
returns-in-Err-clause-fails g c =
    let migrated = c.in-Err.ensures.migrates in record {
      autocommit = migrated.autocommit;
      was_open = migrated.opened;
      kept = migrated.kept;
      settled = c.note_committed.ensures.settled;
      why = c.in-Err.ensures.why;
      crash = migrated.crash;
      store = c.in-Err.ensures.cause;
    }
