use Rattle.std.proofs.Common.{subst}
use Rattle.std.proofs.lemmas.Result.{err_from_is_err_and}
use Rattle.rr_store.specs.Maps.{HasRows}
use Rattle.rr_store.proofs.OtherVersions.{stored_says_it}
use Rattle.rr_desk.proofs.ListRows.{opened_rows}
use Rattle.rr_desk.proofs.Listed.{bad_objects, no_error, no_version, unreadable_rows}
use Rattle.rr_desk.proofs.Sources.{taken_of_source}
use Rattle.rr_desk.proofs.opened.open_stored.Goals as goal

pub of-requires-clause-is_open : goal.of-requires-clause-is_open
of-requires-clause-is_open g c = c.in_ok-store.ensures.opens.is_open

pub of-requires-clause-settled : goal.of-requires-clause-settled
of-requires-clause-settled g c = c.in_ok-store.ensures.opens.settled

pub of-requires-clause-rows : goal.of-requires-clause-rows
of-requires-clause-rows g c = λ clean. opened_rows c.args.source.now _ _ _
    (c.in_ok-store.ensures.opens.stored clean) c.in-Ok.ensures.taken

pub returns-in-Ok-clause-stock : goal.returns-in-Ok-clause-stock
returns-in-Ok-clause-stock g c = record {
  of_source = rw c.of.ensures.stock.registry (taken_of_source c.args.source.now _ _
      c.in-Ok.ensures.taken c.in-Ok.ensures.sound
      c.in_ok-store.ensures.opens.of_source);
  running = c.of.ensures.stock.running;
  holds = c.of.ensures.stock.holds;
}

pub returns-in-Ok-clause-opens : goal.returns-in-Ok-clause-opens
returns-in-Ok-clause-opens g c =
    let opens = c.in_ok-store.ensures.opens in record {
      was_open = rw c.of.ensures.store opens.was_open;
      rows = rw (c.of.ensures.stock.registry, c.of.ensures.store)
          (λ clean. subst (HasRows c.in-Ok.registry) (opens.same clean)
          (opened_rows c.args.source.now _ _ _ (opens.stored clean)
          c.in-Ok.ensures.taken));
      same = rw c.of.ensures.store opens.same;
      crash = rw c.of.ensures.store opens.crash;
    }

pub returns-in-Err-clause-fails : goal.returns-in-Err-clause-fails
returns-in-Err-clause-fails g c =
    let opens = c.in_ok-store.ensures.opens in record {
      none = record {
        autocommit = c.close.ensures.autocommit;
        was_open = rw c.close.ensures.same (λ clean on. opens.was_open clean);
        kept = rw c.close.ensures.same (λ clean on. opens.same clean);
        crash = rw c.close.ensures.same opens.crash;
      };
      why = rw (c.refused.ensures, c.close.ensures.same)
          (λ clean.
          let stored = rw (opens.same clean) at opens.stored clean in record {
            wrong_version = λ number is. absurd (no_version c.in-Err.fault number is);
            bad_row = λ is. bad_objects c.args.source.now _ _ _ c.in-Err.ensures.taken
                is stored;
            no_other_said = λ is. stored_says_it _ c.args.source.now _ _ stored;
            tables = λ of. stored.rows.tidy.has;
            untabled = λ none. absurd (none stored.rows.tidy.has);
          });
      store = rw c.refused.ensures
          (λ error is. absurd (no_error c.in-Err.fault error is));
    }

pub returns-in_err-store-clause-fails : goal.returns-in_err-store-clause-fails
returns-in_err-store-clause-fails g c =
    let exit = err_from_is_err_and c.from_residual.result c.from_residual.ensures.1 in
    let fails = c.in_err-store.ensures.fails in rw (exit.1, exit.2) (record {
      none = record {
        autocommit = fails.rests.autocommit;
        was_open = fails.rests.opened;
        kept =
            fails.rests.same;
        crash = fails.rests.crash;
      };
      why = λ clean.
          let why = fails.why clean in record {
            wrong_version = why.wrong_version;
            bad_row = λ is. unreadable_rows c.args.source.now _ (why.bad_row is);
            no_other_said = why.no_other_said;
            tables = why.tables;
            untabled = why.untabled;
          };
      store = fails.store;
    })
