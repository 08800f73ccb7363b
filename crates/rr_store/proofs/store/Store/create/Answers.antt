use Rattle.sqlite.specs.Held.{state}
use Rattle.rr_store.proofs.ObjectRows.{filled_held}
use Rattle.rr_object.specs.Objects.{lent}
use Rattle.rr_store.proofs.store.Store.create.Goals as goal

pub invariant_of-result : goal.invariant_of-result
invariant_of-result g c = record {
  autocommit = c.in-Ok.ensures.makes.autocommit;
  held = λ clean on.
      let store = (c.in-Ok.ensures.makes.done clean).rows in
      filled_held (lent c.args.objects.now)
      (state g.S.Store c.create_where_vacant-made.new.conn).now store.read store.filled;
}

pub returns-in-Ok-clause-makes : goal.returns-in-Ok-clause-makes
returns-in-Ok-clause-makes g c =
    let made = c.in-Ok.ensures.makes in record {
      filled = λ clean. (made.done clean).rows;
      tables = λ clean. (made.done clean).tables;
      was_open = λ clean. made.opened clean (made.is_open clean);
      is_open = made.is_open;
      settled = c.note_committed.ensures.settled;
      vacant = λ clean. (made.done clean).vacant;
      crash = made.crash;
    }

pub returns-in-Err-clause-fails : goal.returns-in-Err-clause-fails
returns-in-Err-clause-fails g c =
    let made = c.in-Err.ensures.makes in record {
      autocommit = made.autocommit;
      was_open = made.opened;
      kept = made.kept;
      settled = c.note_committed.ensures.settled;
      not_empty = λ is clean. c.in-Err.ensures.filled clean is;
      crash = made.crash;
      store = c.in-Err.ensures.cause;
      memory = c.in-Err.ensures.memory;
      untabled = c.in-Err.ensures.untabled;
    }
