use Rattle.std.proofs.Common.{sym, subst}
use Rattle.sqlite.specs.Held.{state}
use Rattle.rr_store.specs.Maps.{AreOfObjects, AreStored}
use Rattle.rr_store.proofs.ObjectRows.{stored_held}
use Rattle.rr_store.proofs.store.Store.open_all.Goals as goal

pub invariant_of-result : goal.invariant_of-result
invariant_of-result g c = record {
  autocommit = c.in-Ok.ensures.inspects.looks.rests.autocommit;
  held = λ clean on.
      subst AreOfObjects (sym (c.in-Ok.ensures.inspects.looks.same clean).0.now_is)
      (stored_held c.args.source.now c.in-Ok.objects.items (state g.S.Store c.args.conn).now
      (c.in-Ok.ensures.inspects.read clean));
}

pub returns-in-Ok-clause-opens : goal.returns-in-Ok-clause-opens
returns-in-Ok-clause-opens g c =
    let held = c.in-Ok.ensures.inspects in
    record {
      stored = λ clean. subst (AreStored c.args.source.now c.in-Ok.objects.items)
          (sym (held.looks.same clean).0.now_is) (held.read clean);
      in_order = c.in-Ok.ensures.listed.in_order;
      of_source = c.in-Ok.ensures.listed.of_source;
      same = λ clean. (held.looks.same clean).0.now_is;
      was_open = λ clean. (held.looks.same clean).0.was_open;
      is_open = λ clean. (held.looks.same clean).0.is_open;
      settled = c.note_committed.ensures.settled;
      crash = held.looks.rests.crash;
    }

pub returns-in-Err-clause-fails : goal.returns-in-Err-clause-fails
returns-in-Err-clause-fails g c =
    let held = c.in-Err.ensures.inspects in
    record {
      rests = held.looks.rests;
      settled = c.note_committed.ensures.settled;
      why = held.why;
      store = held.cause;
    }
