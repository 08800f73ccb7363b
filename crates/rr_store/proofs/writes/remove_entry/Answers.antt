use Rattle.std.proofs.Common.{rules}
use Rattle.rr_store.specs.Calls.{Transacts}
use Rattle.rr_store.specs.Entries.{IsTakenOut}
use Rattle.rr_store.specs.Maps.{AreOfObjects}
use Rattle.rr_store.proofs.CommitLemmas.{begun_over, transacted}
use Rattle.rr_store.proofs.writes.remove_entry.Goals as goal

pub remove_rows-work-requires : goal.remove_rows-work-requires
remove_rows-work-requires g c =
    begun_over g.S.Store c.args.conn.now c.transaction-tx.result.conn.now AreOfObjects
    (rw c.conn.view_is at c.transaction-tx.ensures.begun) c.requires.held

pub returns : goal.returns
returns g c =
    let made : Transacts g.S.Store (IsTakenOut c.args.class c.args.key.now) c.args.conn.now
    c.end.new.tx.0 c.end.result =
    transacted g.S.Store c.args.conn.now c.transaction-tx.result.conn.now
    c.remove_rows-work.new.tx.conn.now c.end.new.tx.0 c.remove_rows-work.result c.end.result
    AreOfObjects
    (IsTakenOut c.args.class c.args.key.now) (rw c.conn.view_is at c.transaction-tx.ensures.begun)
    c.requires.held c.remove_rows-work.ensures.step c.end.ensures
    c.note_committed.ensures.committed in
    search rules
