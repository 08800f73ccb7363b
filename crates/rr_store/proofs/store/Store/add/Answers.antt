use Rattle.std.proofs.Common.{subst}
use Rattle.rr_store.specs.Calls.{IsSettled}
use Rattle.rr_store.proofs.store.Store.add.Goals as goal

pub returns : goal.returns
returns g c = record {
  writes = c.add_rows_of-written.ensures;
  settled = subst (IsSettled g.S.Store) c.self.view_is c.note_committed.ensures.settled;
}
