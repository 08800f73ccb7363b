use Rattle.std.proofs.Common.{rules, [], ◌∷◌}
use Rattle.rr_store.specs.Calls.{Transacts}
use Rattle.rr_store.specs.Contents.{IsTidy}
use Rattle.rr_store.specs.Entries.{IsAdded}
use Rattle.rr_store.proofs.CommitLemmas.{transacted}
use Rattle.rr_store.proofs.writes.insert_entry.Goals as goal

pub returns : goal.returns
returns g c =
    let made : Transacts g.S.Store (IsAdded (c.args.entry.now ∷ [])) c.args.conn.now c.end.new.tx.0
    c.end.result =
    transacted g.S.Store c.args.conn.now c.transaction-tx.result.conn.now
    c.add_rows-work.new.tx.conn.now c.end.new.tx.0 c.add_rows-work.result c.end.result IsTidy
    (IsAdded (c.args.entry.now ∷ [])) (rw c.conn.view_is at c.transaction-tx.ensures.begun)
    (λ clean on. (c.requires.held clean on).rows.tidy) c.add_rows-work.ensures.step c.end.ensures
    c.note_committed.ensures.committed in
    search rules
