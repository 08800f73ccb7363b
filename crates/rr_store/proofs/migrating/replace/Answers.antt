use Rattle.std.proofs.Common.{rules, map}
use Rattle.rr_store.specs.Calls.{Transacts}
use Rattle.rr_store.specs.Contents.{IsTidy}
use Rattle.rr_store.specs.Entries.{entry_of}
use Rattle.rr_object.specs.Objects.{lent}
use Rattle.rr_store.specs.MigratingParts.{IsReplaced}
use Rattle.rr_store.proofs.CommitLemmas.{transacted}
use Rattle.rr_store.proofs.migrating.replace.Goals as goal

pub returns : goal.returns
returns g c =
    let made : Transacts g.S.Store (IsReplaced (map entry_of (lent c.args.objects.now)))
    c.args.conn.now c.end.new.tx.0 c.end.result =
    transacted g.S.Store c.args.conn.now c.transaction-tx.result.conn.now
    c.refill-work.new.tx.conn.now c.end.new.tx.0 c.refill-work.result c.end.result IsTidy
    (IsReplaced (map entry_of (lent c.args.objects.now)))
    (rw c.conn.view_is at c.transaction-tx.ensures.begun)
    (λ clean on. c.requires clean) c.refill-work.ensures.step c.end.ensures
    c.note_committed.ensures.committed in
    search rules
