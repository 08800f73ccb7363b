use Rattle.std.proofs.Common.{rules}
use Rattle.rr_store.specs.Calls.{Transacts}
use Rattle.rr_store.specs.Creating.{IsStoreOf}
use Rattle.rr_store.specs.FillingParts.{IsBlank}
use Rattle.rr_store.specs.Made.{IsMadeWith}
use Rattle.rr_object.specs.Objects.{lent}
use Rattle.rr_store.proofs.CommitLemmas.{transacted}
use Rattle.rr_store.proofs.creating.create_in_blank.Goals as goal

pub returns : goal.returns
returns g c =
    let made : Transacts g.S.Store (IsMadeWith (IsStoreOf (lent c.args.objects.now)))
    c.args.conn.now c.end.new.tx.0 c.end.result =
    transacted g.S.Store c.args.conn.now c.transaction-tx.result.conn.now
    c.make_filled-work.new.tx.conn.now c.end.new.tx.0 c.make_filled-work.result c.end.result IsBlank
    (IsMadeWith (IsStoreOf (lent c.args.objects.now)))
    (rw c.conn.view_is at c.transaction-tx.ensures.begun)
    (λ clean on. c.requires) c.make_filled-work.ensures.step c.end.ensures
    c.note_committed.ensures.committed in
    search rules
