-- That a connection in no transaction has the rows last committed.
use Rattle.std.proofs.Common.{not, ap, subst, ◌∙◌}
use Rattle.rr_store.specs.Calls.{IsSettled}
use Rattle.rr_store.proofs.SettledLemmas.{settles}
use Rattle.rr_store.proofs.idle_connection.IdleConnection.note_committed.Goals as goal

pub returns-clause-committed : goal.returns-clause-committed
returns-clause-committed g c =
    rw c.self.view_is at (c.is_autocommit.ensures.settled
    (c.is_autocommit.ensures.value ∙ ap not c.self.invariant))

pub returns-clause-settled : goal.returns-clause-settled
returns-clause-settled g c =
    subst (IsSettled g.S.Store) c.self.view_is
    (settles g.S.Store g.met.S.Store.settled c.self.inside.inner
    (c.is_autocommit.ensures.settled (c.is_autocommit.ensures.value ∙ ap not c.self.invariant)))
