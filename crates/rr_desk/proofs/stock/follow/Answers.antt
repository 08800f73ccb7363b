use Rattle.rr_desk.proofs.Following.{gain_follows, loss_follows, new_follows, writes_follow}
use Rattle.rr_desk.proofs.Following.{writes_leave}
use Rattle.rr_desk.proofs.stock.follow.Goals as goal

pub returns-in-Added-clause-follows : goal.returns-in-Added-clause-follows
returns-in-Added-clause-follows g c =
    rw c.in-Added.is
    (writes_follow _ _ _ _ _ _ (λ db. new_follows c.args.key.now c.args.registry.now _ _ db
    c.standing.ensures) c.add.ensures.writes.map c.add.ensures.settled)

pub returns-in-Added-clause-others : goal.returns-in-Added-clause-others
returns-in-Added-clause-others g c = writes_leave g.S.Store _ _ _ _ c.add.ensures.writes.rows
    (λ db change. change.others)

pub returns-in-Changed-clause-follows : goal.returns-in-Changed-clause-follows
returns-in-Changed-clause-follows g c =
    rw c.in-Changed.is
    (writes_follow _ _ _ _ _ _ (λ db. gain_follows c.args.key.now c.args.registry.now _ _ db
    c.standing-in-Changed.ensures) c.put.ensures.writes.map c.put.ensures.settled)

pub returns-in-Changed-clause-others : goal.returns-in-Changed-clause-others
returns-in-Changed-clause-others g c = writes_leave g.S.Store _ _ _ _ c.put.ensures.writes.rows
    (λ db change. change.others)

pub returns-in-Deleted-clause-follows : goal.returns-in-Deleted-clause-follows
returns-in-Deleted-clause-follows g c =
    rw c.in-Deleted.is
    (writes_follow _ _ _ _ _ _ (λ db. loss_follows c.args.key.now c.args.registry.now _ db)
    c.remove.ensures.writes.map c.remove.ensures.settled)

pub returns-in-Deleted-clause-others : goal.returns-in-Deleted-clause-others
returns-in-Deleted-clause-others g c = writes_leave g.S.Store _ _ _ _ c.remove.ensures.writes.rows
    (λ db change. change.others)
