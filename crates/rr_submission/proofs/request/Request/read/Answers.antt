use Rattle.rr_submission.proofs.Asking.{IsRequest-about, IsRequest-at_fault}
use Rattle.rr_submission.proofs.request.Request.read.Goals as goal

pub returns-in-Ok-key_of : goal.returns-in-Ok-key_of
returns-in-Ok-key_of c =
    IsRequest-about _ _ _ _ _ c.in-Ok.ensures c.in-Ok-key_of.ensures.ok
    (rw c.asks_deletion-deletes.ensures at c.about.ensures)

pub returns-in-Err : goal.returns-in-Err
returns-in-Err c =
    rw (c.unread-in-Err.ensures, c.code.ensures) (IsRequest-at_fault _ _ _ c.in-Err.fault
    c.in-Ok.ensures c.in-Err.ensures.fault)
