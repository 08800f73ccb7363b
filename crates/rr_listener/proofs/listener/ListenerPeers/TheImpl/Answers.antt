use Rattle.std.proofs.Common.{IfOk, Result, Ok, Err}
use Rattle.rr_listener.proofs.listener.ListenerPeers.TheImpl.Goals as goal

-- that a connection is open says nothing here
always_open : {T E : Type 0} → (result : Result T E) → IfOk result (λ _. Unit {0})
always_open (Ok _) = tt
always_open (Err _) = tt

pub accept-tells : goal.accept-tells
accept-tells g c = record {
  accepted = c.ensures.accepted;
  «open» = always_open c.result;
  refused = c.ensures.refused;
}
