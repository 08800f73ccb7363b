use Rattle.std.proofs.Common.{ℕ, ◌≤◌, List, length, Result, None, Ok, Err, IfOk, arith}
use Rattle.std.proofs.lemmas.List.{length-take}
use Rattle.std.specs.Io.{ReadsAtMost}
use Rattle.std.specs.Io.KnownBytes.{ReadConsumes}
use Rattle.rr_listener.proofs.peer_reader.PeerReaderRead.TheImpl.Goals as goal

bounded : {E : Type 0} (result : Result ℕ E) (buf : List ℕ) →
    IfOk result (λ count. count ≤ length buf) → ReadsAtMost result buf
bounded (Ok count) buf bound = (bound, omega (arith, length-take count buf))
bounded (Err _) buf bound = tt

-- nothing is said of the bytes that a peer sends
untold : {E : Type 0} (result : Result ℕ E) (buf : List ℕ) → ReadConsumes None None result buf
untold (Ok count) buf = (tt, λ _ _. tt)
untold (Err _) buf = tt

pub read-tells : goal.read-tells
read-tells g c = record {
  bound = bounded c.result c.new.buf.now c.ensures.bound;
  bytes = untold c.result c.new.buf.now;
}
