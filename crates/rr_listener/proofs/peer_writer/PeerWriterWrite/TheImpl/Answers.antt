use Rattle.std.proofs.Common.{ℕ, List, Result, None, Ok, Err}
use Rattle.std.specs.Io.KnownBytes.{WriteAppends}
use Rattle.rr_listener.proofs.peer_writer.PeerWriterWrite.TheImpl.Goals as goal

-- nothing is said of the bytes that a peer has taken
untold : {E : Type 0} (result : Result ℕ E) (buf : List ℕ) → WriteAppends None None result buf
untold (Ok count) buf = tt
untold (Err _) buf = tt

pub write-tells : goal.write-tells
write-tells g c = record { bound = c.ensures.bound; bytes = untold c.result c.args.buf.now }
