use Rattle.std.proofs.Common.{◌≤◌}
use Rattle.std.specs.Duration.{as_nanos}
use Rattle.rr_listener.proofs.peer_writer.PeerWriterWrite.write.Given as goal

-- no time that was taken is given back
abbrev pub invariant-calls : goal.invariant-calls
invariant-calls l = as_nanos l.initial.self.deadline.taken ≤ as_nanos l.self.deadline.taken
