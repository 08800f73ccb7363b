use Rattle.std.proofs.Common.{take}
use Rattle.rr_auth.specs.TrialParts.{HasDigests}
use Rattle.rr_auth.proofs.salted.digests.Given as goal

abbrev pub invariant-loop-secret : goal.invariant-loop-secret
invariant-loop-secret l = HasDigests l.salt l.wanted (take l.secret-index l.secrets) l.digests
