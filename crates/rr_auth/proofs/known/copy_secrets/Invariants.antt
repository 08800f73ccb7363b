use Rattle.std.proofs.Common.{◌≡◌, take}
use Rattle.rr_auth.proofs.known.copy_secrets.Given as goal

abbrev pub invariant-loop-secret : goal.invariant-loop-secret
invariant-loop-secret l = l.copies.items ≡ take l.secret-index l.secrets
