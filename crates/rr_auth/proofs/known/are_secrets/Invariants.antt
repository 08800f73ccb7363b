use Rattle.std.proofs.Common.{◌≡◌, take}
use Rattle.rr_auth.proofs.known.are_secrets.Given as goal

-- the first ones are equal
abbrev pub invariant-secrets : goal.invariant-secrets
invariant-secrets l = take l.i l.copies ≡ take l.i l.secrets
