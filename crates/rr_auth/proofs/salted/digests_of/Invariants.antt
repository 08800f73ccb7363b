use Rattle.std.proofs.Common.{All, take}
use Rattle.rr_auth.specs.TrialParts.{HasWantedDigest}
use Rattle.rr_auth.proofs.salted.digests_of.Given as goal

abbrev pub invariant-loop-line : goal.invariant-loop-line
invariant-loop-line l = All (HasWantedDigest l.digests) (take l.line-index l.lines)
