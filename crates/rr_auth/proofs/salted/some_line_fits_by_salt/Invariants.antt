use Rattle.std.proofs.Common.{◌≡◌, drop}
use Rattle.rr_auth.specs.TrialParts.{AreDigests, some_line_fits}
use Rattle.rr_auth.proofs.salted.some_line_fits_by_salt.Given as goal

-- the lines that are left decide
abbrev pub invariant-lines : goal.invariant-lines
invariant-lines l = record {
  left : some_line_fits l.secrets (drop l.line-index l.lines) ≡ some_line_fits l.secrets l.lines;
  remembered : AreDigests l.wanted l.secrets l.salted.digests;
}
