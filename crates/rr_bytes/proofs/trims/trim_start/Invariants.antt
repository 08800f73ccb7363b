use Rattle.std.proofs.Common.{◌≡◌, length}
use Rattle.rr_bytes.specs.ByteSets.{is_in}
use Rattle.rr_bytes.specs.Trims.{trim_start}
use Rattle.rr_bytes.proofs.trims.trim_start.Given as goal

-- what is left is trimmed as the whole is
abbrev pub invariant-bytes : goal.invariant-bytes
invariant-bytes l = trim_start (is_in l.blanks) l.rest ≡ trim_start (is_in l.blanks) l.text

abbrev pub decreases-bytes : goal.decreases-bytes
decreases-bytes l = length l.rest
