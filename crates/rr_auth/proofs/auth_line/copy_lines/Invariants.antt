use Rattle.std.proofs.Common.{◌≡◌, take}
use Rattle.rr_auth.proofs.auth_line.copy_lines.Given as goal

abbrev pub invariant-loop-line : goal.invariant-loop-line
invariant-loop-line l = l.copies.items ≡ take l.line-index l.lines
