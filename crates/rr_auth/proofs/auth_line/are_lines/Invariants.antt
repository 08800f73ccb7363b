use Rattle.std.proofs.Common.{◌≡◌, take}
use Rattle.rr_auth.proofs.auth_line.are_lines.Given as goal

-- the first ones are equal
abbrev pub invariant-lines : goal.invariant-lines
invariant-lines l = take l.i l.copies ≡ take l.i l.lines
