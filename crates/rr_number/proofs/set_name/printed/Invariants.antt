use Rattle.std.proofs.Common.{◌≡◌, ◌++◌, length}
use Rattle.rr_number.specs.SetNames.{set_text}
use Rattle.rr_number.proofs.set_name.printed.Given as goal

-- what is printed and what is left to print are the whole
abbrev pub invariant-components : goal.invariant-components
invariant-components l = l.text.items ++ set_text l.rest ≡ set_text l.bytes

abbrev pub decreases-components : goal.decreases-components
decreases-components l = length l.rest
