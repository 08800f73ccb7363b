use Rattle.std.proofs.Common.{length}
use Rattle.rr_number.proofs.ParentLemmas.{IsLastOf}
use Rattle.rr_number.proofs.set_name.parent.parent_text.Given as goal

-- what is left is the text, or stands after a colon of it
abbrev pub invariant-components : goal.invariant-components
invariant-components l = IsLastOf l.last l.bytes

abbrev pub decreases-components : goal.decreases-components
decreases-components l = length l.last
