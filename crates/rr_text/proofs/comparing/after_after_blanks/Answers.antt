use Rattle.std.proofs.Common.{arith}
use Rattle.std.proofs.lemmas.Grind.{common_steps}
use Rattle.rr_text.specs.PrivateParts.{left_after}
use Rattle.rr_text.proofs.ComparingLemmas.{left_joined}
use Rattle.rr_text.proofs.comparing.after_after_blanks.Goals as goal

pub returns-then-is_empty : goal.returns-then-is_empty
unfolding left_after
returns-then-is_empty c = grind (arith, common_steps)

pub returns-in_err-rest : goal.returns-in_err-rest
returns-in_err-rest c = grind (arith, left_joined)

pub returns : goal.returns
returns c = grind (arith, left_joined)
