use Rattle.std.proofs.Common.{arith}
use Rattle.rr_submission.specs.Endings.{last_line}
use Rattle.rr_submission.proofs.LineSizes.{after_count_short, before_count_short}
use Rattle.rr_submission.proofs.ending.last_line.Goals as goal

pub returns : goal.returns
unfolding last_line
returns c = grind (arith, before_count_short, after_count_short)
