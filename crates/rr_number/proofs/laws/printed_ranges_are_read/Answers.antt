use Rattle.rr_number.proofs.RangeLemmas.{operator_for-made}
use Rattle.rr_number.proofs.RangedLemmas.{IsRanged-text}
use Rattle.rr_number.proofs.laws.printed_ranges_are_read.Goals as goal

pub returns-clause-spelled : goal.returns-clause-spelled
returns-clause-spelled c = IsRanged-text

pub returns-clause-made : goal.returns-clause-made
returns-clause-made c = operator_for-made
