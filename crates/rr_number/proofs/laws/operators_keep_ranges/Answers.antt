use Rattle.rr_number.proofs.RangeLemmas.{applied_keeps}
use Rattle.rr_number.proofs.laws.operators_keep_ranges.Goals as goal

pub returns : goal.returns
returns c = applied_keeps
