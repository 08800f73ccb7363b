use Rattle.rr_number.proofs.RangeLemmas.{applied_admits}
use Rattle.rr_number.proofs.laws.operators_admit_what_they_say.Goals as goal

pub returns : goal.returns
returns c = applied_admits
