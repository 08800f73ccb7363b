use Rattle.rr_number.proofs.PrefixSpans.{never_cross}
use Rattle.rr_number.proofs.laws.prefixes_never_cross.Goals as goal

pub returns : goal.returns
returns c = never_cross
