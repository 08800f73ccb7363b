use Rattle.rr_number.proofs.PrefixSpans.{spans_tell}
use Rattle.rr_number.proofs.laws.spans_tell_prefixes.Goals as goal

pub returns : goal.returns
returns c = spans_tell
