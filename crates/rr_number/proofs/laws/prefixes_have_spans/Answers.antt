use Rattle.rr_number.proofs.PrefixSpans.{IsSpan-prefix}
use Rattle.rr_number.proofs.laws.prefixes_have_spans.Goals as goal

pub returns : goal.returns
returns c = IsSpan-prefix
