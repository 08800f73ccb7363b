use Rattle.rr_number.proofs.SpanTextLemmas.{IsSpanText-text}
use Rattle.rr_number.proofs.laws.printed_spans_are_read.Goals as goal

pub returns : goal.returns
returns c = IsSpanText-text
