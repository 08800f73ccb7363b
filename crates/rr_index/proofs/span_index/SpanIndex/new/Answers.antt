use Rattle.rr_index.proofs.Spans.{has_none}
use Rattle.rr_index.proofs.span_index.SpanIndex.new.Goals as goal

pub returns : goal.returns
returns c = rw (c.new.ensures, c.new-2.ensures, c.new-3.ensures) has_none
