use Rattle.rr_number.proofs.SpanOrder.{span_cmp_total, span_cmp-IsAntisymmetric}
use Rattle.rr_number.proofs.span.laws.spans_are_ordered.Goals as goal

pub returns-clause-ordered : goal.returns-clause-ordered
returns-clause-ordered c = record { total = span_cmp_total; exact = span_cmp-IsAntisymmetric }
