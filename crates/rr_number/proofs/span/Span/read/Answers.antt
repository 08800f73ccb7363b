-- What the reader computes is what the grammar spells.
use Rattle.std.proofs.Common.{◌∙◌, sym}
use Rattle.rr_number.proofs.Choices.{IfSome-each}
use Rattle.rr_number.proofs.SpanTextLemmas.{spelled_span-spelled, spelled_span-read}
use Rattle.rr_number.proofs.span.Span.read.Goals as goal

pub returns : goal.returns
returns c = record {
  found = IfSome-each _ _ (λ span is. spelled_span-spelled _ span (sym c.read_span.ensures ∙ is));
  only = λ span spelled. c.read_span.ensures ∙ spelled_span-read _ span spelled;
  exact = c.read_span.ensures;
}
