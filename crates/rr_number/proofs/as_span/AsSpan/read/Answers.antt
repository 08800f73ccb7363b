-- What the reader computes is what the grammar spells.
use Rattle.std.proofs.Common.{◌∙◌, sym}
use Rattle.rr_number.proofs.AsSpanLemmas.{as_span_of-spelled, as_span_of-read}
use Rattle.rr_number.proofs.Choices.{IfSome-each}
use Rattle.rr_number.proofs.as_span.AsSpan.read.Goals as goal

pub returns : goal.returns
returns c = record {
  found = IfSome-each _ _ (λ block is. as_span_of-spelled _ block (sym c.read_block.ensures ∙ is));
  only = λ block spelled. c.read_block.ensures ∙ as_span_of-read _ block spelled;
  exact = c.read_block.ensures;
}
