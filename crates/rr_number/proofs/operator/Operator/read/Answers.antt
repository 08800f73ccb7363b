-- What the reader computes is what the grammar spells.
use Rattle.std.proofs.Common.{◌∙◌, sym}
use Rattle.rr_number.proofs.Choices.{IfSome-each}
use Rattle.rr_number.proofs.OperatorLemmas.{operator_of-spelled, operator_of-read}
use Rattle.rr_number.proofs.operator.Operator.read.Goals as goal

pub returns : goal.returns
returns c = record {
  found = IfSome-each _ _ (λ operator is. operator_of-spelled _ operator
      (sym c.read_operator.ensures ∙ is));
  only = λ operator spelled. c.read_operator.ensures ∙ operator_of-read _ operator spelled;
  exact = c.read_operator.ensures;
}
