use Rattle.rr_number.proofs.OperatorLemmas.{IsOperator-text}
use Rattle.rr_number.proofs.laws.printed_operators_are_read.Goals as goal

pub returns : goal.returns
returns c = IsOperator-text
