use Rattle.std.proofs.Common.{sym, ◌∙◌}
use Rattle.rr_number.proofs.AsNumberLemmas.{as_number_of-spelled, as_number_of-read}
use Rattle.rr_number.proofs.AsNumberLemmas.{as_number_of-bound}
use Rattle.rr_number.proofs.as_number.AsNumber.read.Goals as goal

pub invariant_of-result : goal.invariant_of-result
invariant_of-result c = as_number_of-bound _ _ (sym c.in-Some.ensures)

pub returns-in-Some : goal.returns-in-Some
returns-in-Some c = record {
  found = as_number_of-spelled _ _ (sym c.in-Some.ensures);
  only = λ n spelled. c.in-Some.ensures ∙ as_number_of-read _ n spelled;
  exact = c.in-Some.ensures;
}

pub returns-in-None : goal.returns-in-None
returns-in-None c = record {
  found = tt;
  only = λ n spelled. c.in-None.ensures ∙ as_number_of-read _ n spelled;
  exact = c.in-None.ensures;
}
