use Rattle.rr_number.proofs.AsNumberLemmas.{IsAsNumber-printed, as_number_of-printed}
use Rattle.rr_number.proofs.laws.as_numbers_are_read_again.Goals as goal

pub returns : goal.returns
returns c = record { spelled = IsAsNumber-printed; again = as_number_of-printed }
