use Rattle.rr_number.proofs.NameLemmas.{name_of-upper_name, name_of-case, name_of-kept}
use Rattle.rr_number.proofs.laws.names_are_read_again.Goals as goal

pub returns : goal.returns
returns c = record { again = name_of-upper_name; case_ignored = name_of-case; kept = name_of-kept }
