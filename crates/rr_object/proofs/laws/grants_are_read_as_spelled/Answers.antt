use Rattle.rr_object.proofs.GrantSpellings.{read_grants_are_spelled, spelled_grants_are_read}
use Rattle.rr_object.proofs.laws.grants_are_read_as_spelled.Goals as goal

pub returns-clause-read : goal.returns-clause-read
returns-clause-read c = read_grants_are_spelled

pub returns-clause-spelled : goal.returns-clause-spelled
returns-clause-spelled c = spelled_grants_are_read
