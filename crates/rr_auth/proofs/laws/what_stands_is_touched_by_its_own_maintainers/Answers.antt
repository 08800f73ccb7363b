use Rattle.rr_auth.proofs.Refusing.{stored_names_decide}
use Rattle.rr_auth.proofs.laws.what_stands_is_touched_by_its_own_maintainers.Goals as goal

pub returns : goal.returns
returns c = stored_names_decide
