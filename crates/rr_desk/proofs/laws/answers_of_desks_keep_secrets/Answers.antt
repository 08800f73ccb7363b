use Rattle.rr_desk.proofs.DeskSecrets.{desks_keep}
use Rattle.rr_desk.proofs.laws.answers_of_desks_keep_secrets.Goals as goal

pub returns : goal.returns
returns c = desks_keep
