use Rattle.rr_desk.proofs.HistorySecrets.{histories_keep}
use Rattle.rr_desk.proofs.laws.histories_keep_secrets.Goals as goal

pub returns : goal.returns
returns c = histories_keep
