use Rattle.rr_answer.proofs.Secrets.{dumps_keep}
use Rattle.rr_answer.proofs.laws.public_dumps_keep_secrets.Goals as goal

pub returns : goal.returns
returns c = dumps_keep
