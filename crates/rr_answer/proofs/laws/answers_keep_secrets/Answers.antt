use Rattle.rr_answer.proofs.Secrets.{answers_keep}
use Rattle.rr_answer.proofs.laws.answers_keep_secrets.Goals as goal

pub returns : goal.returns
returns c = answers_keep
