use Rattle.rr_auth.proofs.Steps.{verdicts_are_met}
use Rattle.rr_auth.proofs.laws.verdicts_fit_their_items.Goals as goal

pub returns : goal.returns
returns c = verdicts_are_met
