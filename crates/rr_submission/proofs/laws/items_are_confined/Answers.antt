use Rattle.rr_submission.proofs.Confining.{items_are_confined}
use Rattle.rr_submission.proofs.laws.items_are_confined.Goals as goal

pub returns : goal.returns
returns c = items_are_confined
