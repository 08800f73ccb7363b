use Rattle.rr_submission.proofs.Keeping.{items_keep_the_source}
use Rattle.rr_submission.proofs.laws.items_keep_the_source.Goals as goal

pub returns : goal.returns
returns c = items_keep_the_source
