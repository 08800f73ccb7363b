use Rattle.rr_auth.proofs.Steps.{stays_of_source}
use Rattle.rr_auth.proofs.laws.registries_stay_of_their_source.Goals as goal

pub returns : goal.returns
returns c = stays_of_source
