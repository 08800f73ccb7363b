use Rattle.rr_registry.proofs.Running.{run_stays_of_source}
use Rattle.rr_registry.proofs.laws.runs_stay_of_their_source.Goals as goal

pub returns : goal.returns
returns c = run_stays_of_source
