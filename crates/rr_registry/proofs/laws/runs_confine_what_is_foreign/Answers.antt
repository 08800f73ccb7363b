use Rattle.rr_registry.proofs.Confined.{runs_confine}
use Rattle.rr_registry.proofs.laws.runs_confine_what_is_foreign.Goals as goal

pub returns : goal.returns
returns c = runs_confine
