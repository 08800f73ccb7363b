use Rattle.rr_arguments.proofs.Named.{full_named}
use Rattle.rr_arguments.proofs.laws.full_is_named.Goals as goal

pub returns : goal.returns
returns c = full_named
