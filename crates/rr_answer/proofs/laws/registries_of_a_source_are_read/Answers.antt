use Rattle.rr_answer.proofs.Secrets.{sources_read}
use Rattle.rr_answer.proofs.laws.registries_of_a_source_are_read.Goals as goal

pub returns : goal.returns
returns c = sources_read
