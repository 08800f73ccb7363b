use Rattle.rr_desk.proofs.DumpSources.{dumps_of_source}
use Rattle.rr_desk.proofs.dump_laws.dumps_are_of_their_source.Goals as goal

pub returns : goal.returns
returns c = dumps_of_source
