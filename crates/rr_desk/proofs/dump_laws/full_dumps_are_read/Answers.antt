use Rattle.rr_desk.proofs.ReadAgain.{full_dumps_read}
use Rattle.rr_desk.proofs.dump_laws.full_dumps_are_read.Goals as goal

pub returns : goal.returns
returns c = full_dumps_read
