use Rattle.rr_desk.proofs.DeskLaws.{full_dumps_load}
use Rattle.rr_desk.proofs.laws.full_dumps_are_loaded.Goals as goal

pub returns : goal.returns
returns c = full_dumps_load
