use Rattle.rr_desk.proofs.DeskLaws.{rows_dumpable}
use Rattle.rr_desk.proofs.laws.rows_are_dumpable.Goals as goal

pub returns : goal.returns
returns c = rows_dumpable
