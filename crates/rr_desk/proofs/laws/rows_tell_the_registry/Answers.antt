use Rattle.rr_desk.proofs.HistoryRows.{rows_tell}
use Rattle.rr_desk.proofs.laws.rows_tell_the_registry.Goals as goal

pub returns : goal.returns
returns c = rows_tell
