use Rattle.rr_desk.proofs.HistoryRows.{trees_tell}
use Rattle.rr_desk.proofs.laws.trees_tell_the_registry.Goals as goal

pub returns : goal.returns
returns c = trees_tell
