use Rattle.rr_desk.proofs.HistoryRows.{bare_none}
use Rattle.rr_desk.proofs.laws.bare_trees_are_of_none.Goals as goal

pub returns : goal.returns
returns c = bare_none
