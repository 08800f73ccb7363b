use Rattle.rr_desk.proofs.HistoryRuns.{histories_are_confined}
use Rattle.rr_desk.proofs.laws.histories_are_confined.Goals as goal

pub returns : goal.returns
returns c = histories_are_confined
