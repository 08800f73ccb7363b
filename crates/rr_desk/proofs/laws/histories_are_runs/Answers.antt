use Rattle.rr_desk.proofs.HistoryLemmas.{histories_are_runs}
use Rattle.rr_desk.proofs.laws.histories_are_runs.Goals as goal

pub returns : goal.returns
returns g c = histories_are_runs g.S.Store
