use Rattle.rr_desk.proofs.HistoryLemmas.{desks_stand}
use Rattle.rr_desk.proofs.laws.desks_stand.Goals as goal

pub returns : goal.returns
returns g c = desks_stand g.S.Store
