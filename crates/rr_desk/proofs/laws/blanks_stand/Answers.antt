use Rattle.rr_desk.proofs.HistoryLemmas.{blanks_stand}
use Rattle.rr_desk.proofs.laws.blanks_stand.Goals as goal

pub returns : goal.returns
returns g c = blanks_stand g.S.Store
