use Rattle.rr_desk.proofs.HistoryPrefixes.{reported_is_kept}
use Rattle.rr_desk.proofs.laws.reported_is_kept.Goals as goal

pub returns : goal.returns
returns c = reported_is_kept
