use Rattle.rr_http.proofs.WantLemmas.{wants_kept}
use Rattle.rr_http.proofs.laws.wants_by_its_head.Goals as goal

pub returns : goal.returns
returns c = wants_kept
