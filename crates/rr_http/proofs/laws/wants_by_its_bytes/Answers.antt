use Rattle.rr_http.proofs.ToldLemmas.{wants_by_all}
use Rattle.rr_http.proofs.laws.wants_by_its_bytes.Goals as goal

pub returns : goal.returns
returns c = wants_by_all
