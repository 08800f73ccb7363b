use Rattle.rr_http.proofs.ToldLemmas.{body_after}
use Rattle.rr_http.proofs.laws.body_follows_its_head.Goals as goal

pub returns : goal.returns
returns c = body_after
