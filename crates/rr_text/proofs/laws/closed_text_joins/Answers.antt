use Rattle.rr_text.proofs.ApartLemmas.{joins}
use Rattle.rr_text.proofs.laws.closed_text_joins.Goals as goal

pub returns : goal.returns
returns c = joins
