use Rattle.rr_text.proofs.RoundTrip.{canonical_determines}
use Rattle.rr_text.proofs.laws.canonical_text_determines.Goals as goal

pub returns : goal.returns
returns c = canonical_determines
