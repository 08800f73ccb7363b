use Rattle.rr_text.proofs.RoundTrip.{canonical_leads}
use Rattle.rr_text.proofs.laws.canonical_text_leads.Goals as goal

pub returns : goal.returns
returns c = canonical_leads
