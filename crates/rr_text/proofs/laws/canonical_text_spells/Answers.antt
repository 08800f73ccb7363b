use Rattle.rr_text.proofs.RoundTrip.{canonical_spells}
use Rattle.rr_text.proofs.laws.canonical_text_spells.Goals as goal

pub returns : goal.returns
returns c = canonical_spells
