use Rattle.rr_number.proofs.PrefixSpans.{covers_longer}
use Rattle.rr_number.proofs.laws.prefixes_cover_longer_ones.Goals as goal

pub returns : goal.returns
returns c = covers_longer
