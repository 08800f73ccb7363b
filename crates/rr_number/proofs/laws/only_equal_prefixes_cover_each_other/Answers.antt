use Rattle.rr_number.proofs.PrefixSpans.{cover_each_other}
use Rattle.rr_number.proofs.laws.only_equal_prefixes_cover_each_other.Goals as goal

pub returns : goal.returns
returns c = cover_each_other
