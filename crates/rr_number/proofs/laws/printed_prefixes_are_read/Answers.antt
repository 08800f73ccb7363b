use Rattle.rr_number.proofs.PrefixLemmas.{IsPrefix-text}
use Rattle.rr_number.proofs.laws.printed_prefixes_are_read.Goals as goal

pub returns : goal.returns
returns c = IsPrefix-text
