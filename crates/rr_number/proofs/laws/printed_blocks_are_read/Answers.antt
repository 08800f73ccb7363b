use Rattle.rr_number.proofs.AsSpanLemmas.{IsAsSpanText-text}
use Rattle.rr_number.proofs.laws.printed_blocks_are_read.Goals as goal

pub returns : goal.returns
returns c = IsAsSpanText-text
