use Rattle.rr_text.proofs.EntryLemmas.{entries_joined}
use Rattle.rr_text.proofs.laws.blank_line_joins.Goals as goal

pub returns : goal.returns
returns c = entries_joined
