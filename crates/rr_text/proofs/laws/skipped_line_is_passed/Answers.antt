use Rattle.rr_text.proofs.EntryLemmas.{entries_passed}
use Rattle.rr_text.proofs.laws.skipped_line_is_passed.Goals as goal

pub returns : goal.returns
returns c = entries_passed
