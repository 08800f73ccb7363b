use Rattle.rr_text.proofs.DraftLemmas.{unclosed_ended}
use Rattle.rr_text.proofs.draft.Draft.finish.Goals as goal

pub returns : goal.returns
returns c = λ text unclosed. unclosed_ended text _ _ _ unclosed c.end_line-closes.ensures
