use Rattle.std.proofs.Common.{inr}
use Rattle.rr_http.proofs.AnswerLemmas.{answered_after}
use Rattle.rr_http.proofs.answering.give_answer.Goals as goal

pub returns-in-Ok : goal.returns-in-Ok
returns-in-Ok g c = inr (answered_after _ _ _ _ _ _ _ _ _ c.in-Ok.ensures
    c.write_answer.ensures)
