use Rattle.std.proofs.Common.{refl}
use Rattle.std.proofs.lemmas.Result.{err_from_is_err_and}
use Rattle.rr_answer.specs.Answers.{answer_bytes}
use Rattle.rr_http.proofs.desk_registrar.DeskRegistrar.answer.Goals as goal

pub returns : goal.returns
returns g c =
    let made = c.in_ok-answer.ensures.answers in record {
      text = answer_bytes made.answer;
      answers = record {
        answer = made.answer;
        answered = made.answered;
        is = refl;
        same = refl;
        keeps = c.answer.ensures.keeps;
      };
      writes = made.writes;
    }

pub returns-in_err-answer : goal.returns-in_err-answer
returns-in_err-answer g c =
    let exit = err_from_is_err_and c.from_residual.result c.from_residual.ensures.1 in
    let made = c.in_err-answer.ensures.answers in
    rw (exit.1, exit.2) (record {
      text = answer_bytes made.answer;
      answers = record {
        answer = made.answer;
        answered = made.answered;
        is = refl;
        same = refl;
        keeps = c.answer.ensures.keeps;
      };
      writes = made.writes;
    })
