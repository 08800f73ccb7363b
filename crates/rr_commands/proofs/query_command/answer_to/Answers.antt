use Rattle.std.proofs.Common.{◌∙◌, ap, refl}
use Rattle.rr_commands.specs.Asked.{error_status}
use Rattle.rr_commands.proofs.AskedLemmas.{error_status-told}
use Rattle.rr_commands.proofs.query_command.answer_to.Goals as goal

pub returns-in-Ok : goal.returns-in-Ok
returns-in-Ok g c =
    let made = c.in-Ok.ensures.answers in
    record {
      answer = made.answer;
      gives = made.answered;
      writes = made.writes;
      status = c.answered_status.ensures ∙ (ap error_status made.told ∙ error_status-told
          made.answer);
      trouble = tt;
      same = refl;
      keeps = c.in-Ok.ensures.keeps c.requires;
    }

pub returns-in-Err : goal.returns-in-Err
returns-in-Err g c =
    let made = c.in-Err.ensures.answers in
    record {
      answer = made.answer;
      gives = made.answered;
      writes = made.writes;
      status = tt;
      trouble = refl;
      same = refl;
      keeps = c.in-Err.ensures.keeps c.requires;
    }
