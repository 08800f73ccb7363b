-- Desks whose registries look alike answer alike.
use Rattle.std.proofs.Common.{◌≡◌, ◌≢◌, ℕ, Bool, true, false, List, Result, Err, inl, inr, sym, ◌∙◌}
use Rattle.rr_auth.specs.Registries.{Reg}
use Rattle.rr_answer.specs.declared.query_fault.QueryFault.{QueryFault}
use Rattle.rr_answer.specs.declared.query_fault.QueryFault.TheVariants.{Memory}
use Rattle.rr_answer.specs.Answers.{IsAnswerTo}
use Rattle.rr_answer.specs.Queries.{is_too_long}
use Rattle.rr_answer.specs.Secrecy.{IsRead, LookAlike}
use Rattle.rr_answer.proofs.Secrets.{answers_keep}
use Rattle.rr_desk.specs.Answering.{IsAnswerWhere, IsRunningAnswer}
use Rattle.rr_desk.specs.Laws.{DesksKeepSecrets}

-- where memory did not run out, what a desk that runs answers is the answer of its registry
of_registry : (r : Reg) (limit : ℕ) (text : List ℕ) (answer : Result (List ℕ) QueryFault) →
    IsRunningAnswer r limit text answer → answer ≢ Err Memory → IsAnswerTo r limit text answer
of_registry r limit text answer (inl told) free = told
of_registry r limit text answer (inr wants) free = absurd (free wants)

module _ (r s : Reg) (read_r : IsRead r) (read_s : IsRead s) (alike : LookAlike r s) (limit : ℕ)
    (text : List ℕ) (answer other : Result (List ℕ) QueryFault) (free : answer ≢ Err Memory)
    (other_free : other ≢ Err Memory) where
  answered_alike : (long stopped : Bool) → IsAnswerWhere long stopped r limit text answer →
      IsAnswerWhere long stopped s limit text other → answer ≡ other
  answered_alike true stopped first second = first ∙ sym second
  answered_alike false true first second = first ∙ sym second
  answered_alike false false first second =
      answers_keep r s read_r read_s alike limit text answer other
      (of_registry r limit text answer first free) (of_registry s limit text other second
      other_free)

pub desks_keep : DesksKeepSecrets
desks_keep r s read_r read_s alike limit text stopped answer other first second free other_free =
    answered_alike r s read_r read_s alike limit text answer other free other_free
    (is_too_long text) stopped first second
