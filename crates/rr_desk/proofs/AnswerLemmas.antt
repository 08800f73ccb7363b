-- What a desk answers, by what its registry found.
use Rattle.std.proofs.Common.{◌≡◌, ◌≢◌, ℕ, Bool, true, false, List, Ok, Err, Result, inl, inr}
use Rattle.std.proofs.Common.{refl, sym, ap, subst}
use Rattle.std.specs.Prelude.{IfErr, IfOk}
use Rattle.rr_io.specs.Sending.{Writes}
use Rattle.rr_io.specs.Told.{Told}
use Rattle.rr_auth.specs.Registries.{Reg}
use Rattle.rr_answer.specs.declared.query_fault.QueryFault.{QueryFault}
use Rattle.rr_answer.specs.declared.query_fault.QueryFault.TheVariants.{Bad, TooLong, TooMany}
use Rattle.rr_answer.specs.declared.query_fault.QueryFault.TheVariants.{Memory}
use Rattle.rr_answer.specs.declared.query_fault.QueryFault.TheVariants.{Stopped}
use Rattle.rr_answer.specs.declared.found.Findings.{Findings}
use Rattle.rr_answer.specs.Answers.{IsAnswerTo, answer_bytes}
use Rattle.rr_answer.specs.Founds.{found_text}
use Rattle.rr_answer.specs.Queries.{is_too_long}
use Rattle.rr_desk.specs.declared.desk_answering.Answered.{Answered}
use Rattle.rr_desk.specs.declared.desk_answering.WriteFault.{WriteFault}
use Rattle.rr_desk.specs.Answering.{Answers, IsAnswered, IsAnswerWhere, IsRunningAnswer}
use Rattle.rr_desk.specs.Answering.{made_answer, told_number}

-- what a registry found is its answer, or memory ran out
registry_answers : (r : Reg) (limit : ℕ) (text : List ℕ) (found : Result Findings QueryFault) →
    IfOk found (λ f. IsAnswerTo r limit text (Ok (found_text f)))
    → IfErr found (λ fault. fault ≢ Memory → IsAnswerTo r limit text (Err fault)) →
    IsRunningAnswer r limit text (made_answer found)
registry_answers r limit text (Ok f) ok fault = inl ok
registry_answers r limit text (Err Memory) ok fault = inr refl
registry_answers r limit text (Err Bad) ok fault = inl (fault (λ same. cc))
registry_answers r limit text (Err TooLong) ok fault = inl (fault (λ same. cc))
registry_answers r limit text (Err TooMany) ok fault = inl (fault (λ same. cc))
registry_answers r limit text (Err Stopped) ok fault = inl (fault (λ same. cc))

-- so is what a desk that runs found, also of a text that is too long
pub running : (r : Reg) (limit : ℕ) (text : List ℕ) (stopped : Bool)
    (found : Result Findings QueryFault) → stopped ≡ false →
    IfOk found (λ f. IsAnswerTo r limit text (Ok (found_text f)))
    → IfErr found (λ fault. fault ≢ Memory → IsAnswerTo r limit text (Err fault)) →
    (is_too_long text ≡ true → found ≡ Err TooLong) → IsAnswered r limit text stopped
    (made_answer found)
running r limit text stopped found was ok fault long =
    subst (λ b. IsAnswerWhere (is_too_long text) b r limit text (made_answer found)) (sym was)
    (by_length (is_too_long text) refl) where
      by_length : (b : Bool) → is_too_long text ≡ b →
          IsAnswerWhere b false r limit text (made_answer found)
      by_length true too = ap made_answer (long too)
      by_length false short = registry_answers r limit text found ok fault

-- what was found was written
pub written : (r : Reg) (limit : ℕ) (text : List ℕ) (stopped : Bool)
    (found : Result Findings QueryFault) {old new : Told} {result : Result Answered WriteFault} →
    IsAnswered r limit text stopped (made_answer found)
    → Writes old new (answer_bytes (made_answer found)) result →
    IfOk result (λ done. done.error ≡ told_number (made_answer found)) → Answers r limit text
    stopped old new result
written r limit text stopped found answered writes told =
    record { answer = made_answer found; answered = answered; writes = writes; told = told }
