-- What a desk answers to queries: for `Desk::answer` and the laws of it.
use Rattle.std.specs.Prelude.{◌≡◌, ◌⊎◌, ℕ, Bool, true, false, List, Result, Ok, Err, IfOk}
use Rattle.rr_io.specs.Sending.{Writes}
use Rattle.rr_io.specs.Told.{Told}
use Rattle.rr_auth.specs.Registries.{Reg}
use Rattle.rr_answer.specs.declared.query_fault.QueryFault.{QueryFault}
use Rattle.rr_answer.specs.declared.query_fault.QueryFault.TheVariants.{TooLong, Memory, Stopped}
use Rattle.rr_answer.specs.declared.found.Findings.{Findings}
use Rattle.rr_answer.specs.Answers.{IsAnswerTo, answer_bytes}
use Rattle.rr_answer.specs.Faults.{error_number}
use Rattle.rr_answer.specs.Founds.{found_text}
use Rattle.rr_answer.specs.Queries.{is_too_long}
use Rattle.rr_desk.specs.declared.desk_answering.Answered.{Answered}
use Rattle.rr_desk.specs.declared.desk_answering.WriteFault.{WriteFault}

-- what was found, or the error, as an answer
abbrev pub made_answer : Result Findings QueryFault → Result (List ℕ) QueryFault
made_answer (Ok found) = Ok (found_text found)
made_answer (Err fault) = Err fault

-- what is told of an answer: 0 of a text, and of an error its number (profile)
abbrev pub told_number : Result (List ℕ) QueryFault → ℕ
told_number (Ok text) = 0
told_number (Err fault) = error_number fault

-- a desk that runs gives the answer of its registry, or tells that there is no memory for it
-- (profile)
abbrev pub IsRunningAnswer : Reg → ℕ → List ℕ → Result (List ℕ) QueryFault → Type 0
IsRunningAnswer registry limit text answer =
    IsAnswerTo registry limit text answer ⊎ (answer ≡ Err Memory)

-- the answer to a query, by whether its text is too long and whether the desk is stopped:
-- `TooLong`, which comes first; `Stopped`; or what a desk that runs answers (profile)
abbrev pub IsAnswerWhere : Bool → Bool → Reg → ℕ → List ℕ → Result (List ℕ) QueryFault
    → Type 0
IsAnswerWhere true stopped registry limit text answer = answer ≡ Err TooLong
IsAnswerWhere false true registry limit text answer = answer ≡ Err Stopped
IsAnswerWhere false false registry limit text answer = IsRunningAnswer registry limit text answer

-- the answer of a desk to the text of a query, by its registry and limit, and whether it is stopped
-- (profile)
abbrev pub IsAnswered : Reg → ℕ → List ℕ → Bool → Result (List ℕ) QueryFault → Type 0
IsAnswered registry limit text stopped answer =
    IsAnswerWhere (is_too_long text) stopped registry limit text answer

-- the answer of a desk to the text of a query was written, and the number of its error is told; or
-- a write failed, and its beginning was written and not all (profile)
pub record Answers (registry : Reg) (limit : ℕ) (text : List ℕ) (stopped : Bool)
    (old new : Told) (result : Result Answered WriteFault) : Type 0 where
  pub answer : Result (List ℕ) QueryFault
  pub answered : IsAnswered registry limit text stopped answer
  pub writes : Writes old new (answer_bytes answer) result
  pub told : IfOk result (λ done. done.error ≡ told_number answer)
