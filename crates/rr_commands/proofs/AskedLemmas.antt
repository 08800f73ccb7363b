-- Lemmas on the statuses of queries.
use Rattle.std.proofs.Common.{◌≡◌, ℕ, List, Result, Ok, Err, refl}
use Rattle.rr_answer.specs.declared.query_fault.QueryFault.{QueryFault}
use Rattle.rr_answer.specs.declared.query_fault.QueryFault.TheVariants.{Bad, TooLong, TooMany}
use Rattle.rr_answer.specs.declared.query_fault.QueryFault.TheVariants.{Memory}
use Rattle.rr_answer.specs.declared.query_fault.QueryFault.TheVariants.{Stopped}
use Rattle.rr_desk.specs.Answering.{told_number}
use Rattle.rr_commands.specs.Asked.{answer_status, error_status}

-- the number that is told of an answer has the answer's status
pub error_status-told : (answer : Result (List ℕ) QueryFault) → error_status (told_number answer)
    ≡ answer_status answer
error_status-told (Ok text) = refl
error_status-told (Err Bad) = refl
error_status-told (Err TooLong) = refl
error_status-told (Err TooMany) = refl
error_status-told (Err Memory) = refl
error_status-told (Err Stopped) = refl
