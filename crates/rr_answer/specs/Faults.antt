-- Why a query is not answered, as clients are told: for `QueryFault`.
use Rattle.std.specs.Prelude.{ℕ, ◌+◌, List, [], ◌∷◌, ◌++◌, codes}
use Rattle.rr_text.specs.CanonicalText.{ended}
use Rattle.rr_answer.specs.declared.query_fault.QueryFault.{QueryFault}
use Rattle.rr_answer.specs.declared.query_fault.QueryFault.TheVariants.{Bad, TooLong, TooMany}
use Rattle.rr_answer.specs.declared.query_fault.QueryFault.TheVariants.{Memory}
use Rattle.rr_answer.specs.declared.query_fault.QueryFault.TheVariants.{Stopped}

-- The number of an error; 5, which earlier versions gave, is none now (profile).
abbrev pub error_number : QueryFault → ℕ
error_number Bad = 1
error_number TooLong = 2
error_number TooMany = 3
error_number Memory = 4
error_number Stopped = 6

-- An error is answered as one line with its number, which has one digit (profile).
abbrev pub error_line : QueryFault → List ℕ
error_line fault = ended (codes "% error " ++ (48 + error_number fault) ∷ [])
