-- What is answered to a query: for `find_for`, and for desks, which answer with the same bytes.
use Rattle.std.specs.Prelude.{◌≡◌, ℕ, List, Result, Ok, Err}
use Rattle.std.specs.Ordering.{nat_cmp}
use Rattle.rr_auth.specs.Registries.{Reg}
use Rattle.rr_number.specs.Applied.{range_text}
use Rattle.rr_number.specs.AsNumbers.{as_number_text}
use Rattle.rr_number.specs.Ranges.{range_cmp}
use Rattle.rr_number.specs.SetNames.{kind_of}
use Rattle.rr_number.specs.declared.set_kind.SetKind.{SetKind}
use Rattle.rr_number.specs.declared.set_kind.SetKind.TheVariants as kinds
use Rattle.rr_answer.specs.declared.query_fault.QueryFault.{QueryFault}
use Rattle.rr_answer.specs.declared.query.Query.{Query}
use Rattle.rr_answer.specs.declared.query.Query.TheVariants.{Object, Exact, Closest, Less, More}
use Rattle.rr_answer.specs.declared.query.Query.TheVariants.{Naming, Originated, Expand, Prefixes}
use Rattle.rr_sets.specs.SetMeanings.{as_set_at, route_set_at}
use Rattle.rr_answer.specs.Expansions.{IsExpansion}
use Rattle.rr_answer.specs.Faults.{error_line}
use Rattle.rr_answer.specs.Queries.{query_of}
use Rattle.rr_answer.specs.Selections.{asked}
use Rattle.rr_answer.specs.Texts.{objects_text}

-- The answer lists the AS numbers of an as-set and then the missing names, both in ascending order,
-- one a line. It says so if there is no such set, and is an error if the expansion is over the
-- limit (profile).
abbrev pub IsNumberAnswer : Reg → ℕ → List ℕ → Result (List ℕ) QueryFault → Type 0
IsNumberAnswer r limit name answer =
    IsExpansion nat_cmp as_number_text (as_set_at r limit name) answer

-- The answer lists the ranges of a set of either kind and then the missing names, both in ascending
-- order, one a line. It says so if there is no such set, and is an error if the expansion is over
-- the limit (profile).
abbrev pub IsRangeAnswer : Reg → ℕ → List ℕ → Result (List ℕ) QueryFault → Type 0
IsRangeAnswer r limit name answer =
    IsExpansion range_cmp range_text (route_set_at r limit name) answer

-- A set is expanded by its kind: an as-set into AS numbers, a route-set into ranges (RFC 2622, 5).
abbrev pub IsExpanded : SetKind → Reg → ℕ → List ℕ → Result (List ℕ) QueryFault
    → Type 0
IsExpanded kinds.AsSet r limit name answer = IsNumberAnswer r limit name answer
IsExpanded kinds.RouteSet r limit name answer = IsRangeAnswer r limit name answer

-- The answer is the text of the objects that a query asks for, or of an expansion. It says so if
-- there is no such set, and is an error if the expansion is over the limit (profile).
abbrev pub IsAnswer : Reg → ℕ → Query → Result (List ℕ) QueryFault → Type 0
IsAnswer r limit (Expand name) answer = IsExpanded (kind_of name) r limit name answer
IsAnswer r limit (Prefixes name) answer = IsRangeAnswer r limit name answer
IsAnswer r limit (Object key) answer = answer ≡ Ok (objects_text (asked (Object key) r))
IsAnswer r limit (Exact prefix) answer = answer ≡ Ok (objects_text (asked (Exact prefix) r))
IsAnswer r limit (Closest prefix) answer = answer ≡ Ok (objects_text (asked (Closest prefix) r))
IsAnswer r limit (Less prefix) answer = answer ≡ Ok (objects_text (asked (Less prefix) r))
IsAnswer r limit (More prefix) answer = answer ≡ Ok (objects_text (asked (More prefix) r))
IsAnswer r limit (Naming name) answer = answer ≡ Ok (objects_text (asked (Naming name) r))
IsAnswer r limit (Originated number) answer =
    answer ≡ Ok (objects_text (asked (Originated number) r))

-- The answer to what a text was read as: the query's, or the error that it is none (profile).
abbrev pub IsAnswerOf : Reg → ℕ → Result Query QueryFault → Result (List ℕ) QueryFault
    → Type 0
IsAnswerOf r limit (Ok query) answer = IsAnswer r limit query answer
IsAnswerOf r limit (Err fault) answer = answer ≡ Err fault

-- The answer to the text of a query (profile).
abbrev pub IsAnswerTo : Reg → ℕ → List ℕ → Result (List ℕ) QueryFault → Type 0
IsAnswerTo r limit text answer = IsAnswerOf r limit (query_of text) answer

-- The bytes of an answer: its text, or the line of the error (profile).
abbrev pub answer_bytes : Result (List ℕ) QueryFault → List ℕ
answer_bytes (Ok text) = text
answer_bytes (Err fault) = error_line fault
