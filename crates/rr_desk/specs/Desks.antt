-- What submissions and queries do to a desk (profile): for `Desk::submit`, `Desk::answer` and what
-- serves a desk.
use Rattle.std.specs.Prelude.{◌≡◌, ℕ, false, List, Result}
use Rattle.sqlite_trees.specs.declared.store.Store.{Ghosts}
use Rattle.sqlite.specs.Held.{state}
use Rattle.sqlite.specs.State.{State}
use Rattle.rr_io.specs.Told.{Told}
use Rattle.rr_auth.specs.Sources.{IsRegistryOf}
use Rattle.rr_submission.specs.Submissions.{SubmitsText, UnlessLedgerStopped}
use Rattle.rr_submission.specs.declared.submission.SubmissionFault.{SubmissionFault}
use Rattle.rr_submission.specs.declared.submission.Done.{Done}
use Rattle.rr_answer.specs.declared.query_fault.QueryFault.{QueryFault}
use Rattle.rr_desk.specs.declared.desk_answering.Answered.{Answered}
use Rattle.rr_desk.specs.declared.desk_answering.WriteFault.{WriteFault}
use Rattle.rr_desk.specs.declared.desk.Desk.{Desk}
use Rattle.rr_desk.specs.Answering.{Answers, IsAnswered}
use Rattle.rr_desk.specs.Stocks.{DatabaseLasts, StoresUntilStopped, stock_ledger}

-- what is told of the database of a desk
abbrev pub desk_state : {S : Type 0} → Ghosts S → Desk S → State
desk_state g desk = state g desk.stock.store

-- the registry of a desk is of its settings' source
abbrev pub IsOfItsSource : {S : Type 0} → Desk S → Type 0
IsOfItsSource desk = IsRegistryOf desk.settings.source desk.stock.registry

-- what a submission does to a desk that runs, and to its reader and its writer, by its answer
abbrev pub SubmitsTo : {S : Type 0} → Ghosts S → Desk S → Desk S → Told → Told → Told
    → Told
    → Result Done SubmissionFault → Type 0
SubmitsTo g old new reader_old reader_new writer_old writer_new result =
    SubmitsText (stock_ledger g) old.stock new.stock old.settings.source reader_old reader_new
    writer_old writer_new result

-- what a submission leaves of a desk: only a fault of the store stops it, and until it is stopped,
-- its rows are those of its registry. A registry of its settings' source stays one of it. What is
-- to last of its database lasts, and its settings stay (profile)
pub record LeavesDesk {S : Type 0} (g : Ghosts S) (old new : Desk S)
    (result : Result Done SubmissionFault) : Type 0 where
  pub runs_on : old.stock.stopped ≡ false
      → UnlessLedgerStopped result (new.stock.stopped ≡ false)
  pub rows : StoresUntilStopped g new.stock
  pub of_source : IsOfItsSource old → IsOfItsSource new
  pub lasts : DatabaseLasts (desk_state g old) (desk_state g new)
  pub settings : new.settings ≡ old.settings

-- the answer of a desk to the text of a query
abbrev pub GivesAnswer : {S : Type 0} → Desk S → List ℕ → Result (List ℕ) QueryFault → Type 0
GivesAnswer desk text answer =
    IsAnswered desk.stock.registry desk.settings.limit text desk.stock.stopped answer

-- the answer of a desk to the text of a query is written, or where a write failed its beginning and
-- not all (`Answers`)
abbrev pub WritesAnswer : {S : Type 0} → Desk S → List ℕ → Told → Told
    → Result Answered WriteFault → Type 0
WritesAnswer desk text old new result =
    Answers desk.stock.registry desk.settings.limit text desk.stock.stopped old new result
