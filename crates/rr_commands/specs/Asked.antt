-- What `irrdesk query` does, for the contracts of `query` and `answer_to` (profile).
use Rattle.std.specs.Prelude.{◌≡◌, ℕ, ◌==◌, List, Result, Ok, Err, IfErr, IfOk}
use Rattle.std.specs.Prelude.{if◌then◌else◌}
use Rattle.sqlite_trees.specs.declared.store.Store.{Ghosts}
use Rattle.rr_io.specs.Sending.{Writes}
use Rattle.rr_answer.specs.declared.query_fault.QueryFault.{QueryFault}
use Rattle.rr_answer.specs.Answers.{answer_bytes}
use Rattle.rr_desk.specs.Desks.{GivesAnswer, desk_state}
use Rattle.rr_desk.specs.Rows.{KeepsRows}
use Rattle.rr_desk.specs.declared.desk.Desk.{Desk}
use Rattle.rr_commands.specs.Commands.{ActsBySettings, AtDesk, CommandEnd, ProgramEnd}
use Rattle.rr_commands.specs.Faults.{IsAbout}
use Rattle.rr_commands.specs.Worlds.{Deed, Ports}
use Rattle.rr_commands.specs.declared.trouble.Trouble.TheVariants.{Unwritten}

-- 0 where no error was written, and else 1, by the number of the error (profile)
abbrev pub error_status : ℕ → ℕ
error_status number = if number == 0 then 0 else 1

-- 0 of an answer, and 1 of an error (profile)
abbrev pub answer_status : Result (List ℕ) QueryFault → ℕ
answer_status (Ok text) = 0
answer_status (Err fault) = 1

-- a desk was asked: its answer was printed, and the status says whether it is an error; or only its
-- beginning was, and a write failed. Nothing of the desk changes. Where the disk gives back what
-- was written, its rows stay those of its registry while its database is open, and a stop of the
-- process leaves these (profile)
pub record HasAsked {S : Type 0} (g : Ghosts S) (text : List ℕ) (done : Deed (Desk S) CommandEnd)
    : Type 0 where
  pub answer : Result (List ℕ) QueryFault
  pub gives : GivesAnswer done.before.has text answer
  pub writes : Writes done.before.output done.after.output (answer_bytes answer) done.ended
  pub status : IfOk done.ended (λ status. status ≡ answer_status answer)
  pub trouble : IfErr done.ended (λ trouble. trouble ≡ Unwritten)
  pub same : done.after.has ≡ done.before.has
  pub keeps : KeepsRows done.before.has.stock.registry (desk_state g done.after.has)

-- what `irrdesk query` does. If its settings file gives no settings, or these open no desk, nothing
-- is printed, and the fault says why. Otherwise the desk is asked (`HasAsked`), and its database is
-- closed. A fault shows the place of its trouble (profile)
abbrev pub AsksBy : {D S : Type 0} → Ports D S → List ℕ → List ℕ → Deed D ProgramEnd → Type 0
AsksBy by file text =
    ActsBySettings by.files file (IsAbout file) (AtDesk by.stores (HasAsked by.stores.store text))
