-- What is done to one database by desks over it, and by the stops between them (profile): for
-- histories.
use Rattle.std.specs.Prelude.{ℕ, Bool, List, Result}
use Rattle.rr_io.specs.Told.{Told}
use Rattle.rr_auth.specs.Registries.{Reg}
use Rattle.rr_store.specs.declared.store_fault.MigrateFault.{MigrateFault}
use Rattle.rr_store.specs.declared.store_fault.OpenFault.{OpenFault}
use Rattle.rr_submission.specs.declared.submission.SubmissionFault.{SubmissionFault}
use Rattle.rr_submission.specs.declared.submission.SubmissionFault.TheVariants as fault
use Rattle.rr_submission.specs.declared.submission.Done.{Done}
use Rattle.rr_desk.specs.Loaded.{IsLoaded}
use Rattle.rr_desk.specs.Opening.{IsOpeningRegistry}
use Rattle.rr_desk.specs.Settings.{SettingsParts}
use Rattle.std.specs.Prelude.{Ok, Err}

-- how a registry is made: of settings, or of a dump in a source, by what its reader told before and
-- after it was read
pub data Making : Type 0 where
  of_settings : SettingsParts → Making
  of_dump : List ℕ → Told → Told → Making

-- a registry is what is made so
abbrev pub IsMadeBy : Making → Reg → Type 0
IsMadeBy (of_settings by) r = IsOpeningRegistry by r
IsMadeBy (of_dump source start now) r = IsLoaded source start now r

-- one thing that was done to a database
pub data Event : Type 0 where
  -- a submission: what its reader told before and after it, what its writer did, and its answer
  submitted : Told → Told → Told → Told → Result Done SubmissionFault → Event
  -- the text of a query, and the bytes of its answer, whole
  asked : List ℕ → List ℕ → Event
  -- a dump, full or public, and its bytes, whole
  dumped : Bool → List ℕ → Event
  -- a desk was closed; one was opened by settings; or none was, for this fault
  closed : Event
  opened : SettingsParts → Event
  unopened : SettingsParts → OpenFault → Event
  -- a registry was made so, with a desk by settings; or none was
  made : SettingsParts → Making → Event
  unmade : Making → Event
  -- tables of version 1 were migrated by settings; or they were not, for this fault
  migrated : SettingsParts → Event
  unmigrated : SettingsParts → MigrateFault → Event
  -- the process or the machine stopped, and the database was found again
  stopped : Event

-- how many items the answer to a submission counts; none where memory ran out before the first, or
-- where the desk had stopped
abbrev pub counted : Result Done SubmissionFault → ℕ
counted (Ok done) = done.items
counted (Err (fault.ReadFault items)) = items
counted (Err (fault.WriteFault items)) = items
counted (Err (fault.LedgerStopped items)) = items
counted (Err fault.Memory) = 0
counted (Err fault.Stopped) = 0
