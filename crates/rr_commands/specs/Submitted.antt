-- What `irrdesk submit` does, and `irrdesk` without arguments, by how it ends, for the contracts of
-- `submit`, `plain` and what they call. What is said of rows holds where the disk gives back what
-- was written (profile).
use Rattle.std.specs.Prelude.{◌≡◌, ℕ, ◌==◌, ◌⊎◌, false, List, [], Result, Ok, Err, IfErr}
use Rattle.std.specs.Prelude.{codes, if◌then◌else◌}
use Rattle.sqlite_trees.specs.declared.store.Store.{Ghosts}
use Rattle.rr_io.specs.Told.{Told}
use Rattle.rr_submission.specs.declared.submission.Done.{Done}
use Rattle.rr_submission.specs.declared.submission.SubmissionFault.{SubmissionFault}
use Rattle.rr_submission.specs.declared.submission.SubmissionFault.TheVariants as desk
use Rattle.rr_submission.specs.Submissions.{UnlessLedgerStopped}
use Rattle.rr_desk.specs.Desks.{LeavesDesk, SubmitsTo}
use Rattle.rr_desk.specs.Opening.{IsOpeningRegistry}
use Rattle.rr_desk.specs.Settings.{built_in}
use Rattle.rr_desk.specs.declared.desk.Desk.{Desk}
use Rattle.rr_commands.specs.Causes.{stop_cause}
use Rattle.rr_commands.specs.Commands.{Act, ActsBySettings, AtDesk, CommandEnd, EndsAlike}
use Rattle.rr_commands.specs.Commands.{FailsSilently, IsUnopenedFile, ProgramEnd}
use Rattle.rr_commands.specs.Faults.{IsAbout}
use Rattle.rr_commands.specs.Files.{FileCalls}
use Rattle.rr_commands.specs.Worlds.{Deed, Ports, ended_by, within}
use Rattle.rr_commands.specs.declared.cause.DatabaseCause.{DatabaseCause}
use Rattle.rr_commands.specs.declared.trouble.Trouble.{Trouble}
use Rattle.rr_commands.specs.declared.trouble.Trouble.TheVariants.{Creating, Submission, Memory}

-- 0 where no item was refused, and else 1 (profile)
abbrev pub done_status : Done → ℕ
done_status done = if done.refused == 0 then 0 else 1

-- the status of a submission, or its fault, by the desk's result and why its database failed, if it
-- did (profile)
abbrev pub submission_end : Result Done SubmissionFault → DatabaseCause → CommandEnd
submission_end (Ok done) cause = Ok (done_status done)
submission_end (Err fault) cause = Err (Submission fault cause)

-- a submission was made to a desk, and its result is told, with why the database failed if it did.
-- The desk is left as a submission leaves it, and only a fault of the store stopped it (profile)
pub record HasSubmitted {S : Type 0} (g : Ghosts S) (reader_old reader_new : Told)
    (done : Deed (Desk S) CommandEnd) : Type 0 where
  pub result : Result Done SubmissionFault
  pub submits : SubmitsTo g done.before.has done.after.has reader_old reader_new
      done.before.output done.after.output result
  pub running : UnlessLedgerStopped result (done.after.has.stock.stopped ≡ false)
  pub told : done.ended ≡ submission_end result (stop_cause done.after.has.stock.cause)
  pub leaves : LeavesDesk g done.before.has done.after.has result

-- what is told of trouble without arguments: a database in memory fails only because memory ran
-- out, so that is told of its faults (profile)
abbrev pub plain_trouble : Trouble → Trouble
plain_trouble (Creating fault) = Memory
plain_trouble (Submission (desk.LedgerStopped items) cause) = Memory
plain_trouble (Submission desk.Stopped cause) = Memory
plain_trouble trouble = trouble

-- there is no desk, by trouble that is told as lack of memory, and nothing was read or printed
-- (profile)
pub record HasNoDesk (done : Deed Told CommandEnd) : Type 0 where
  pub trouble : Trouble
  pub told : done.ended ≡ Err trouble
  pub cause : plain_trouble trouble ≡ Memory
  pub unread : done.after ≡ done.before

-- a submission was made to a desk with the built-in settings, whose registry had their opening
-- objects and no others (profile)
pub record HasSubmittedPlain {S : Type 0} (g : Ghosts S) (done : Deed Told CommandEnd)
    : Type 0 where
  pub before : Desk S
  pub after : Desk S
  pub settings : before.settings ≡ built_in
  pub opened : IsOpeningRegistry built_in before.stock.registry
  pub submitted : HasSubmitted g done.before.has done.after.has (within before after done)

-- what the program does without arguments, by what standard input told before and after: there is
-- no desk, or a submission is made to a new one (profile)
abbrev pub RunsPlain : {S : Type 0} → Ghosts S → Deed Told CommandEnd → Type 0
RunsPlain g done = HasNoDesk done ⊎ HasSubmittedPlain g done

-- the file at this path was submitted to a desk: what its reader told when it was opened, and when
-- all was done (profile)
pub record SubmitsFile {S : Type 0} (g : Ghosts S) (files : FileCalls) (file : List ℕ)
    (done : Deed (Desk S) CommandEnd) : Type 0 where
  pub reader_old : Told
  pub reader_new : Told
  pub opened : files.opens file (Ok reader_old.bytes)
  pub submitted : HasSubmitted g reader_old reader_new done

-- what `irrdesk submit` does at a desk: its file is not opened and the desk stays as it was, or the
-- file is submitted (profile)
abbrev pub SubmitsDesk : {S : Type 0} → Ghosts S → FileCalls → List ℕ → Act (Desk S)
SubmitsDesk g files file done =
    (FailsSilently (IsUnopenedFile files file) done × (done.after.has ≡ done.before.has))
    ⊎ SubmitsFile g files file done

-- what `irrdesk submit` does. If its settings file gives no settings, or these open no desk,
-- nothing is printed, and the fault says why. Otherwise a file is submitted to the desk, or is not
-- opened (`SubmitsDesk`), and its database is closed. A fault shows the place of its trouble
-- (profile)
abbrev pub SubmitsBy : {D S : Type 0} → Ports D S → List ℕ → List ℕ → Deed D ProgramEnd → Type 0
SubmitsBy by file items = ActsBySettings by.files file (IsAbout items)
    (AtDesk by.stores (SubmitsDesk by.stores.store by.files items))

-- how a run without arguments ends (profile)
abbrev pub plain_end : CommandEnd → CommandEnd
plain_end (Ok status) = Ok status
plain_end (Err trouble) = Err (plain_trouble trouble)

-- what the program does without arguments, and how it ends: a fault shows standard input, standard
-- output or nothing (profile)
pub record EndsPlain {S : Type 0} (g : Ghosts S) (done : Deed Told ProgramEnd) : Type 0 where
  pub ended : CommandEnd
  pub runs : RunsPlain g (ended_by ended done)
  pub ends : EndsAlike (plain_end ended) done.ended
  pub about : IfErr done.ended (IsAbout (codes "standard input") [] [])
