-- What commands do that read settings from a file and use the database that these name, by how they
-- end. The contracts of all such commands need it, also of `serve` and `probe` in `rr_cli`. What is
-- said of rows holds where the disk gives back what was written (profile).
use Rattle.std.specs.Prelude.{◌≡◌, ◌≤◌, ◌+◌, ◌<◌, ◌⊎◌, ℕ, false, List, [], length, take, IfErr}
use Rattle.std.specs.Prelude.{Bool, IfSome, IsTrue, Option, Result, Ok, Err}
use Rattle.std.specs.IoError.{error_kind, raw_os_error}
use Rattle.std.specs.declared.io.Error.{Error}
use Rattle.std.specs.declared.io.ErrorKind.TheVariants.{OutOfMemory}
use Rattle.sqlite_trees.specs.declared.store.Store.{Ghosts}
use Rattle.sqlite.specs.Held.{Held, state}
use Rattle.rr_store.specs.declared.store_fault.OpenFault.{OpenFault}
use Rattle.rr_desk.specs.declared.desk.Desk.{Desk}
use Rattle.rr_desk.specs.Opened.{FailsToOpenTables, IsRunning, OpensTables}
use Rattle.rr_desk.specs.Rows.{CommitsNothing}
use Rattle.rr_desk.specs.Settings.{SettingsParts}
use Rattle.rr_commands.specs.Causes.{system_cause}
use Rattle.rr_commands.specs.Databases.{DatabaseCalls}
use Rattle.rr_commands.specs.Faults.{ShowsOnLine, place_on_line}
use Rattle.rr_commands.specs.Files.{FileCalls}
use Rattle.rr_commands.specs.Found.{IsToldUnopened}
use Rattle.rr_commands.specs.SettingsFiles.{AreNoSettings, settings_of_text}
use Rattle.rr_commands.specs.Worlds.{Deed, Named, StoreCalls, ended_by, within}
use Rattle.rr_commands.specs.declared.cause.Cause.{Cause}
use Rattle.rr_commands.specs.declared.cause.Cause.TheVariants as cause
use Rattle.rr_commands.specs.declared.cause.DatabaseCause.{DatabaseCause}
use Rattle.rr_commands.specs.declared.registry_databases.Absent.{Absent}
use Rattle.rr_commands.specs.declared.registry_databases.Absent.TheVariants.{Refused}
use Rattle.rr_commands.specs.declared.command_fault.ProgramFault.{ProgramFault}
use Rattle.rr_commands.specs.declared.settings_reading.TheConstants.{MOST_BYTES}
use Rattle.rr_commands.specs.declared.trouble.TroublePlace.TheVariants as place
use Rattle.rr_commands.specs.declared.trouble.Trouble.{Trouble}
use Rattle.rr_commands.specs.declared.trouble.Trouble.TheVariants as trouble

-- how a command ends: with a status, or by what went wrong (profile)
abbrev pub CommandEnd : Type 0
CommandEnd = Result ℕ Trouble

-- how the program ends: with a status, or by a fault (profile)
abbrev pub ProgramEnd : Type 0
ProgramEnd = Result ℕ ProgramFault

-- what a command does by what its settings name (profile)
abbrev pub Action : Type 0 → Type 1
Action D = Named → Deed D CommandEnd → Type 0

-- what a command does at a desk, or in a database through a connection (profile)
abbrev pub Act : Type 0 → Type 1
Act X = Deed X CommandEnd → Type 0

-- what a fault of a command shows, by the path of its database and what was found in that (profile)
abbrev pub Showing : Type 1
Showing = List ℕ → List ℕ → ProgramFault → Type 0

-- how a command ends and how the program does: with the same status, or by a fault with the same
-- trouble (profile)
abbrev pub EndsAlike : CommandEnd → ProgramEnd → Type 0
EndsAlike (Ok status) (Ok ended) = ended ≡ status
EndsAlike (Err trouble) (Err fault) = fault.trouble ≡ trouble
EndsAlike (Ok status) (Err fault) = ⊥
EndsAlike (Err trouble) (Ok ended) = ⊥

-- the cause of an error of the system (profile)
abbrev pub cause_of : Error → Cause
cause_of error = system_cause (error_kind error) (raw_os_error error)

-- what is told of settings that cannot be read for this cause: that memory ran out if it is that,
-- and else the cause (profile)
abbrev pub unread_trouble : Cause → Trouble
unread_trouble cause.Memory = trouble.Memory
unread_trouble cause = trouble.SettingsUnread cause

-- what is told of a file that cannot be opened for this cause: that memory ran out if it is that,
-- and else the cause (profile)
abbrev pub unopened_trouble : Cause → Trouble
unopened_trouble cause.Memory = trouble.Memory
unopened_trouble cause = trouble.FileUnopened cause

-- the file at this path was opened. If it tells its bytes, these are the first of them, up to one
-- more than a settings file may have (profile)
pub record ReadsFile (files : FileCalls) (file text : List ℕ) : Type 0 where
  pub given : Option (List ℕ)
  pub opened : files.opens file (Ok given)
  pub part : IfSome given (λ bytes. text ≡ take (MOST_BYTES + 1) bytes)

-- the bytes of the file at this path are no settings, and this is why (profile)
pub record RefusesFile (files : FileCalls) (file : List ℕ) (trouble : Trouble) : Type 0 where
  pub text : List ℕ
  pub read : ReadsFile files file text
  pub why : AreNoSettings text trouble

-- the file at this path was opened and closed; a read of it had failed, or the error is that memory
-- ran out (profile)
pub record BreaksFile (files : FileCalls) (file : List ℕ) (error : Error) : Type 0 where
  pub given : Option (List ℕ)
  pub opened : files.opens file (Ok given)
  pub failed : ℕ
  pub closed : files.closes file failed
  pub why : (0 < failed) ⊎ (error_kind error ≡ OutOfMemory)

-- the file at this path was not read: it was refused by this error, or a read of it failed, or
-- memory ran out (profile)
abbrev pub IsNotRead : FileCalls → List ℕ → Error → Type 0
IsNotRead files file error = files.opens file (Err error) ⊎ BreaksFile files file error

-- the settings in the file at this path cannot be read, and the trouble is why (profile)
pub record IsUnreadFile (files : FileCalls) (file : List ℕ) (told : Trouble) : Type 0 where
  pub error : Error
  pub fails : IsNotRead files file error
  pub is_told : told ≡ unread_trouble (cause_of error)

-- why the file at this path gives no settings: it cannot be read, or its bytes are none (profile)
abbrev pub GivesNoSettings : FileCalls → List ℕ → Trouble → Type 0
GivesNoSettings files file trouble =
    IsUnreadFile files file trouble ⊎ RefusesFile files file trouble

-- there are no settings, the fault names their file, no database was opened or closed, and nothing
-- was printed (profile)
pub record HasNoSettings {D : Type 0} (files : FileCalls) (file : List ℕ)
    (done : Deed D ProgramEnd) : Type 0 where
  pub fault : ProgramFault
  pub told : done.ended ≡ Err fault
  pub cause : GivesNoSettings files file fault.trouble
  pub about : ShowsOnLine (place_on_line place.File file []) fault
  pub untouched : done.after.has ≡ done.before.has
  pub silent : done.after.output ≡ done.before.output

-- the settings and the path of the database are those of the file at this path. It is no longer
-- than such a file may be, and so was read to its end (profile)
pub record HasSettings (files : FileCalls) (file : List ℕ) (names : Named) : Type 0 where
  pub text : List ℕ
  pub read : ReadsFile files file text
  pub short : length text ≤ MOST_BYTES
  pub says : settings_of_text text ≡ Ok (names.settings, names.path)

-- a file has settings and the path of a database, a command did what it does by these, and the
-- program ends so. Its fault shows what it is about (profile)
pub record HasActed {D : Type 0} (files : FileCalls) (file : List ℕ) (shows : Showing)
    (does : Action D) (done : Deed D ProgramEnd) : Type 0 where
  pub names : Named
  pub read : HasSettings files file names
  pub ended : CommandEnd
  pub did : does names (ended_by ended done)
  pub ends : EndsAlike ended done.ended
  pub found : List ℕ
  pub about : IfErr done.ended (shows names.path found)

-- what a command does that reads its settings from the file at this path first (profile)
abbrev pub ActsBySettings : {D : Type 0} → FileCalls → List ℕ → Showing → Action D
    → Deed D ProgramEnd → Type 0
ActsBySettings files file shows does done =
    HasNoSettings files file done ⊎ HasActed files file shows does done

-- a look at a database for a message, from one connection to the next, which is in no transaction:
-- nothing was committed (profile)
pub record LooksAt {S : Type 0} (g : Ghosts S) (before after : Held S) : Type 0 where
  pub autocommit : after.in_transaction ≡ false
  pub only : CommitsNothing (state g before) (state g after)

-- a look at a database found nothing, or trouble or a version of this kind (profile)
pub record Finds {S X : Type 0} (g : Ghosts S) (is_kind : X → Bool) (before after : Held S)
    (found : Option X) : Type 0 where
  pub looks : LooksAt g before after
  pub kind : IfSome found (λ it. IsTrue (is_kind it))

-- the tables of a database were not opened for this fault; what is told is that, or what a look at
-- the database may find, which commits nothing (profile)
pub record FailsToOpenDesk {S : Type 0} (g : Ghosts S) (source : List ℕ) (conn after : Held S)
    (trouble : Trouble) : Type 0 where
  pub left : Held S
  pub fault : OpenFault
  pub fails : FailsToOpenTables g source conn left fault
  pub looks : LooksAt g left after
  pub cause : IsToldUnopened fault trouble

-- the database at a path was refused, and the trouble is why (profile)
pub record IsNotGiven {D S : Type 0} (calls : DatabaseCalls D S) (path : List ℕ)
    (absent : Absent) (start end : D) (told : Trouble) : Type 0 where
  pub cause : DatabaseCause
  pub refused : calls.opens path absent (Err cause) start end
  pub is_told : told ≡ trouble.Database cause

-- a database was given, and its registry was not opened, for which the trouble is why; as a look at
-- it left the database, it was closed (profile)
pub record IsRefused {D S : Type 0} (by : StoreCalls D S) (names : Named) (start end : D)
    (trouble : Trouble) : Type 0 where
  pub conn : Held S
  pub after : Held S
  pub between : D
  pub given : by.databases.opens names.path Refused (Ok conn) start between
  pub fails : FailsToOpenDesk by.store names.settings.source conn after trouble
  pub closed : by.databases.closes after between end

-- why no desk is opened: no database was given, or the one that was is refused (profile)
abbrev pub OpensNoDesk : {D S : Type 0} → StoreCalls D S → Named → D → D → Trouble → Type 0
OpensNoDesk by names start end trouble =
    IsNotGiven by.databases names.path Refused start end trouble
    ⊎ IsRefused by names start end trouble

-- a command ended by trouble of which this is true, and printed nothing (profile)
pub record FailsSilently {X : Type 0} (why : Trouble → Type 0) (done : Deed X CommandEnd)
    : Type 0 where
  pub trouble : Trouble
  pub told : done.ended ≡ Err trouble
  pub cause : why trouble
  pub silent : done.after.output ≡ done.before.output

-- the file at this path was refused, and the trouble is why (profile)
pub record IsUnopenedFile (files : FileCalls) (file : List ℕ) (told : Trouble) : Type 0 where
  pub error : Error
  pub refused : files.opens file (Err error)
  pub is_told : told ≡ unopened_trouble (cause_of error)

-- the database at a path was given and holds the rows of a registry of these settings, and the desk
-- runs over it (profile)
pub record OpensDesk {D S : Type 0} (by : StoreCalls D S) (names : Named) (start end : D)
    (desk : Desk S) : Type 0 where
  pub conn : Held S
  pub given : by.databases.opens names.path Refused (Ok conn) start end
  pub opens : OpensTables by.store conn desk.stock
  pub runs : IsRunning by.store names.settings desk

-- a desk was opened, and this was done at it; the database that it left was closed (profile)
pub record IsDoneAtDesk {D S : Type 0} (by : StoreCalls D S) (does : Act (Desk S)) (names : Named)
    (done : Deed D CommandEnd) : Type 0 where
  pub before : Desk S
  pub after : Desk S
  pub between : D
  pub opens : OpensDesk by names done.before.has between before
  pub did : does (within before after done)
  pub closed : by.databases.closes after.stock.store between done.after.has

-- what a command does at the desk that its settings open: if there is no database, none is made
-- (profile)
abbrev pub AtDesk : {D S : Type 0} → StoreCalls D S → Act (Desk S) → Action D
AtDesk by does names done =
    FailsSilently (OpensNoDesk by names done.before.has done.after.has) done
    ⊎ IsDoneAtDesk by does names done

-- a database was opened, and this was done in it; as this left it, it was closed (profile)
pub record IsDoneInDatabase {D S : Type 0} (by : StoreCalls D S) (absent : Absent)
    (does : Act (Held S)) (path : List ℕ) (done : Deed D CommandEnd) : Type 0 where
  pub before : Held S
  pub after : Held S
  pub between : D
  pub given : by.databases.opens path absent (Ok before) done.before.has between
  pub did : does (within before after done)
  pub closed : by.databases.closes after between done.after.has

-- what a command does in the database that its settings name, by what is done if there is none
-- (profile)
abbrev pub InDatabase : {D S : Type 0} → StoreCalls D S → Absent → (SettingsParts → Act (Held S))
    → Action D
InDatabase by absent does names done =
    FailsSilently (IsNotGiven by.databases names.path absent done.before.has done.after.has) done
    ⊎ IsDoneInDatabase by absent (does names.settings) names.path done
