-- What goes wrong, the status that it ends the program with, and what it is about, for the
-- contracts of `Trouble` (profile).
use Rattle.std.specs.Prelude.{ℕ, List, [], Option, None, Some}
use Rattle.rr_registry.specs.declared.load.LoadFault.TheVariants as list
use Rattle.rr_store.specs.declared.store_fault.CreateFault.TheVariants as creating
use Rattle.rr_store.specs.declared.store_fault.MigrateFault.TheVariants as migrating
use Rattle.rr_store.specs.declared.store_fault.OpenFault.TheVariants as opening
use Rattle.rr_submission.specs.declared.submission.SubmissionFault.TheVariants as desk
use Rattle.rr_desk.specs.declared.desk_dumping.DeskDumpFault.TheVariants as dumping
use Rattle.rr_desk.specs.declared.dump_read_fault.DumpReadFault.TheVariants as dump
use Rattle.rr_commands.specs.Causes.{cause_text, database_cause_text}
use Rattle.rr_commands.specs.declared.cause.Cause.{Cause}
use Rattle.rr_commands.specs.declared.cause.Cause.TheVariants as cause
use Rattle.rr_commands.specs.declared.cause.DatabaseCause.TheVariants as database
use Rattle.rr_commands.specs.declared.trouble.TroubleEnd.{TroubleEnd}
use Rattle.rr_commands.specs.declared.trouble.TroublePlace.{TroublePlace}
use Rattle.rr_commands.specs.declared.trouble.TroublePlace.TheVariants as place
use Rattle.rr_commands.specs.declared.trouble.Trouble.{Trouble}
use Rattle.rr_commands.specs.declared.trouble.Trouble.TheVariants as trouble

-- an end of the program with this status and a line about this
abbrev pub ends_with : ℕ → TroublePlace → TroubleEnd
ends_with status place = record { status = status; place = place }

-- how the program ends by each trouble: what its line is about, and its status. The status is 2 at
-- wrong arguments, and 3 at wrong settings. It is 4 at trouble with the database, also if SQLite
-- lacks memory once it is open, or at a stopped desk. It is else 5, also if other memory ran out.
-- The line is about the database at status 4, and if memory ran out as that or its registry was
-- opened. It is about the settings file at status 3, and about another file at trouble with that or
-- with what it has. It is about standard output if a write failed, and else about nothing
-- (profile).
abbrev pub trouble_end : Trouble → TroubleEnd
trouble_end trouble.BadArguments = ends_with 2 place.Nothing
trouble_end trouble.BadPort = ends_with 2 place.Nothing
trouble_end trouble.BadCount = ends_with 2 place.Nothing
trouble_end trouble.ArgumentsNotText = ends_with 2 place.Nothing
trouble_end (trouble.SettingsUnread cause) = ends_with 3 place.File
trouble_end trouble.SettingsNotText = ends_with 3 place.File
trouble_end trouble.SettingsTooLong = ends_with 3 place.File
trouble_end (trouble.SettingsNotToml line) = ends_with 3 place.File
trouble_end (trouble.SettingBad key) = ends_with 3 place.File
trouble_end (trouble.Database database.Memory) = ends_with 5 place.Database
trouble_end (trouble.Database (database.Refused cause.Memory)) = ends_with 5 place.Database
trouble_end (trouble.Database _) = ends_with 4 place.Database
trouble_end (trouble.Creating creating.NotEmpty) = ends_with 4 place.Database
trouble_end (trouble.Creating (creating.Store error)) = ends_with 4 place.Database
trouble_end (trouble.Creating creating.Memory) = ends_with 5 place.Nothing
trouble_end (trouble.Opening (opening.WrongVersion version)) = ends_with 4 place.Database
trouble_end (trouble.Opening opening.BadRow) = ends_with 4 place.Database
trouble_end (trouble.Opening (opening.Store error)) = ends_with 4 place.Database
trouble_end (trouble.Opening opening.Memory) = ends_with 5 place.Database
trouble_end trouble.OtherSource = ends_with 4 place.Database
trouble_end trouble.OtherSourceRow = ends_with 4 place.Database
trouble_end trouble.BadObject = ends_with 4 place.Database
trouble_end trouble.Unnamed = ends_with 4 place.Database
trouble_end trouble.Overlap = ends_with 4 place.Database
trouble_end trouble.OtherRows = ends_with 4 place.Database
trouble_end trouble.OldKeys = ends_with 4 place.Database
trouble_end trouble.NewKeys = ends_with 4 place.Database
trouble_end trouble.NoObject = ends_with 4 place.Database
trouble_end trouble.Empty = ends_with 4 place.Database
trouble_end trouble.OtherOrder = ends_with 4 place.Database
trouble_end trouble.OtherTables = ends_with 4 place.Database
trouble_end trouble.Obstacle = ends_with 4 place.Database
trouble_end (trouble.ServedInVain cause) = ends_with 4 place.Database
trouble_end (trouble.FileUnopened cause) = ends_with 5 place.File
trouble_end (trouble.Submission (desk.ReadFault items) cause) = ends_with 5 place.File
trouble_end (trouble.Submission (desk.WriteFault items) cause) = ends_with 5 place.Output
trouble_end (trouble.Submission (desk.LedgerStopped items) cause) = ends_with 4 place.Database
trouble_end (trouble.Submission desk.Memory cause) = ends_with 5 place.Nothing
trouble_end (trouble.Submission desk.Stopped cause) = ends_with 4 place.Database
trouble_end (trouble.Dumping dumping.Write) = ends_with 5 place.Output
trouble_end (trouble.Dumping dumping.Memory) = ends_with 5 place.Nothing
trouble_end (trouble.Dumping dumping.Stopped) = ends_with 4 place.Database
trouble_end (trouble.DumpUnread dump.Memory) = ends_with 5 place.Nothing
trouble_end (trouble.DumpUnread fault) = ends_with 5 place.File
trouble_end (trouble.DumpUntaken list.Memory) = ends_with 5 place.Nothing
trouble_end (trouble.DumpUntaken fault) = ends_with 5 place.File
trouble_end (trouble.Migrating (migrating.WrongVersion version)) = ends_with 4 place.Database
trouble_end (trouble.Migrating migrating.BadRow) = ends_with 4 place.Database
trouble_end (trouble.Migrating migrating.NoRoot) = ends_with 4 place.Database
trouble_end (trouble.Migrating (migrating.Store error)) = ends_with 4 place.Database
trouble_end (trouble.Migrating migrating.Memory) = ends_with 5 place.Nothing
trouble_end (trouble.ListenerUnopened cause) = ends_with 5 place.Nothing
trouble_end (trouble.Unaccepted cause) = ends_with 5 place.Nothing
trouble_end (trouble.ProbeFailed cause) = ends_with 5 place.Nothing
trouble_end trouble.Unwritten = ends_with 5 place.Output
trouble_end trouble.Memory = ends_with 5 place.Nothing

-- the status that a trouble ends the program with
abbrev pub trouble_status : Trouble → ℕ
trouble_status trouble = (trouble_end trouble).status

-- what a trouble is about
abbrev pub place_of : Trouble → TroublePlace
place_of trouble = (trouble_end trouble).place

-- the paragraph of a dump, from 1, that is the matter (profile)
abbrev pub paragraph_in : Trouble → Option ℕ
paragraph_in (trouble.DumpUnread (dump.Text number)) = Some number
paragraph_in (trouble.DumpUnread (dump.Object number code)) = Some number
paragraph_in (trouble.DumpUntaken (list.Duplicate number)) = Some number
paragraph_in (trouble.DumpUntaken (list.Overlap number)) = Some number
paragraph_in (trouble.DumpUntaken (list.Unnamed number)) = Some number
paragraph_in _ = None

-- the cause that the system gave, if it gave one: `stream` is that of reading or printing (profile)
abbrev pub trouble_cause : Trouble → Cause → Option Cause
trouble_cause (trouble.SettingsUnread cause) stream = Some cause
trouble_cause (trouble.FileUnopened cause) stream = Some cause
trouble_cause (trouble.ListenerUnopened cause) stream = Some cause
trouble_cause (trouble.Unaccepted cause) stream = Some cause
trouble_cause (trouble.ProbeFailed cause) stream = Some cause
trouble_cause (trouble.Database (database.Refused cause)) stream = Some cause
trouble_cause trouble.Unwritten stream = Some stream
trouble_cause (trouble.Dumping dumping.Write) stream = Some stream
trouble_cause (trouble.Submission (desk.ReadFault items) cause) stream = Some stream
trouble_cause (trouble.Submission (desk.WriteFault items) cause) stream = Some stream
trouble_cause (trouble.DumpUnread dump.Read) stream = Some stream
trouble_cause _ stream = None

-- a cause in words, or nothing: why the database failed in a submission or while it was served,
-- and else the cause that the system gave (profile)
abbrev pub cause_words : Trouble → Option Cause → List ℕ
cause_words (trouble.Submission (desk.LedgerStopped items) cause) given = database_cause_text cause
cause_words (trouble.ServedInVain cause) given = database_cause_text cause
cause_words _ None = []
cause_words _ (Some cause) = cause_text cause

-- the number that is told: a line, a version, a paragraph, or how many items were decided (profile)
abbrev pub trouble_number : Trouble → Option ℕ
trouble_number (trouble.SettingsNotToml line) = Some line
trouble_number (trouble.Opening (opening.WrongVersion version)) = Some version
trouble_number (trouble.Migrating (migrating.WrongVersion version)) = Some version
trouble_number (trouble.DumpUnread fault) = paragraph_in (trouble.DumpUnread fault)
trouble_number (trouble.DumpUntaken fault) = paragraph_in (trouble.DumpUntaken fault)
trouble_number (trouble.Submission (desk.ReadFault items) cause) = Some items
trouble_number (trouble.Submission (desk.WriteFault items) cause) = Some items
trouble_number (trouble.Submission (desk.LedgerStopped items) cause) = Some items
trouble_number _ = None
