-- What went wrong in words: those before the cause and the number, and those after, for the line of
-- a fault (profile).
use Rattle.std.specs.Prelude.{ℕ, ◌==◌, nat_lt, List, [], ◌++◌, codes, if◌then◌else◌}
use Rattle.sqlite.specs.declared.error.Error.{Error}
use Rattle.rr_object.specs.declared.code.Code.{Code}
use Rattle.rr_object.specs.declared.code.Code.TheVariants.{E02, E03, E04, E05, E06}
use Rattle.rr_registry.specs.declared.load.LoadFault.TheVariants as list
use Rattle.rr_store.specs.declared.store_fault.CreateFault.{CreateFault}
use Rattle.rr_store.specs.declared.store_fault.CreateFault.TheVariants as creating
use Rattle.rr_store.specs.declared.store_fault.MigrateFault.{MigrateFault}
use Rattle.rr_store.specs.declared.store_fault.MigrateFault.TheVariants as migrating
use Rattle.rr_store.specs.declared.store_fault.OpenFault.{OpenFault}
use Rattle.rr_store.specs.declared.store_fault.OpenFault.TheVariants as opening
use Rattle.rr_store.specs.declared.version.TheConstants.{OLD_VERSION, VERSION}
use Rattle.rr_submission.specs.declared.submission.SubmissionFault.{SubmissionFault}
use Rattle.rr_submission.specs.declared.submission.SubmissionFault.TheVariants as desk
use Rattle.rr_desk.specs.declared.desk_dumping.DeskDumpFault.{DeskDumpFault}
use Rattle.rr_desk.specs.declared.desk_dumping.DeskDumpFault.TheVariants as dumping
use Rattle.rr_desk.specs.declared.dump_read_fault.DumpReadFault.TheVariants as dump
use Rattle.rr_commands.specs.Causes.{database_cause, database_cause_text, text_or}
use Rattle.rr_commands.specs.declared.settings_file.SettingKey.{SettingKey}
use Rattle.rr_commands.specs.declared.settings_file.SettingKey.TheVariants as key
use Rattle.rr_commands.specs.declared.trouble.Trouble.{Trouble}
use Rattle.rr_commands.specs.declared.trouble.Trouble.TheVariants as trouble

-- the words for memory that ran out (profile)
abbrev pub out_of_memory : List ℕ
out_of_memory = codes "out of memory: give the program more"

-- the words for tables of another version, before its number (profile)
abbrev pub of_version : List ℕ
of_version = codes "the tables of the database are of version "

-- the words for a desk that is stopped (profile)
abbrev pub stopped : List ℕ
stopped = codes "the database failed before: run the command again"

-- the words for settings, by the key that is missing or bad (profile)
abbrev pub setting_words : SettingKey → List ℕ
setting_words key.Source =
    codes "`source` is missing or bad: it names the registry, as \"TEST\""
setting_words key.Root =
    codes "`root` is missing or bad: it names a maintainer, as \"ROOT-MNT\""
setting_words key.Auth =
    codes "`auth` is missing or bad: it is \"SHA256-PW salt:hash\", with 64 hexadecimal digits"
setting_words key.Limit =
    codes "`limit` is missing or bad: it is a whole number from 1 to 1000000"
setting_words key.Store =
    codes "`store` is missing or bad: it is the path of the database"

-- why the database refused: its cause if that tells more than these words do, and else these
-- (profile)
abbrev pub refused_words : Error → List ℕ → List ℕ
refused_words error words = text_or (database_cause error) words

-- the words for a registry that was not made (profile)
abbrev pub creating_words : CreateFault → List ℕ
creating_words creating.NotEmpty = codes "the database has a registry already: take a new one"
creating_words (creating.Store error) = refused_words error
    (codes "the database has other tables, or refuses those of a registry: take a new one")
creating_words creating.Memory = out_of_memory

-- the words for a registry that was not opened (profile)
abbrev pub opening_words : OpenFault → List ℕ
opening_words (opening.WrongVersion version) = of_version
opening_words opening.BadRow =
    codes "the rows of the database are not a registry of the settings' source: correct `source`, "
    ++ codes "or restore a backup"
opening_words (opening.Store error) = refused_words error
    (codes "the database has no registry that can be read: restore a backup, or make one by "
    ++ codes "`irrdesk init` or `irrdesk load`")
opening_words opening.Memory = out_of_memory

-- the words for a submission that was cut short (profile)
abbrev pub submission_words : SubmissionFault → List ℕ
submission_words (desk.ReadFault items) =
    codes "the submission could not be read to its end, so submit the whole text again: "
submission_words (desk.WriteFault items) =
    codes "the report could not be written, so submit the whole text again: "
submission_words (desk.LedgerStopped items) =
    codes "the database failed, so submit the whole text again: "
submission_words desk.Memory = out_of_memory
submission_words desk.Stopped = stopped

-- the words for a dump that was cut short (profile)
abbrev pub dumping_words : DeskDumpFault → List ℕ
dumping_words dumping.Write = codes "the dump is not whole, so dump again: "
dumping_words dumping.Memory =
    codes "out of memory, and the dump is not whole: give the program more, and dump again"
dumping_words dumping.Stopped = stopped

-- the words for tables that were not migrated (profile)
abbrev pub migrating_words : MigrateFault → List ℕ
migrating_words (migrating.WrongVersion version) = of_version
migrating_words migrating.BadRow =
    codes "the rows of the database are not a registry of version 1 of the settings' source: "
    ++ codes "correct `source`, or restore a backup"
migrating_words migrating.NoRoot =
    codes "the root of the settings is not a maintainer of the registry: let `root` name one that "
    ++ codes "is"
migrating_words (migrating.Store error) = refused_words error
    (codes "the database has no tables of version 1: look at `store`")
migrating_words migrating.Memory = out_of_memory

-- the words before the cause and the number, or all of them (profile)
abbrev pub before_cause : Trouble → List ℕ
before_cause trouble.BadArguments = codes "`irrdesk help` lists the commands"
before_cause trouble.BadPort = codes "a port is a number from 1 to 65535"
before_cause trouble.BadCount = codes "a count is a number from 1 to 1000000"
before_cause trouble.ArgumentsNotText = codes "an argument is not UTF-8 text: write it as such"
before_cause (trouble.SettingsUnread cause) = codes "the settings cannot be read: "
before_cause trouble.SettingsNotText = codes "the settings are not UTF-8 text: save them as such"
before_cause trouble.SettingsTooLong =
    codes "the settings are longer than 1048576 bytes: shorten them"
before_cause (trouble.SettingsNotToml line) = codes "the settings are not TOML: see line "
before_cause (trouble.SettingBad key) = setting_words key
before_cause (trouble.Database cause) = database_cause_text cause
before_cause (trouble.Creating fault) = creating_words fault
before_cause (trouble.Opening fault) = opening_words fault
before_cause trouble.OtherSource =
    codes "most rows of the database are of another source: correct `source`"
before_cause trouble.OtherSourceRow =
    codes "the object of the row is of another source: restore a backup, or correct it or `source`"
before_cause trouble.BadObject =
    codes "the row is not as irrdesk writes one: restore a backup, or go by \"A damaged file\" in "
    ++ codes "docs/BACKUP.md"
before_cause trouble.Unnamed =
    codes "the object of the row names a maintainer who is not there: restore a backup, or go by "
    ++ codes "\"A damaged file\" in docs/BACKUP.md"
before_cause trouble.Overlap =
    codes "the object of the row has a range that overlaps one before it: restore a backup, or "
    ++ codes "take one of the two out of `object` and `named`"
before_cause trouble.OtherRows =
    codes "its rows are not those of a registry: restore a backup, or mend the table"
before_cause trouble.OldKeys =
    codes "`meta` says version 2, and the keys are of version 1: restore a backup, or set the "
    ++ codes "value to 1 in a copy, and migrate that"
before_cause trouble.NewKeys =
    codes "`meta` says version 1, and the keys are of version 2: restore a backup, or set the "
    ++ codes "value to 2 in a copy"
before_cause trouble.NoObject =
    codes "`named` has a row of this class and okey, and `object` has none: restore a backup, or "
    ++ codes "take that row out"
before_cause trouble.Empty =
    codes "the database has no objects: restore a backup, or let `store` name another one"
before_cause trouble.OtherOrder =
    codes "the tables of the registry are not first and in order: `umask 077; sqlite3 OLD '.dump "
    ++ codes "meta' '.dump object' '.dump named' | sqlite3 NEW` lays them so; OLD is the database, "
    ++ codes "NEW the new `store`"
before_cause trouble.OtherTables =
    codes "the tables of the registry were not made by irrdesk: \"A damaged file\" in "
    ++ codes "docs/BACKUP.md makes a registry of their rows"
before_cause trouble.Obstacle =
    codes "it keeps the tables of the registry from being read: take it out"
before_cause (trouble.FileUnopened cause) = codes "the file cannot be opened: "
before_cause (trouble.Submission fault cause) = submission_words fault
before_cause (trouble.Dumping fault) = dumping_words fault
before_cause (trouble.DumpUnread dump.Read) =
    codes "the dump could not be read to its end, and nothing is loaded: "
before_cause (trouble.DumpUnread dump.Endless) =
    codes "the dump has no end within 16777216 reads: name a whole dump"
before_cause (trouble.DumpUnread dump.Memory) = out_of_memory
before_cause (trouble.DumpUnread fault) = codes "nothing is loaded, because paragraph "
before_cause (trouble.DumpUntaken list.Memory) = out_of_memory
before_cause (trouble.DumpUntaken fault) = codes "nothing is loaded, because paragraph "
before_cause (trouble.Migrating fault) = migrating_words fault
before_cause (trouble.ListenerUnopened cause) = codes "it cannot listen: "
before_cause (trouble.Unaccepted cause) = codes "no connection could be accepted: "
before_cause (trouble.ProbeFailed cause) = codes "the program's own listener cannot be asked: "
before_cause (trouble.ServedInVain cause) =
    codes "the database failed, and each request is refused until the server is started again: "
before_cause trouble.Unwritten = codes "the write failed: "
before_cause trouble.Memory = out_of_memory

-- the words between the cause and the number (profile)
abbrev pub before_number : Trouble → List ℕ
before_number (trouble.Submission (desk.ReadFault items) cause) =
    codes "; items decided before that: "
before_number (trouble.Submission (desk.WriteFault items) cause) =
    codes "; items decided before that: "
before_number (trouble.Submission (desk.LedgerStopped items) cause) =
    codes "; items decided before that: "
before_number _ = []

-- what to do with tables of another version than 2: those of version 1 are migrated. A later
-- irrdesk reads those of a later one, and no irrdesk wrote others (profile)
abbrev pub after_opened : ℕ → List ℕ
after_opened version =
    if version == OLD_VERSION
    then codes ", and this program reads version 2: `irrdesk migrate SETTINGS` turns them into that"
    else if nat_lt VERSION version
    then codes ", and this program reads version 2: take a newer irrdesk, which wrote them"
    else codes ", and this program reads version 2: no irrdesk wrote them, so correct `store`"

-- what to do with tables of another version than 1 that are to be migrated: nothing if they are of
-- version 2. A later irrdesk wrote those of a later one, and no irrdesk wrote others (profile)
abbrev pub after_migrated : ℕ → List ℕ
after_migrated version =
    if version == VERSION
    then codes ", as this program reads them: there is nothing to migrate"
    else if nat_lt VERSION version
    then codes ", and what is migrated is version 1: take a newer irrdesk, which wrote them"
    else codes ", and what is migrated is version 1: no irrdesk wrote them, so correct `store`"

-- why a paragraph of a dump is not an object, by the code of its refusal; nothing for other codes
-- than E02 to E06 (profile)
abbrev pub reason : Code → List ℕ
reason E02 = codes " is not an object: E02, its class is unknown: take it out"
reason E03 = codes " is not an object: E03, its key is bad: mend it"
reason E04 =
    codes " is not an object: E04, an attribute that it needs is missing, empty or repeated: "
    ++ codes "mend it"
reason E05 =
    codes " is not an object: E05, an attribute has a bad value, as `auth` in a dump that is not "
    ++ codes "full, or is `password` or `delete`, which no dump has: load a full one, or mend it"
reason E06 =
    codes " is not an object: E06, its `source` is not that of the settings: let both be the same"
reason _ = []

-- the words after the number (profile)
abbrev pub after_number : Trouble → List ℕ
after_number (trouble.Opening (opening.WrongVersion version)) = after_opened version
after_number (trouble.Migrating (migrating.WrongVersion version)) = after_migrated version
after_number (trouble.DumpUnread (dump.Text number)) =
    codes " is not RPSL, or over 65536 bytes: mend it"
after_number (trouble.DumpUnread (dump.Object number code)) = reason code
after_number (trouble.DumpUntaken (list.Duplicate number)) =
    codes " has the key of one before it: take one of the two out"
after_number (trouble.DumpUntaken (list.Overlap number)) =
    codes " has a range that overlaps one before it: mend one of the two"
after_number (trouble.DumpUntaken (list.Unnamed number)) =
    codes " names a maintainer who is not in the dump: add its mntner, or take the name out"
after_number _ = []
