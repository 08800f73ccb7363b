-- Why a file, a socket or a database could not be used, and how that is told, for the contracts of
-- `Cause` and `DatabaseCause` (profile).
use Rattle.std.specs.Prelude.{ℕ, ℤ, pos, negsuc, ◌==◌, List, ◌++◌, Option, None, Some, codes}
use Rattle.std.specs.Prelude.{if◌then◌else◌}
use Rattle.std.specs.declared.io.ErrorKind.{ErrorKind}
use Rattle.std.specs.declared.io.ErrorKind.TheVariants as kind
use Rattle.sqlite.specs.declared.error.Error.{Error}
use Rattle.sqlite.specs.declared.error.Error.TheVariants.{SqliteFailure}
use Rattle.sqlite.specs.declared.error.ErrorCode.{ErrorCode}
use Rattle.sqlite.specs.declared.error.ErrorCode.TheVariants as code
use Rattle.rr_commands.specs.declared.cause.Cause.{Cause}
use Rattle.rr_commands.specs.declared.cause.Cause.TheVariants as cause
use Rattle.rr_commands.specs.declared.cause.DatabaseCause.{DatabaseCause}
use Rattle.rr_commands.specs.declared.cause.DatabaseCause.TheVariants as database
use Rattle.rr_commands.specs.declared.cause.TheConstants.{EBADF, EINVAL, EIO, EMFILE}
use Rattle.rr_commands.specs.declared.cause.TheConstants.{ENFILE}

-- the cause to which Linux gives this number: of those without a kind of their own, few are told
-- apart (profile)
abbrev pub number_cause : ℕ → Cause
number_cause number =
    if number == EIO then cause.BadDisk
    else if number == EBADF then cause.Closed
    else if number == EINVAL then cause.Invalid
    else if number == ENFILE then cause.AllFiles
    else if number == EMFILE then cause.ManyFiles
    else cause.Numbered number

-- the cause that has this number of the system; `Unnumbered` if there is none, or one below 0
-- (profile)
abbrev pub numbered : Option ℤ → Cause
numbered None = cause.Unnumbered
numbered (Some (pos number)) = number_cause number
numbered (Some (negsuc number)) = cause.Unnumbered

-- the cause of input that does not fit: without a number the system did not see it, because it is a
-- name with a zero byte (profile)
abbrev pub input_cause : Option ℤ → Cause
input_cause None = cause.BadName
input_cause (Some number) = numbered (Some number)

-- the cause of an error of the system, by its kind, and by its number where the kind tells none, or
-- only that input does not fit (profile)
abbrev pub system_cause : ErrorKind → Option ℤ → Cause
system_cause kind.NotFound code = cause.Missing
system_cause kind.PermissionDenied code = cause.Denied
system_cause kind.IsADirectory code = cause.Folder
system_cause kind.NotADirectory code = cause.NoFolder
system_cause kind.FilesystemLoop code = cause.Loop
system_cause kind.InvalidFilename code = cause.LongName
system_cause kind.InvalidInput code = input_cause code
system_cause kind.ReadOnlyFilesystem code = cause.ReadOnly
system_cause kind.StorageFull code = cause.Full
system_cause kind.QuotaExceeded code = cause.Quota
system_cause kind.FileTooLarge code = cause.TooLarge
system_cause kind.BrokenPipe code = cause.Ended
system_cause kind.AddrInUse code = cause.Taken
system_cause kind.AddrNotAvailable code = cause.NoAddress
system_cause kind.AlreadyExists code = cause.Exists
system_cause kind.DirectoryNotEmpty code = cause.Exists
system_cause kind.ResourceBusy code = cause.InUse
system_cause kind.ExecutableFileBusy code = cause.InUse
system_cause kind.Deadlock code = cause.InUse
system_cause kind.Unsupported code = cause.Unfit
system_cause kind.NotSeekable code = cause.Unfit
system_cause kind.CrossesDevices code = cause.Unfit
system_cause kind.TooManyLinks code = cause.Unfit
system_cause kind.ArgumentListTooLong code = cause.Unfit
system_cause kind.StaleNetworkFileHandle code = cause.Lost
system_cause kind.InvalidData code = cause.Spoilt
system_cause kind.UnexpectedEof code = cause.Spoilt
system_cause kind.WriteZero code = cause.Spoilt
system_cause kind.Interrupted code = cause.Interrupted
system_cause kind.WouldBlock code = cause.Late
system_cause kind.TimedOut code = cause.Late
system_cause kind.ConnectionRefused code = cause.Broken
system_cause kind.ConnectionReset code = cause.Broken
system_cause kind.ConnectionAborted code = cause.Broken
system_cause kind.NotConnected code = cause.Broken
system_cause kind.InProgress code = cause.Broken
system_cause kind.NetworkDown code = cause.NoNetwork
system_cause kind.NetworkUnreachable code = cause.NoNetwork
system_cause kind.HostUnreachable code = cause.NoNetwork
system_cause kind.OutOfMemory code = cause.Memory
system_cause _ code = numbered code

-- a cause in words, before its number if it has one (profile)
abbrev pub cause_text : Cause → List ℕ
cause_text cause.Missing = codes "there is none of that name: correct the path"
cause_text cause.Denied = codes "permission is denied: ask for it, or take another file or port"
cause_text cause.Folder = codes "it is a folder: name a file"
cause_text cause.NoFolder = codes "a part of the path is not a folder: correct the path"
cause_text cause.Loop = codes "the path leads through too many links: correct the path"
cause_text cause.LongName = codes "the name is too long: shorten it"
cause_text cause.BadName = codes "no file has such a name: correct the path"
cause_text cause.ReadOnly = codes "the file system is read-only: take another path"
cause_text cause.Full = codes "the disk is full: make room"
cause_text cause.Quota = codes "the quota is used up: make room, or ask for more"
cause_text cause.TooLarge =
    codes "no file may grow so large: raise the limit, as `ulimit -f` shows it"
cause_text cause.Ended = codes "its reader has ended: let it read to the end"
cause_text cause.Taken = codes "the address is in use: end what has it, or take another port"
cause_text cause.NoAddress = codes "the machine has no such address: see that 127.0.0.1 can be used"
cause_text cause.Exists = codes "something of that name is there: take another path"
cause_text cause.InUse = codes "another program uses it: end that, or try again later"
cause_text cause.Unfit = codes "the system does not do that with such a file: take another"
cause_text cause.Lost = codes "its file server has it no longer: mount that again"
cause_text cause.Endless = codes "it has no end within 16777216 reads: name a whole file"
cause_text cause.Spoilt = codes "it ends too early or is spoilt: try again, or take another file"
cause_text cause.Interrupted = codes "a signal interrupted it: try again"
cause_text cause.Late = codes "nothing came in time: try again"
cause_text cause.Broken = codes "the connection broke off: try again"
cause_text cause.NoNetwork = codes "the network is down: bring it up"
cause_text cause.Memory = codes "out of memory: give the program more"
cause_text cause.ManyFiles =
    codes "the program has too many open files: raise the limit, as `ulimit -n` shows it "
    ++ codes "(system error 24)"
cause_text cause.AllFiles =
    codes "the machine has too many open files: end a program, or raise `fs.file-max` "
    ++ codes "(system error 23)"
cause_text cause.BadDisk =
    codes "input/output error: look at the disk, or take another file (system error 5)"
cause_text cause.Invalid =
    codes "the system does not do that with it: take another file (system error 22)"
cause_text cause.Closed = codes "it is closed: leave it open (system error 9)"
cause_text (cause.Numbered number) = codes "system error "
cause_text cause.Unnumbered = codes "the system does not say why"

-- the number that the system gives a cause, where the words do not say what it is (profile)
abbrev pub number_of : Cause → Option ℕ
number_of (cause.Numbered number) = Some number
number_of _ = None

-- the cause of a failure of the database, by its code (profile)
abbrev pub code_cause : ErrorCode → DatabaseCause
code_cause code.CannotOpen = database.Unopened
code_cause code.DatabaseBusy = database.Busy
code_cause code.NotADatabase = database.NoDatabase
code_cause code.DatabaseCorrupt = database.Damaged
code_cause code.DiskFull = database.Full
code_cause code.SystemIoFailure = database.Failed
code_cause code.Closed = database.Failed
code_cause (code.ConstraintViolation rule) = database.Forbidden
code_cause code.OutOfMemory = database.Memory
code_cause _ = database.Unknown

-- the cause of an error of the database, by the code of a failure, and else `Unknown` (profile)
abbrev pub database_cause : Error → DatabaseCause
database_cause (SqliteFailure failure) = code_cause failure
database_cause _ = database.Unknown

-- why a desk stopped, by the error of its database that it keeps; `Unknown` if it keeps none
-- (profile)
abbrev pub stop_cause : Option Error → DatabaseCause
stop_cause None = database.Unknown
stop_cause (Some error) = database_cause error

-- the words for a file that is no database of a registry, or one that was damaged: which of the
-- two, errors do not surely say (profile)
abbrev pub unread_text : List ℕ
unread_text =
    codes "it is not the database of a registry, or one that was damaged or changed in a way that "
    ++ codes "irrdesk does not read: name another file, or restore a backup"

-- a cause in words, before that of the system if it has one (profile)
abbrev pub database_cause_text : DatabaseCause → List ℕ
database_cause_text database.Missing =
    codes "there is no such database: correct `store`, restore a backup, or make a first one "
    ++ codes "by `irrdesk init` or `irrdesk load`"
database_cause_text database.MissingWithLog =
    codes "there is no such database, but its write-ahead log or journal (`-wal`, `-journal`): "
    ++ codes "put the database back, or move that elsewhere and restore a backup"
database_cause_text database.NoFolder =
    codes "the folder of the database is missing: make it, or correct `store`"
database_cause_text (database.Refused cause) = codes "the database cannot be opened or made: "
database_cause_text database.Denied =
    codes "permission is denied for the database, its write-ahead log or its folder: let the user "
    ++ codes "who runs irrdesk own and write them"
database_cause_text database.HasJournal =
    codes "a program of SQLite left a journal (`-journal`): copy both elsewhere, and run `sqlite3 "
    ++ codes "DATABASE 'PRAGMA integrity_check'`, which applies it"
database_cause_text database.Unopened =
    codes "the database cannot be opened or made: look at its folder, its links, its permissions "
    ++ codes "and the limit on open files"
database_cause_text database.Empty =
    codes "the database has no registry that can be read: restore a backup, or make one by "
    ++ codes "`irrdesk init` or `irrdesk load`"
database_cause_text database.EmptyWithLog =
    codes "it is empty, but not its write-ahead log or journal (`-wal`, `-journal`): move that "
    ++ codes "elsewhere, and restore a backup"
database_cause_text database.Busy =
    codes "in use, most likely by the running server: ask it over its port, or stop it first"
database_cause_text database.NoDatabase = unread_text
database_cause_text database.Encoded =
    codes "its text is UTF-16: `umask 077; sqlite3 OLD .dump | sqlite3 NEW` makes it UTF-8; OLD is "
    ++ codes "the database, NEW the new `store`"
database_cause_text database.Damaged = unread_text
database_cause_text database.Full = codes "the disk is full: make room"
database_cause_text database.Failed =
    codes "the disk cannot be read or written: look at its health, and keep a copy of the "
    ++ codes "database"
database_cause_text database.Forbidden =
    codes "a rule that was added to the tables forbids the change: take the rule out"
database_cause_text database.Memory = codes "out of memory: give the program more"
database_cause_text database.Unknown = codes "the database cannot be used: look at its disk"

-- a cause in words, but these words for `NoDatabase` and `Unknown`, which tell no more (profile)
abbrev pub text_or : DatabaseCause → List ℕ → List ℕ
text_or database.NoDatabase words = words
text_or database.Unknown words = words
text_or cause words = database_cause_text cause
