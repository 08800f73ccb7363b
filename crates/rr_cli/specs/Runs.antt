-- What a run of the program does, by its words, for the contracts of `run` and of what reads the
-- arguments (profile).
use Rattle.std.specs.Prelude.{◌≡◌, ◌⊎◌, ℕ, List, Result, Ok, Err}
use Rattle.std.specs.IoError.{error_kind}
use Rattle.std.specs.declared.io.Error.{Error}
use Rattle.std.specs.declared.io.ErrorKind.{ErrorKind}
use Rattle.std.specs.declared.io.ErrorKind.TheVariants.{OutOfMemory}
use Rattle.rr_io.specs.Sending.{TakesSome}
use Rattle.rr_io.specs.Told.{Told}
use Rattle.rr_arguments.specs.CommandLine.{Invocation, IsInvoked, FailsToInvoke, invoked}
use Rattle.rr_arguments.specs.declared.command.Command.{Command}
use Rattle.rr_arguments.specs.declared.arguments_fault.ArgumentsFault.{ArgumentsFault}
use Rattle.rr_arguments.specs.declared.arguments_fault.ArgumentsFault.TheVariants as fault
use Rattle.rr_commands.specs.Commands.{ProgramEnd}
use Rattle.rr_commands.specs.Faults.{IsLegible, fault_line}
use Rattle.rr_commands.specs.Troubles.{trouble_status}
use Rattle.rr_commands.specs.Worlds.{Deed, Ports, deed, ended_by, within}
use Rattle.rr_commands.specs.declared.cause.Cause.{Cause}
use Rattle.rr_commands.specs.declared.command_fault.About.{About}
use Rattle.rr_commands.specs.declared.command_fault.About.TheVariants as about
use Rattle.rr_commands.specs.declared.command_fault.ProgramFault.{ProgramFault}
use Rattle.rr_commands.specs.declared.host.Host.{Host}
use Rattle.rr_commands.specs.declared.trouble.Trouble.{Trouble}
use Rattle.rr_commands.specs.declared.trouble.Trouble.TheVariants as trouble
use Rattle.rr_cli.specs.Networks.{Means}
use Rattle.rr_cli.specs.Running.{CarriesOut, Resources}
use Rattle.rr_cli.specs.Running as program
use Rattle.rr_cli.specs.declared.program_run.ProgramStreams.{ProgramStreams}

-- what goes wrong where a line asks for nothing (profile)
abbrev pub arguments_trouble : ArgumentsFault → Trouble
arguments_trouble (fault.Refused line) = trouble.BadArguments
arguments_trouble fault.Unexplained = trouble.BadArguments
arguments_trouble (fault.Port word) = trouble.BadPort
arguments_trouble (fault.Count word) = trouble.BadCount
arguments_trouble fault.Memory = trouble.Memory

-- what the fault of a line is about that asks for nothing: the word that is no port or no count, or
-- why the line is refused (profile)
abbrev pub IsAboutArguments : ArgumentsFault → About → Type 0
IsAboutArguments (fault.Port word) (about.Word told) = told ≡ word
IsAboutArguments (fault.Count word) (about.Word told) = told ≡ word
IsAboutArguments (fault.Refused line) (about.Named told) = Unit {0}
IsAboutArguments fault.Unexplained about.Nothing = Unit {0}
IsAboutArguments fault.Memory about.Nothing = Unit {0}
IsAboutArguments _ _ = ⊥

-- a fault of a line that asks for nothing (profile)
pub record IsOfArguments (fault : ArgumentsFault) (ended : ProgramFault) : Type 0 where
  pub trouble : ended.trouble ≡ arguments_trouble fault
  pub about : IsAboutArguments fault ended.about

-- nothing was asked for, which is the fault, and nothing was used (profile)
pub record InvokesNothing {D : Type 0} (invocation : Invocation)
    (done : Deed (Resources D) ProgramEnd) : Type 0 where
  pub fault : ArgumentsFault
  pub refused : FailsToInvoke fault invocation
  pub ended : ProgramFault
  pub told : done.ended ≡ Err ended
  pub of_arguments : IsOfArguments fault ended
  pub unused : done.after ≡ done.before

-- a command that was asked for was carried out (profile)
pub record InvokesCommand {D S : Type 0} (by : Ports D S) (means : Means)
    (invocation : Invocation) (done : Deed (Resources D) ProgramEnd) : Type 0 where
  pub command : Command
  pub is_invoked : IsInvoked command invocation
  pub carried_out : CarriesOut by means command done

-- what was asked for was done, or nothing was (profile)
abbrev pub DoesAsInvoked : {D S : Type 0} → Ports D S → Means → Invocation
    → Deed (Resources D) ProgramEnd → Type 0
DoesAsInvoked by means invocation done =
    InvokesCommand by means invocation done ⊎ InvokesNothing invocation done

-- the status of a program that ends so, and what is written by the writer of its faults. A fault
-- has its status, and its one line, less its end if a write fails. The line names what the fault is
-- about as it is, but a word perhaps as a line shows it (`IsLegible`). Without a fault nothing is
-- written by that writer (profile)
abbrev pub EndsRun : ProgramEnd → Told → Told → ℕ → Type 0
EndsRun (Ok given) errors_old errors_new status = (status ≡ given) × (errors_new ≡ errors_old)
EndsRun (Err fault) errors_old errors_new status = (status ≡ trouble_status fault.trouble)
    × ((about : About) × IsLegible fault.about about
    × TakesSome errors_old errors_new (fault_line about fault.trouble fault.stream))

-- what is told of arguments that the system does not give, by the kind of its error: memory ran
-- out, or one is not text (profile)
abbrev pub refused_arguments : ErrorKind → Trouble
refused_arguments OutOfMemory = trouble.Memory
refused_arguments _ = trouble.ArgumentsNotText

-- why there is no list of arguments, by what the system gave: it gave none, or memory ran out for
-- the list (profile)
abbrev pub AreUnread : {X : Type 0} → Result X Error → Trouble → Type 0
AreUnread (Ok arguments) cause = cause ≡ trouble.Memory
AreUnread (Err error) cause = cause ≡ refused_arguments (error_kind error)

-- the status of a program whose arguments could not be read for this trouble, and its line on
-- standard error, less its end if a write fails (profile)
abbrev pub EndsUnread : Trouble → Told → Told → ℕ → Type 0
EndsUnread cause errors_old errors_new status = (status ≡ trouble_status cause)
    × ((stream : Cause) × TakesSome errors_old errors_new (fault_line about.Nothing cause stream))

-- what a run changes: what a program has, and what the writer of its faults told (profile)
pub record Running (D : Type 0) : Type 0 where
  pub resources : Resources D
  pub errors : Told

-- what a run changes, as one
abbrev pub running : {D : Type 0} → Resources D → Told → Running D
running resources errors = record { resources = resources; errors = errors }

-- what a run did: to what keeps its host's databases, to what its input and its errors told, and to
-- what its host prints to
abbrev pub ran_by : {D W R E : Type 0} → (R → Told) → (E → Told) → (W → Told) → Host D W → Host D W
    → ProgramStreams R E → ProgramStreams R E → ℕ → Deed (Running D) ℕ
ran_by input errors output host_old host_new old new status =
    deed (running (program.resources host_old.databases (input old.input)) (errors old.errors))
    (running (program.resources host_new.databases (input new.input)) (errors new.errors))
    (output host_old.output) (output host_new.output) status

-- a run does what these words ask for, and ends so, with this status (profile)
pub record Runs {D S : Type 0} (by : Ports D S) (means : Means) (words : List (List ℕ))
    (done : Deed (Running D) ℕ) : Type 0 where
  pub ended : ProgramEnd
  pub does : DoesAsInvoked by means (invoked words)
      (within done.before.has.resources done.after.has.resources (ended_by ended done))
  pub ends : EndsRun ended done.before.has.errors done.after.has.errors done.ended
