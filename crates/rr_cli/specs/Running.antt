-- What each command does, by its arguments, for the contract of a run (profile).
use Rattle.std.specs.Prelude.{◌≡◌, string_bytes}
use Rattle.sqlite.specs.Steps.{over_memory}
use Rattle.rr_io.specs.Told.{Told}
use Rattle.rr_arguments.specs.declared.command.Command.{Command}
use Rattle.rr_arguments.specs.declared.command.Command.TheVariants as command
use Rattle.rr_commands.specs.Asked.{AsksBy}
use Rattle.rr_commands.specs.Commands.{ProgramEnd}
use Rattle.rr_commands.specs.Created.{CreatesBy}
use Rattle.rr_commands.specs.Dumped.{DumpsBy}
use Rattle.rr_commands.specs.Loaded.{LoadsBy}
use Rattle.rr_commands.specs.Migrated.{MigratesBy}
use Rattle.rr_commands.specs.Printed.{Prints}
use Rattle.rr_commands.specs.Submitted.{EndsPlain, SubmitsBy}
use Rattle.rr_commands.specs.Worlds.{Deed, Ports, within}
use Rattle.rr_cli.specs.Networks.{Means}
use Rattle.rr_cli.specs.Probing.{ProbesBy}
use Rattle.rr_cli.specs.Serving.{ServesBy, listening, serve_words}

-- what a program has: what keeps databases, and what its standard input told (profile)
pub record Resources (D : Type 0) : Type 0 where
  pub databases : D
  pub input : Told

-- what a program has, of these databases and with this told by standard input
abbrev pub resources : {D : Type 0} → D → Told → Resources D
resources databases input = record { databases = databases; input = input }

-- what was done to the databases alone, while standard input was not read (profile)
abbrev pub LeavesInput : {D : Type 0} → (Deed D ProgramEnd → Type 0) → Deed (Resources D) ProgramEnd
    → Type 0
LeavesInput does done =
    (done.after.has.input ≡ done.before.has.input)
    × does (within done.before.has.databases done.after.has.databases done)

-- what was done left what keeps databases as it was (profile)
abbrev pub LeavesDatabases : {D : Type 0} → Deed (Resources D) ProgramEnd → Type 0
LeavesDatabases done = done.after.has.databases ≡ done.before.has.databases

-- a command was carried out; one without settings uses no database, and the plain command alone
-- reads standard input (profile)
abbrev pub CarriesOut : {D S : Type 0} → Ports D S → Means → Command → Deed (Resources D) ProgramEnd
    → Type 0
CarriesOut by means command.Plain done =
    LeavesDatabases done
    × EndsPlain over_memory (within done.before.has.input done.after.has.input done)
CarriesOut by means (command.Init settings) done = LeavesInput (CreatesBy by settings.now) done
CarriesOut by means (command.Submit settings file) done =
    LeavesInput (SubmitsBy by settings.now file.now) done
CarriesOut by means (command.Query settings query) done =
    LeavesInput (AsksBy by settings.now (string_bytes query)) done
CarriesOut by means (command.Dump settings full) done =
    LeavesInput (DumpsBy by settings.now full) done
CarriesOut by means (command.Load settings file) done =
    LeavesInput (LoadsBy by settings.now file.now) done
CarriesOut by means (command.Migrate settings) done = LeavesInput (MigratesBy by settings.now) done
CarriesOut by means (command.Serve settings port count) done =
    LeavesInput (ServesBy by means (serve_words settings.now (listening port count))) done
CarriesOut by means (command.Probe settings) done =
    LeavesInput (ProbesBy by means settings.now) done
CarriesOut by means (command.Print text) done =
    LeavesDatabases done × (done.after.has.input ≡ done.before.has.input)
    × Prints (string_bytes text) done.before.output done.after.output done.ended
