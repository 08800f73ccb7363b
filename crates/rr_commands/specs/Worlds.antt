-- What commands use, and what they change, for the contracts of all commands (profile).
use Rattle.std.specs.Prelude.{ℕ, List}
use Rattle.sqlite_trees.specs.declared.store.Store.{Ghosts}
use Rattle.rr_io.specs.Told.{Told}
use Rattle.rr_desk.specs.Settings.{SettingsParts}
use Rattle.rr_commands.specs.Databases.{DatabaseCalls}
use Rattle.rr_commands.specs.Files.{FileCalls}
use Rattle.rr_commands.specs.declared.host.Host.{Host}

-- what the calls of a command do with databases, and with the one of a connection (profile)
pub record StoreCalls (D S : Type 0) : Type 1 where
  pub store : Ghosts S
  pub databases : DatabaseCalls D S

-- these two as a `StoreCalls`
abbrev pub at : {D S : Type 0} → Ghosts S → DatabaseCalls D S → StoreCalls D S
at store databases = record { store = store; databases = databases }

-- what the calls of a command do with databases, with the one of a connection, and with files
-- (profile)
pub record Ports (D S : Type 0) : Type 1 where
  pub stores : StoreCalls D S
  pub files : FileCalls

-- these three as `Ports`
abbrev pub ports : {D S : Type 0} → Ghosts S → DatabaseCalls D S → FileCalls → Ports D S
ports store databases files = record { stores = at store databases; files = files }

-- what a settings file names: the settings of a registry, and the path of its database (profile)
pub record Named : Type 0 where
  pub settings : SettingsParts
  pub path : List ℕ

-- these two as a `Named`
abbrev pub named : SettingsParts → List ℕ → Named
named settings path = record { settings = settings; path = path }

-- what a command changes: what keeps databases, a desk or a connection; and what standard output
-- told (profile)
pub record World (X : Type 0) : Type 0 where
  pub has : X
  pub output : Told

-- what was done: the world before and after, and how it ended (profile)
pub record Deed (X E : Type 0) : Type 0 where
  pub before : World X
  pub after : World X
  pub ended : E

-- what was done to what was `old` and is `new`, while standard output told `told_old` before and
-- `told_new` after, and how it ended
abbrev pub deed : {X E : Type 0} → X → X → Told → Told → E → Deed X E
deed old new told_old told_new ended = record {
  before = record { has = old; output = told_old };
  after = record { has = new; output = told_new };
  ended = ended;
}

-- what was done by a host: to what keeps its databases, and to what it prints to
abbrev pub done_by : {D W E : Type 0} → (W → Told) → Host D W → Host D W → E → Deed D E
done_by told old new ended = deed old.databases new.databases (told old.output) (told new.output)
    ended

-- what was done, seen as done to something else, from one state of that to the next
abbrev pub within : {X Y E : Type 0} → Y → Y → Deed X E → Deed Y E
within old new done = deed old new done.before.output done.after.output done.ended

-- what was done, with this in place of how it ended
abbrev pub ended_by : {X E F : Type 0} → F → Deed X E → Deed X F
ended_by ended done = record { before = done.before; after = done.after; ended = ended }
