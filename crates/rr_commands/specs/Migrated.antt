-- What `irrdesk migrate` does, by how it ends, for the contracts of `migrate` and `migrate_to`.
-- What is said of rows holds where the disk gives back what was written (profile).
use Rattle.std.specs.Prelude.{◌≡◌, ◌⊎◌, ℕ, Bool, true, false, List, Err, IsTrue, codes}
use Rattle.sqlite_trees.specs.declared.store.Store.{Ghosts}
use Rattle.sqlite.specs.Held.{Held}
use Rattle.rr_store.specs.declared.store_fault.MigrateFault.{MigrateFault}
use Rattle.rr_store.specs.declared.store_fault.MigrateFault.TheVariants as migrating
use Rattle.rr_desk.specs.Migrating.{FailsToMigrateTables, MigratesTables}
use Rattle.rr_desk.specs.Opened.{IsRunning}
use Rattle.rr_desk.specs.Settings.{SettingsParts}
use Rattle.rr_desk.specs.declared.desk.Desk.{Desk}
use Rattle.rr_commands.specs.Commands.{Act, ActsBySettings, CommandEnd, InDatabase, LooksAt}
use Rattle.rr_commands.specs.Commands.{ProgramEnd}
use Rattle.rr_commands.specs.Faults.{IsAbout}
use Rattle.rr_commands.specs.Worlds.{Deed, Ports, ended_by, within}
use Rattle.rr_commands.specs.Found.{is_found_unmigrated}
use Rattle.rr_commands.specs.Printed.{HasTold}
use Rattle.rr_commands.specs.declared.registry_databases.Absent.TheVariants.{Refused}
use Rattle.rr_commands.specs.declared.trouble.Trouble.{Trouble}
use Rattle.rr_commands.specs.declared.trouble.Trouble.TheVariants.{Migrating}

-- the line that says that tables were migrated (profile)
abbrev pub migrated_line : List ℕ
migrated_line = codes "migrated to version 2\n"

module _ {S : Type 0} (g : Ghosts S) (settings : SettingsParts) where
  -- the tables were not migrated, the fault says why, and nothing was printed (profile)
  pub record IsUnmigrated (done : Deed (Held S) CommandEnd) : Type 0 where
    pub fault : MigrateFault
    pub told : done.ended ≡ Err (Migrating fault)
    pub fails : FailsToMigrateTables g settings done.before.has done.after.has fault
    pub silent : done.after.output ≡ done.before.output

  -- the rows of a registry of version 1 were made those of version 2, with the block of the other
  -- AS numbers. A desk runs over them with the settings. The connection is given back, and the line
  -- that says so was written, or could not be written whole (RFC 6793; profile)
  pub record HasMigrated (done : Deed (Held S) CommandEnd) : Type 0 where
    pub desk : Desk S
    pub runs : IsRunning g settings desk
    pub migrates : MigratesTables g settings done.before.has desk.stock
    pub given_back : done.after.has ≡ desk.stock.store
    pub tells : HasTold migrated_line done

-- what `irrdesk migrate` does in a database, before a further look at it (profile)
abbrev pub MigratesIn : {S : Type 0} → Ghosts S → SettingsParts → Act (Held S)
MigratesIn g settings done = IsUnmigrated g settings done ⊎ HasMigrated g settings done

-- the database was refused, and what is told is of a kind that a further look at it may find
-- (profile)
pub record IsFoundOut (first ended : CommandEnd) : Type 0 where
  pub fault : MigrateFault
  pub told_first : first ≡ Err (Migrating fault)
  pub trouble : Trouble
  pub found : IsTrue (is_found_unmigrated fault trouble)
  pub told : ended ≡ Err trouble

-- what is told of a migration: how it ended, or what a further look at the database may find
-- (profile)
abbrev pub IsDiagnosis : CommandEnd → CommandEnd → Type 0
IsDiagnosis first ended = (ended ≡ first) ⊎ IsFoundOut first ended

-- a database that is not migrated for this fault is looked at. It was refused by its error, for its
-- rows, for its version or for want of the root (profile)
abbrev pub is_looked_at : MigrateFault → Bool
is_looked_at (migrating.Store error) = true
is_looked_at migrating.BadRow = true
is_looked_at (migrating.WrongVersion version) = true
is_looked_at migrating.NoRoot = true
is_looked_at _ = false

-- a migration ended by a fault after which the database is looked at (profile)
abbrev pub IsLookedAt : CommandEnd → Type 0
IsLookedAt first =
    (fault : MigrateFault) × (first ≡ Err (Migrating fault)) × IsTrue (is_looked_at fault)

-- a database stays as it was left, or was looked at, which is done only if it was refused for such
-- a fault (profile)
abbrev pub LooksAtRefused : {S : Type 0} → Ghosts S → CommandEnd → Held S → Held S → Type 0
LooksAtRefused g first left after =
    (after ≡ left) ⊎ (IsLookedAt first × LooksAt g left after)

-- the command did this, left this connection and ended as `first`; what is told is that, or what a
-- look at a database that was refused may find. The look commits nothing (profile)
pub record IsDiagnosed {S : Type 0} (g : Ghosts S) (does : Act (Held S))
    (done : Deed (Held S) CommandEnd) : Type 0 where
  pub first : CommandEnd
  pub left : Held S
  pub did : does (within done.before.has left (ended_by first done))
  pub looks : LooksAtRefused g first left done.after.has
  pub diagnosis : IsDiagnosis first done.ended

-- what `irrdesk migrate` does. If its settings file gives no settings, or the database that these
-- name is refused, nothing is printed, and the fault says why. Otherwise tables are migrated there
-- or not (`MigratesIn`). If they are not, the database may be looked at (`IsDiagnosed`). Then it is
-- closed. A fault shows the place of its trouble (profile)
abbrev pub MigratesBy : {D S : Type 0} → Ports D S → List ℕ → Deed D ProgramEnd → Type 0
MigratesBy by file = ActsBySettings by.files file (IsAbout file)
    (InDatabase by.stores Refused (λ settings. IsDiagnosed by.stores.store
    (MigratesIn by.stores.store settings)))
