-- Tables of version 1 that a desk migrates (profile): for `Desk::migrate` and for histories.
use Rattle.std.specs.Prelude.{◌≡◌, ◌⊎◌, ℕ, false, IsTrue, List, [], ◌∷◌, ◌++◌}
use Rattle.std.specs.FinMap.{values}
use Rattle.sqlite_trees.specs.declared.store.Store.{Ghosts}
use Rattle.sqlite_trees.specs.Tree.{Trees}
use Rattle.sqlite.specs.Effect.{Database}
use Rattle.sqlite.specs.declared.error.Error.{Error}
use Rattle.sqlite.specs.Held.{Held, state}
use Rattle.sqlite.specs.State.{Survives}
use Rattle.rr_object.specs.Objects.{Obj}
use Rattle.rr_object.specs.Readings.{ReadsAs}
use Rattle.rr_auth.specs.Registries.{Reg, Sound}
use Rattle.rr_auth.specs.Sources.{IsRegistryOf}
use Rattle.rr_registry.specs.Loading.{IsTaken}
use Rattle.rr_store.specs.Contents.{IsTidy}
use Rattle.rr_store.specs.Entries.{TreesOf}
use Rattle.rr_store.specs.Maps.{AreOldStored, HasRows}
use Rattle.rr_store.specs.Tables.{HasTables}
use Rattle.rr_store.specs.Calls.{IsCaused, OnCleanDisk, WhereOpen, database}
use Rattle.rr_store.specs.Faults.{no_tables}
use Rattle.rr_store.specs.Migrating.{IsMigrated, IsOfOldRows, has_mntner, upper_block}
use Rattle.rr_store.specs.Opening.{SaysNoOther, SaysOther}
use Rattle.rr_store.specs.declared.store_fault.MigrateFault.{MigrateFault}
use Rattle.rr_store.specs.declared.store_fault.MigrateFault.TheVariants.{BadRow, NoRoot, Store}
use Rattle.rr_store.specs.declared.store_fault.MigrateFault.TheVariants.{WrongVersion}
use Rattle.rr_store.specs.declared.version.Version.TheVariants.{Old}
use Rattle.rr_desk.specs.Opened.{GivesBack}
use Rattle.rr_desk.specs.Settings.{SettingsParts}
use Rattle.rr_desk.specs.Stocks.{StockParts}

-- objects are those of a sound registry (profile)
pub record AreRegistry (objects : List Obj) : Type 0 where
  pub registry : Reg
  pub taken : IsTaken objects registry
  pub sound : Sound registry

-- a registry has these objects and the block of the AS numbers of more than 16 bits, which the root
-- maintains, and no others, and is sound (RFC 6793; profile)
pub record HasUpper (settings : SettingsParts) (objects : List Obj) (registry : Reg) : Type 0 where
  pub upper : Obj
  pub read : ReadsAs settings.source (upper_block settings.root settings.source) upper
  pub taken : IsTaken (objects ++ upper ∷ []) registry
  pub sound : Sound registry

-- the objects of tables of version 1 are a sound registry, and this one has them and the block of
-- the AS numbers of more than 16 bits (profile)
pub record IsGrown (settings : SettingsParts) (old : Database) (registry : Reg) : Type 0 where
  pub objects : List Obj
  pub before : AreOldStored settings.source objects old
  pub sound : AreRegistry objects
  pub grown : HasUpper settings objects registry

-- there is a registry to which tables of version 1 can be migrated by settings (profile)
pub record CanGrow (settings : SettingsParts) (old : Database) : Type 0 where
  pub registry : Reg
  pub grown : IsGrown settings old registry

-- tables of version 1 hold the rows of no registry of the source (profile)
abbrev pub HasNoOldRegistry : List ℕ → Database → Type 0
HasNoOldRegistry source db =
    (registry : Reg) → IsRegistryOf source registry → AreOldStored source (values registry) db
    → ⊥

-- the objects of tables of version 1 are a sound registry, in which the root is not a maintainer
-- (profile)
pub record IsRootless (settings : SettingsParts) (old : Database) : Type 0 where
  pub objects : List Obj
  pub before : AreOldStored settings.source objects old
  pub sound : AreRegistry objects
  pub missing : has_mntner settings.root objects ≡ false

-- why tables are not migrated. A row of `meta` says another version. Or none says another of 32
-- bits, and no registry of the source has their rows in version 1. Or one has, and the root is not
-- a maintainer in it. All are told only where the three tables are there; where they are not, that
-- is told (profile)
pub record RefusesOldRegistry (settings : SettingsParts) (db : Database) (fault : MigrateFault)
    : Type 0 where
  pub wrong_version : (number : ℕ) → fault ≡ WrongVersion number → SaysOther Old number db
  pub bad_row : fault ≡ BadRow → HasNoOldRegistry settings.source db
  pub no_other_said : fault ≡ BadRow → SaysNoOther Old db
  pub tables : IsOfOldRows fault → HasTables db.schema
  pub untabled : ¬ HasTables db.schema → fault ≡ Store no_tables
  pub no_root : fault ≡ NoRoot → IsRootless settings db

-- tables of version 1 are migrated, with the root and the source of settings (profile)
abbrev pub IsMigratedBy : SettingsParts → Database → Database → Type 0
IsMigratedBy settings = IsMigrated settings.root settings.source

-- tables of version 1 are migrated by settings to those of a registry, which has their objects and
-- the block (profile)
pub record IsMigratedTo (settings : SettingsParts) (old new : Database) : Type 0 where
  pub migrated : IsMigratedBy settings old new
  pub registry : Reg
  pub grown : IsGrown settings old registry
  pub rows : HasRows registry new

-- what may be committed where tables are migrated: the new ones, where the connection was open
-- (profile)
abbrev pub CommitsMigrated : {S : Type 0} → Ghosts S → SettingsParts → Held S → Trees → Type 0
CommitsMigrated g settings conn =
    WhereOpen g conn (TreesOf (IsMigratedTo settings (database g conn)))

-- tables of version 1 were migrated to those of this registry, over a connection that was open. A
-- stop of the process leaves what it left before or the new ones. This holds where the disk gives
-- back what was written (profile)
pub record MigratesTables {S : Type 0} (g : Ghosts S) (settings : SettingsParts) (conn : Held S)
    (stored : StockParts S) : Type 0 where
  pub was_open : OnCleanDisk g stored.store (IsTrue (state g conn).is_open)
  pub grown : OnCleanDisk g stored.store
      (IsGrown settings (database g conn) stored.registry)
  pub migrated : OnCleanDisk g stored.store
      (IsMigratedBy settings (database g conn) (database g stored.store))
  pub crash : Survives (state g conn) (state g stored.store) (CommitsMigrated g settings conn)

-- let the rows have numbers of their own, and the disk give back what was written. Then an error of
-- the database has a cause outside the rows, or there is a registry as which they are to be written
-- anew (profile)
abbrev pub FailsMigrating : {S : Type 0} → Ghosts S → SettingsParts → Held S → Held S
    → MigrateFault → Type 0
FailsMigrating g settings conn left fault =
    (error : Error) → fault ≡ Store error → IsTidy (database g conn) → OnCleanDisk g left
    (IsCaused (state g conn) (state g left) error ⊎ CanGrow settings (database g conn))

-- the tables were not migrated, the fault says why, and what there was stands. A stop of the
-- process leaves what it left before or, where the connection was open and they could be migrated,
-- the new ones. This holds where the disk gives back what was written (profile)
pub record FailsToMigrateTables {S : Type 0} (g : Ghosts S) (settings : SettingsParts)
    (conn left : Held S) (fault : MigrateFault) : Type 0 where
  pub none : GivesBack g (CommitsMigrated g settings conn) conn left
  pub why : OnCleanDisk g left (RefusesOldRegistry settings (database g conn) fault)
  pub store : FailsMigrating g settings conn left fault
