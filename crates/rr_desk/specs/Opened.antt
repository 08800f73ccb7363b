-- Desks that are opened, made, loaded or migrated over a connection (profile): for the calls of
-- `Desk` that do it.
use Rattle.std.specs.Prelude.{◌≡◌, ◌≢◌, ℕ, false, IsTrue, List}
use Rattle.sqlite_trees.specs.declared.store.Store.{Ghosts}
use Rattle.sqlite_trees.specs.Tree.{Trees}
use Rattle.sqlite.specs.Effect.{Database}
use Rattle.sqlite.specs.declared.error.Error.{Error}
use Rattle.sqlite.specs.Held.{Held, state}
use Rattle.sqlite.specs.State.{Survives}
use Rattle.rr_auth.specs.Registries.{Reg}
use Rattle.rr_auth.specs.Sources.{IsRegistryOf}
use Rattle.rr_store.specs.Entries.{TreesOf}
use Rattle.rr_store.specs.Made.{HasItsTables, IsMadeWith, IsOccupied, IsVacant, no_schema}
use Rattle.rr_store.specs.Maps.{HasRows}
use Rattle.rr_store.specs.Tables.{HasTables}
use Rattle.rr_store.specs.Calls.{FailsOverTidy, OnCleanDisk, WhereOpen, WhileOpen, database}
use Rattle.rr_store.specs.Creating.{FailsOverRow}
use Rattle.rr_store.specs.Faults.{no_tables}
use Rattle.rr_store.specs.Opening.{IfStore, IsOfRows, SaysNoOther, SaysOther}
use Rattle.rr_store.specs.declared.store_fault.CreateFault.{CreateFault}
use Rattle.rr_store.specs.declared.store_fault.CreateFault.TheVariants.{NotEmpty, Store}
use Rattle.rr_store.specs.declared.store_fault.OpenFault.{OpenFault}
use Rattle.rr_store.specs.declared.store_fault.OpenFault.TheVariants as opened
use Rattle.rr_store.specs.declared.store_fault.OpenFault.TheVariants.{BadRow, WrongVersion}
use Rattle.rr_store.specs.declared.version.Version.TheVariants.{Current}
use Rattle.rr_desk.specs.declared.desk.Desk.{Desk}
use Rattle.rr_desk.specs.Opening.{IsOpeningRegistry}
use Rattle.rr_desk.specs.Rows.{CommitsNothing}
use Rattle.rr_desk.specs.Settings.{SettingsParts}
use Rattle.rr_desk.specs.Stocks.{StockParts, StoresRows}

-- the tables hold the rows of no registry of the source (profile)
abbrev pub HasNoRegistry : List ℕ → Database → Type 0
HasNoRegistry source db =
    (registry : Reg) → IsRegistryOf source registry → HasRows registry db → ⊥

-- the tables hold the rows of the registry that opens with these settings (profile)
pub record HasOpeningRows (settings : SettingsParts) (db : Database) : Type 0 where
  pub registry : Reg
  pub is_opening : IsOpeningRegistry settings registry
  pub rows : HasRows registry db

-- where something stands, but not the three tables, the database's error is that a table is not
-- there (profile)
abbrev pub TellsOtherTables : Database → Error → Type 0
TellsOtherTables db error = ¬ HasTables db.schema → db.schema ≢ no_schema → error ≡ no_tables

-- a desk by these settings runs: its registry is of their source, and its tables hold the rows of
-- it (profile)
pub record IsRunning {S : Type 0} (g : Ghosts S) (by : SettingsParts) (desk : Desk S) : Type 0 where
  pub running : desk.stock.stopped ≡ false
  pub settings : desk.settings ≡ by
  pub of_source : IsRegistryOf by.source desk.stock.registry
  pub holds : StoresRows g desk.stock

-- why tables are not opened: a row of `meta` says another version; or none says another of 32 bits,
-- and no registry of the source has their rows. Both are told only where the three tables are
-- there; where they are not, that is told (profile)
pub record RefusesRegistry (source : List ℕ) (db : Database) (fault : OpenFault) : Type 0 where
  pub wrong_version : (number : ℕ) → fault ≡ WrongVersion number → SaysOther Current number db
  pub bad_row : fault ≡ BadRow → HasNoRegistry source db
  pub no_other_said : fault ≡ BadRow → SaysNoOther Current db
  pub tables : IsOfRows fault → HasTables db.schema
  pub untabled : ¬ HasTables db.schema → fault ≡ opened.Store no_tables

-- What these say of rows, of tables that were opened or made, and that a connection was open, holds
-- where the disk gives back what was written. Each `crash` also says (`Survives`) that no fault of
-- the disk is forgotten, and nothing but such a fault shuts the connection. Its limit of steps and
-- its tests of reads stay.
module _ {S : Type 0} (g : Ghosts S) where
  -- tables were opened, over a connection that was open: their rows are those of the registry, and
  -- nothing was changed or committed (profile)
  pub record OpensTables (conn : Held S) (opened : StockParts S) : Type 0 where
    pub was_open : OnCleanDisk g opened.store (IsTrue (state g conn).is_open)
    pub rows : OnCleanDisk g opened.store (HasRows opened.registry (database g conn))
    pub same : OnCleanDisk g opened.store (database g opened.store ≡ database g conn)
    pub crash : CommitsNothing (state g conn) (state g opened.store)

  -- what may be committed where tables are made in a database that had room for them, over a
  -- connection that was open. It is the tables of a new store with these rows, and all else as it
  -- was (profile)
  abbrev pub CommitsTables : (Database → Type 0) → Held S → Trees → Type 0
  CommitsTables rows conn = WhereOpen g conn (TreesOf (IsMadeWith rows (database g conn)))

  -- tables were made, those of a new store, in a database that had room for them, over a connection
  -- that was open, and all else stays. A stop of the process leaves what there was or tables with
  -- these rows (profile)
  pub record MakesTables (rows : Database → Type 0) (conn made : Held S) : Type 0 where
    pub was_open : OnCleanDisk g made (IsTrue (state g conn).is_open)
    pub vacant : OnCleanDisk g made (IsVacant (database g conn))
    pub tables : OnCleanDisk g made (HasItsTables (database g conn) (database g made))
    pub crash : Survives (state g conn) (state g made) (CommitsTables rows conn)

  -- a connection is given back in no transaction: while it is open, it was open before and what
  -- there was stands. A stop of the process leaves what it left before or what may have been
  -- committed (profile)
  pub record GivesBack (commits : Trees → Type 0) (conn left : Held S) : Type 0 where
    pub autocommit : left.in_transaction ≡ false
    pub was_open : WhileOpen g left (IsTrue (state g conn).is_open)
    pub kept : WhileOpen g left (database g left ≡ database g conn)
    pub crash : Survives (state g conn) (state g left) commits

  -- no tables were opened, and nothing was committed
  abbrev pub OpensNone : Held S → Held S → Type 0
  OpensNone = GivesBack (λ _. ⊥)

  -- no tables were made, and what there was stands. A stop of the process leaves what it left
  -- before or, where the connection was open and there was room for them, tables with these rows
  abbrev pub MakesNone : (Database → Type 0) → Held S → Held S → Type 0
  MakesNone rows conn = GivesBack (CommitsTables rows conn) conn

  -- no tables were opened, and the fault says why; where their rows have numbers of their own, an
  -- error of the database has a cause outside the rows (profile)
  pub record FailsToOpenTables (source : List ℕ) (conn left : Held S) (fault : OpenFault)
      : Type 0 where
    pub none : OpensNone conn left
    pub why : OnCleanDisk g left (RefusesRegistry source (database g conn) fault)
    pub store : IfStore (FailsOverTidy g conn left) fault

  -- no tables with these rows were made. `NotEmpty` is told only where one of the three tables has
  -- a row, and where one has, an error of the database has a cause outside the rows. Where
  -- something stands, but not the three, such an error is that a table is not there (profile)
  pub record FailsToMakeTables (rows : Database → Type 0) (conn left : Held S) (fault : CreateFault)
      : Type 0 where
    pub none : MakesNone rows conn left
    pub not_empty : fault ≡ NotEmpty → OnCleanDisk g left (IsOccupied (database g conn))
    pub store : (error : Error) → fault ≡ Store error → FailsOverRow g conn left error
    pub untabled : (error : Error) → fault ≡ Store error
        → TellsOtherTables (database g conn) error
