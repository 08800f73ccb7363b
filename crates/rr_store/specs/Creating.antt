-- What becomes of a call that makes a store: for `Store::create`.
use Rattle.std.specs.Prelude.{◌≡◌, ◌≢◌, false, IsTrue, List, map}
use Rattle.std.specs.List.{AllByRecursion}
use Rattle.sqlite_trees.specs.declared.store.Store.{Ghosts}
use Rattle.sqlite.specs.declared.error.Error.{Error}
use Rattle.sqlite.specs.Effect.{Database}
use Rattle.sqlite.specs.Held.{Held, state}
use Rattle.sqlite.specs.State.{Survives}
use Rattle.rr_object.specs.Objects.{Obj}
use Rattle.rr_store.specs.Entries.{TreesOf, entry_of}
use Rattle.rr_store.specs.Made.{HasItsTables, HasSomeRow, IsMadeWith, IsOccupied, IsVacant}
use Rattle.rr_store.specs.Made.{no_schema}
use Rattle.rr_store.specs.Maps.{IsFilled, IsObject}
use Rattle.rr_store.specs.Tables.{HasTables}
use Rattle.rr_store.specs.Calls.{FailsFor, IsOpen, IsSettled, OnCleanDisk, WhereOpen, WhileOpen}
use Rattle.rr_store.specs.Calls.{database}
use Rattle.rr_store.specs.Faults.{no_tables}
use Rattle.rr_store.specs.declared.store_fault.CreateFault.{CreateFault}
use Rattle.rr_store.specs.declared.store_fault.CreateFault.TheVariants.{Memory, NotEmpty, Store}

-- the tables hold the rows of these objects, which are such as readers make, and no others, and are
-- of version 2 (profile)
pub record IsStoreOf (objects : List Obj) (db : Database) : Type 0 where
  pub read : AllByRecursion IsObject objects
  pub filled : IsFilled (map entry_of objects) db

-- where one of the three tables has a row, the database's error has a cause outside the rows
abbrev pub FailsOverRow : {S : Type 0} → Ghosts S → Held S → Held S → Error → Type 0
FailsOverRow g old new error =
    HasTables (database g old).schema → HasSomeRow (database g old) → FailsFor g old new error

module _ {S : Type 0} (g : Ghosts S) (objects : List Obj) (conn : Held S) where
  -- what a stop may leave beside what it left before: the whole store of the objects, where the
  -- connection was open and the database had room for it
  abbrev pub LeavesStore : Held S → Type 0
  LeavesStore new = Survives (state g conn) (state g new)
      (WhereOpen g conn (TreesOf (IsMadeWith (IsStoreOf objects) (database g conn))))

  -- a database that had room for a new store is now the store of the objects, with the tables of a
  -- new store. The connection was open and is. A stop during the call leaves what it left before or
  -- the store; one after it the rows that stand, while the connection is open (profile)
  pub record MakesStore (store : Held S) : Type 0 where
    pub filled : OnCleanDisk g store (IsStoreOf objects (database g store))
    pub tables : OnCleanDisk g store (HasItsTables (database g conn) (database g store))
    pub was_open : OnCleanDisk g store (IsTrue (state g conn).is_open)
    pub is_open : IsOpen g store
    pub settled : IsSettled g store
    pub vacant : OnCleanDisk g store (IsVacant (database g conn))
    pub crash : LeavesStore store

  -- no transaction is under way, and tables and rows are as they were, while the connection is
  -- open, which it then was before. Where the three tables had a row, and only there, the fault is
  -- `NotEmpty`, unless the database failed for a cause outside the rows. Where something stood, but
  -- not the three, the fault is that a table is not there. A stop leaves what it may leave after a
  -- call that makes the store
  pub record FailsToMake (left : Held S) (fault : CreateFault) : Type 0 where
    pub autocommit : left.in_transaction ≡ false
    pub was_open : WhileOpen g left (IsTrue (state g conn).is_open)
    pub kept : WhileOpen g left (database g left ≡ database g conn)
    pub settled : IsSettled g left
    pub not_empty : fault ≡ NotEmpty
        → OnCleanDisk g left (IsOccupied (database g conn))
    pub store : (error : Error) → fault ≡ Store error → FailsOverRow g conn left error
    pub memory : OnCleanDisk g left (fault ≡ Memory
        → HasTables (database g conn).schema → ¬ HasSomeRow (database g conn))
    pub untabled : ¬ HasTables (database g conn).schema
        → (database g conn).schema ≢ no_schema → fault ≡ Store no_tables
    pub crash : LeavesStore left
