-- What becomes of a call that opens a store, or reads tables of version 1: for `Store::open_all`
-- and `Store::old_objects`.
use Rattle.std.specs.Prelude.{◌≡◌, ◌≢◌, ℕ, ◌<◌, ◌^◌, List, IsTrue, Result, IfErr, IfOk}
use Rattle.std.specs.List.{AllByRecursion}
use Rattle.sqlite_trees.specs.declared.store.Store.{Ghosts}
use Rattle.sqlite.specs.declared.error.Error.{Error}
use Rattle.sqlite.specs.Effect.{Database}
use Rattle.sqlite.specs.Held.{Held, state}
use Rattle.sqlite.specs.State.{Survives}
use Rattle.rr_object.specs.Objects.{Obj}
use Rattle.rr_store.specs.Contents.{meta_rows}
use Rattle.rr_store.specs.Maps.{AreInOrder, AreStored, AreStoredIn, IsObjectOf}
use Rattle.rr_store.specs.Tables.{HasTables, meta_tree}
use Rattle.rr_store.specs.Calls.{FailsOverTidy, IsOpen, IsSettled, Looks, OnCleanDisk, Rests}
use Rattle.rr_store.specs.Calls.{database}
use Rattle.rr_store.specs.Faults.{no_tables}
use Rattle.rr_store.specs.Versions.{SaysVersion, form_of, version_number, version_text}
use Rattle.rr_store.specs.declared.store_fault.OpenFault.{OpenFault}
use Rattle.rr_store.specs.declared.store_fault.OpenFault.TheVariants.{WrongVersion, BadRow, Store}
use Rattle.rr_store.specs.declared.store_fault.OpenFault.TheVariants.{Memory}
use Rattle.rr_store.specs.declared.version.Version.{Version}
use Rattle.rr_store.specs.declared.version.Version.TheVariants.{Current}

-- a row of `meta` says the version of this number, and that is not the version asked for (profile)
abbrev pub SaysOther : Version → ℕ → Database → Type 0
SaysOther version number db =
    (number ≢ version_number version) × SaysVersion number (meta_rows (db.trees meta_tree))

-- no row of `meta` says that the tables are of another version of 32 bits than that asked for
-- (profile)
pub record SaysNoOther (version : Version) (db : Database) : Type 0 where
  pub only : (number : ℕ) → number < 2 ^ 32 → SaysVersion number (meta_rows (db.trees meta_tree))
      → number ≡ version_number version

-- the objects are such as readers make in a registry of the source
abbrev pub AreObjectsOf : List ℕ → List Obj → Type 0
AreObjectsOf source = AllByRecursion (IsObjectOf source)

-- the objects stand in the order of class and key, no two have the same key, and each is such as
-- readers make in a registry of the source
pub record AreListed (source : List ℕ) (objects : List Obj) : Type 0 where
  pub in_order : AreInOrder objects
  pub of_source : AreObjectsOf source objects

-- the tables of this version hold the rows of these objects and no others. All are of the source,
-- no two have the same key, and each key has a text there (profile)
abbrev pub AreStoredAs : Version → List ℕ → List Obj → Database → Type 0
AreStoredAs version = AreStoredIn (form_of version) (version_text version)

-- the tables are not those of this version with exactly the rows of objects of the source, no two
-- of one key (profile)
abbrev pub HoldNone : Version → List ℕ → Database → Type 0
HoldNone version source db = (objects : List Obj) → AreStoredAs version source objects db → ⊥

-- the fault is of the rows, and not of the database or of memory
abbrev pub IsOfRows : OpenFault → Type 0
IsOfRows (WrongVersion number) = Unit {0}
IsOfRows BadRow = Unit {0}
IsOfRows (Store error) = ⊥
IsOfRows Memory = ⊥

-- where the fault is the database's error, this is true of it
abbrev pub IfStore : (Error → Type 0) → OpenFault → Type 0
IfStore P fault = (error : Error) → fault ≡ Store error → P error

-- what a fault says of tables that are not read as those of the version asked for. A row of `meta`
-- says another version; or none says another of 32 bits, and these are not such tables. Both are
-- told only where the three tables are there; where they are not, that is told (profile)
pub record RefusesTables (version : Version) (source : List ℕ) (db : Database) (fault : OpenFault)
    : Type 0 where
  pub wrong_version : (number : ℕ) → fault ≡ WrongVersion number
      → SaysOther version number db
  pub bad_row : fault ≡ BadRow → HoldNone version source db
  pub no_other_said : fault ≡ BadRow → SaysNoOther version db
  pub tables : IsOfRows fault → HasTables db.schema
  pub untabled : ¬ HasTables db.schema → fault ≡ Store no_tables

-- rows are read, and nothing changes. Where the disk has returned what was written, this is read of
-- the tables, or this is why they are not read. Where they were tidy, the database's error has a
-- cause outside the rows
pub record Inspects {S : Type 0} (g : Ghosts S) {X : Type 0} (old new : Held S)
    (result : Result X OpenFault) (Read : Database → X → Type 0)
    (Why : Database → OpenFault → Type 0) : Type 0 where
  pub looks : Looks g old new result
  pub read : OnCleanDisk g new (IfOk result (Read (database g old)))
  pub why : OnCleanDisk g new (IfErr result (Why (database g old)))
  pub cause : IfErr result (IfStore (FailsOverTidy g old new))

-- rows are read, and nothing changes, as `Inspects` has it; and what is read has one property more,
-- which does not depend on what the disk returned (profile)
pub record InspectsWith {S : Type 0} (g : Ghosts S) {X : Type 0} (old new : Held S)
    (result : Result X OpenFault) (Listed : X → Type 0) (Read : Database → X → Type 0)
    (Why : Database → OpenFault → Type 0) : Type 0 where
  pub inspects : Inspects g old new result Read Why
  pub listed : IfOk result Listed

module _ {S : Type 0} (g : Ghosts S) (source : List ℕ) (conn : Held S) where
  -- the store of these objects is open, in order of class and key, with the rows as they were, over
  -- a connection that was open. A stop during the call leaves what it left before; one after it the
  -- rows that stand, while the connection is open (profile)
  pub record OpensStore (store : Held S) (objects : List Obj) : Type 0 where
    pub stored : OnCleanDisk g store (AreStored source objects (database g store))
    pub in_order : AreInOrder objects
    pub of_source : AreObjectsOf source objects
    pub same : OnCleanDisk g store (database g store ≡ database g conn)
    pub was_open : OnCleanDisk g store (IsTrue (state g conn).is_open)
    pub is_open : IsOpen g store
    pub settled : IsSettled g store
    pub crash : Survives (state g conn) (state g store) (λ _. ⊥)

  -- nothing changes while the connection is open, and a fault of the rows says why they are not
  -- read. Where the tables were tidy, the database's error has a cause outside the rows. What a
  -- stop leaves is as after a call that opens the store
  pub record FailsToOpen (left : Held S) (fault : OpenFault) : Type 0 where
    pub rests : Rests g conn left
    pub settled : IsSettled g left
    pub why : OnCleanDisk g left (RefusesTables Current source (database g conn) fault)
    pub store : IfStore (FailsOverTidy g conn left) fault
