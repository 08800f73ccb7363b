-- What migration makes of tables of version 1, and what becomes of the call that migrates them: for
-- `Store::migrate`. `rr_desk` adds the block to new registries too.
use Rattle.std.specs.Prelude.{◌≡◌, ◌⊎◌, ℕ, Bool, true, false, List, [], ◌∷◌, ◌++◌}
use Rattle.std.specs.Prelude.{IsTrue, codes}
use Rattle.std.specs.List.{list_any}
use Rattle.sqlite_trees.specs.declared.store.Store.{Ghosts}
use Rattle.sqlite.specs.declared.error.Error.{Error}
use Rattle.sqlite.specs.Effect.{Database}
use Rattle.sqlite.specs.Held.{Held, state}
use Rattle.sqlite.specs.State.{Survives}
use Rattle.rr_text.specs.Fields.{Field, one_line}
pub use Rattle.rr_object.specs.Keys.{is_mntner_of}
use Rattle.rr_object.specs.Objects.{Obj}
use Rattle.rr_object.specs.Readings.{ReadsAs}
use Rattle.rr_store.specs.Contents.{IsTidy, KeepsOthers}
use Rattle.rr_store.specs.Entries.{TreesOf}
use Rattle.rr_store.specs.Maps.{AreOldStored, AreStored}
use Rattle.rr_store.specs.Tables.{HasTables}
use Rattle.rr_store.specs.Calls.{IsCaused, IsOpen, IsSettled, OnCleanDisk, WhereOpen, WhileOpen}
use Rattle.rr_store.specs.Calls.{database}
use Rattle.rr_store.specs.Faults.{no_tables}
use Rattle.rr_store.specs.Opening.{HoldNone, SaysNoOther, SaysOther}
use Rattle.rr_store.specs.declared.version.Version.TheVariants.{Old}
use Rattle.rr_store.specs.declared.store_fault.MigrateFault.{MigrateFault}
use Rattle.rr_store.specs.declared.store_fault.MigrateFault.TheVariants.{WrongVersion, BadRow}
use Rattle.rr_store.specs.declared.store_fault.MigrateFault.TheVariants.{NoRoot}
use Rattle.rr_store.specs.declared.store_fault.MigrateFault.TheVariants.{Store, Memory}

-- the block of the AS numbers of more than 16 bits (RFC 6793), which the root maintains
-- (profile)
abbrev pub upper_block : List ℕ → List ℕ → List Field
upper_block root source =
    one_line (codes "as-block") (codes "AS65536 - AS4294967295")
    ∷ (one_line (codes "mnt-by") root ∷ (one_line (codes "source") source ∷ []))

-- one of the objects is the mntner of a name
abbrev pub has_mntner : List ℕ → List Obj → Bool
has_mntner name objects = list_any (λ object. is_mntner_of name object.key) objects

-- tables of version 1 held objects of the source, the root's mntner among them. Tables of version 2
-- now hold the same objects and the block of the AS numbers of more than 16 bits, and all else
-- stays (profile)
pub record IsMigrated (root source : List ℕ) (old new : Database) : Type 0 where
  pub objects : List Obj
  pub upper : Obj
  pub before : AreOldStored source objects old
  pub registered : has_mntner root objects ≡ true
  pub read : ReadsAs source (upper_block root source) upper
  pub after : AreStored source (objects ++ upper ∷ []) new
  pub others : KeepsOthers old new

-- tables of version 1 hold objects of the source, and none is the root's mntner (profile)
pub record HasNoRoot (root source : List ℕ) (db : Database) : Type 0 where
  pub objects : List Obj
  pub before : AreOldStored source objects db
  pub missing : has_mntner root objects ≡ false

-- tables of version 1 hold objects of the source, the root's mntner among them (profile)
pub record HasRoot (root source : List ℕ) (db : Database) : Type 0 where
  pub objects : List Obj
  pub before : AreOldStored source objects db
  pub registered : has_mntner root objects ≡ true

-- the fault is of the rows, and not of the database or of memory (profile)
abbrev pub IsOfOldRows : MigrateFault → Type 0
IsOfOldRows (WrongVersion number) = Unit {0}
IsOfOldRows BadRow = Unit {0}
IsOfOldRows NoRoot = Unit {0}
IsOfOldRows (Store error) = ⊥
IsOfOldRows Memory = ⊥

-- what a fault says of tables that are not migrated. A row of `meta` says another version. Or none
-- says another of 32 bits, and these are not tables of version 1 with objects of the source. Or
-- they are, and lack the root's mntner. All are told only where the three tables are there; where
-- they are not, that is told (profile)
pub record RefusesOldTables (root source : List ℕ) (db : Database) (fault : MigrateFault)
    : Type 0 where
  pub wrong_version : (number : ℕ) → fault ≡ WrongVersion number → SaysOther Old number db
  pub bad_row : fault ≡ BadRow → HoldNone Old source db
  pub no_other_said : fault ≡ BadRow → SaysNoOther Old db
  pub tables : IsOfOldRows fault → HasTables db.schema
  pub untabled : ¬ HasTables db.schema → fault ≡ Store no_tables
  pub no_root : fault ≡ NoRoot → HasNoRoot root source db

module _ {S : Type 0} (g : Ghosts S) (root source : List ℕ) (conn : Held S) where
  -- where the tables were tidy, the database's error has a cause outside the rows, or tables of
  -- version 1 hold the root's mntner. Then no clause says why writing them anew failed
  abbrev pub FailsOverOldRows : Held S → Error → Type 0
  FailsOverOldRows left error = IsTidy (database g conn) → OnCleanDisk g left
      (IsCaused (state g conn) (state g left) error ⊎ HasRoot root source (database g conn))

  -- what a stop may leave beside what it left before: the migrated tables, where the connection was
  -- open
  abbrev pub LeavesMigrated : Held S → Type 0
  LeavesMigrated new = Survives (state g conn) (state g new)
      (WhereOpen g conn (TreesOf (IsMigrated root source (database g conn))))

  -- the tables are migrated, over a connection that was open, and the store of their objects and
  -- the block is open. A stop during the call leaves what it left before or the migrated tables;
  -- one after it the rows that stand, while the connection is open
  pub record MigratesStore (store : Held S) : Type 0 where
    pub migrated : OnCleanDisk g store (IsMigrated root source (database g conn) (database g store))
    pub was_open : OnCleanDisk g store (IsTrue (state g conn).is_open)
    pub is_open : IsOpen g store
    pub settled : IsSettled g store
    pub crash : LeavesMigrated store

  -- no transaction is under way, and the rows are as they were, while the connection is open, which
  -- it then was before. A fault of the rows says why they are not migrated, and one of the database
  -- what `FailsOverOldRows` has. A stop leaves what it may leave after a call that migrates them
  pub record FailsToMigrate (left : Held S) (fault : MigrateFault) : Type 0 where
    pub autocommit : left.in_transaction ≡ false
    pub was_open : WhileOpen g left (IsTrue (state g conn).is_open)
    pub kept : WhileOpen g left (database g left ≡ database g conn)
    pub settled : IsSettled g left
    pub why : OnCleanDisk g left (RefusesOldTables root source (database g conn) fault)
    pub store : (error : Error) → fault ≡ Store error → FailsOverOldRows left error
    pub crash : LeavesMigrated left
