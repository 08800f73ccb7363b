-- What a call leaves of a connection: for the calls of `Store`, and for the desks that make them.
-- Clauses that cite `Survives` also say that no fault of the disk is forgotten, and that nothing
-- but such a fault shuts the connection. They say that its limit of steps and its tests of reads
-- stay.
use Rattle.std.specs.Prelude.{◌≡◌, ◌⊎◌, false, Result, IsSome, IsTrue, OnErr, OnOk}
use Rattle.sqlite_trees.specs.declared.error.StoreError.{StoreError}
use Rattle.sqlite_trees.specs.declared.store.Store.{Ghosts}
use Rattle.sqlite_trees.specs.Tree.{Trees}
use Rattle.sqlite.specs.declared.error.Error.{Error}
use Rattle.sqlite.specs.declared.error.Error.TheVariants.{SqliteFailure}
use Rattle.sqlite.specs.declared.error.ErrorCode.TheVariants.{OperationInterrupted}
use Rattle.sqlite.specs.Effect.{Database}
use Rattle.sqlite.specs.Held.{Held, state}
use Rattle.sqlite.specs.State.{HasCause, HasCleanDisk, IsUnchanged, State, Survives, store_error}
use Rattle.rr_store.specs.Contents.{IsTidy}
use Rattle.rr_store.specs.Entries.{TreesOf}

-- the database's error names a cause outside the rows. Memory ran out, of which nothing shows; the
-- disk failed or refused, which is counted; the connection was shut; or the call was interrupted,
-- and the connection had a limit of steps
abbrev pub IsCaused : State → State → Error → Type 0
IsCaused old new error =
    ((cause : StoreError) × (error ≡ store_error cause) × HasCause old new ⊥ cause)
    ⊎ ((error ≡ SqliteFailure OperationInterrupted) × IsSome old.step_limit)

module _ {S : Type 0} (g : Ghosts S) where
  -- the tables and their rows
  abbrev pub database : Held S → Database
  database conn = (state g conn).now

  -- where the disk has returned what was written, this is true
  abbrev pub OnCleanDisk : Held S → Type 0 → Type 0
  OnCleanDisk conn P = HasCleanDisk (state g conn) → P

  -- while the connection is open and the disk has returned what was written, this is true
  abbrev pub WhileOpen : Held S → Type 0 → Type 0
  WhileOpen conn P = HasCleanDisk (state g conn) → IsTrue (state g conn).is_open → P

  -- on a clean disk the database's error has a cause outside the rows
  abbrev pub FailsFor : Held S → Held S → Error → Type 0
  FailsFor old new error = OnCleanDisk new (IsCaused (state g old) (state g new) error)

  -- where the database was tidy, and on a clean disk, its error has a cause outside the rows
  abbrev pub FailsOverTidy : Held S → Held S → Error → Type 0
  FailsOverTidy old new error = IsTidy (database old) → FailsFor old new error

  -- the connection is open, where the disk has returned what was written
  abbrev pub IsOpen : Held S → Type 0
  IsOpen conn = OnCleanDisk conn (IsTrue (state g conn).is_open)

  -- while the connection is open, a stop leaves the rows that stand, and no others
  abbrev pub IsSettled : Held S → Type 0
  IsSettled conn = IsTrue (state g conn).is_open
      → (trees : Trees) → (state g conn).may_leave trees → trees ≡ (database conn).trees

  -- trees may be committed only where the connection is open, and a given property is true of them
  abbrev pub WhereOpen : Held S → (Trees → Type 0) → Trees → Type 0
  WhereOpen conn Commits trees = IsTrue (state g conn).is_open × Commits trees

  -- no transaction is under way. Where the disk has returned what was written, nothing changes
  -- while the connection is open, one that was shut stays shut, and a stop leaves what it left
  -- before
  pub record Rests (old new : Held S) : Type 0 where
    pub autocommit : new.in_transaction ≡ false
    pub opened : WhileOpen new (IsTrue (state g old).is_open)
    pub same : WhileOpen new (database new ≡ database old)
    pub crash : Survives (state g old) (state g new) (λ _. ⊥)

  -- rows are read, and nothing changes, as `Rests` has it. If that does not fail, and the disk has
  -- returned what was written, the connection was open and is
  pub record Looks {X E : Type 0} (old new : Held S) (result : Result X E) : Type 0 where
    pub rests : Rests old new
    pub same : OnCleanDisk new (OnOk result (IsUnchanged (state g old) (state g new)))

  -- one transaction makes this change over an open connection, which stays open, or fails and
  -- leaves the rows as they were, while the connection is open. A stop leaves what it left before
  -- or the change, and this only where the connection was open before. In any case no transaction
  -- is under way then, and a connection that was shut stays shut. But for the transaction, all this
  -- is so where the disk has returned what was written
  pub record Transacts {X E : Type 0} (Change : Database → Database → Type 0) (old new : Held S)
      (result : Result X E) : Type 0 where
    pub autocommit : new.in_transaction ≡ false
    pub opened : WhileOpen new (IsTrue (state g old).is_open)
    pub done : OnCleanDisk new (OnOk result (Change (database old) (database new)))
    pub is_open : OnCleanDisk new (OnOk result (IsTrue (state g new).is_open))
    pub kept : WhileOpen new (OnErr result (database new ≡ database old))
    pub crash : Survives (state g old) (state g new)
        (WhereOpen old (TreesOf (Change (database old))))
