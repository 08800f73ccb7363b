-- What private functions that run statements in a transaction promise each other. No public clause
-- cites these.
use Rattle.std.specs.Prelude.{◌≡◌, false, Result, IsOk, IsTrue, OnErr, OnOk}
use Rattle.sqlite_trees.specs.declared.store.Store.{Ghosts}
use Rattle.sqlite.specs.declared.transaction.Transaction.{Transaction}
use Rattle.sqlite.specs.Effect.{Database}
use Rattle.sqlite.specs.Held.{Held, state}
use Rattle.sqlite.specs.State.{KeepsCommit, Survives}
use Rattle.rr_store.specs.Contents.{RunsOn}
use Rattle.rr_store.specs.Calls.{OnCleanDisk, WhileOpen, database}

module _ {S : Type 0} (g : Ghosts S) where
  -- while the connection is open, this is true of the database
  abbrev pub IsOver : (Database → Type 0) → Held S → Type 0
  IsOver Seen conn = WhileOpen g conn (Seen (database g conn))

  -- a step of a transaction: over a database of which this is true, it was changed so. The
  -- transaction goes on, nothing was committed, and a stop leaves what it left before
  pub record Step {X E : Type 0} (Seen : Database → Type 0)
      (Change : Database → Database → Type 0) (old new : Held S) (result : Result X E)
      : Type 0 where
    pub made : IsOver Seen old
        → OnCleanDisk g new (OnOk result (Change (database g old) (database g new)))
    pub goes_on : OnCleanDisk g new (OnOk result (RunsOn (state g old) (state g new)))
    pub kept : OnCleanDisk g new (KeepsCommit (state g old) (state g new))
    pub survives : Survives (state g old) (state g new) (λ _. ⊥)

  -- some steps or none: where the connection was open, over such a database, it was changed so, and
  -- the transaction goes on. Nothing was committed, and a stop leaves what it left before
  pub record StepWhereOpen {X E : Type 0} (Seen : Database → Type 0)
      (Change : Database → Database → Type 0) (old new : Held S) (result : Result X E)
      : Type 0 where
    pub made : IsOver Seen old → OnCleanDisk g new (IsTrue (state g old).is_open
        → OnOk result (Change (database g old) (database g new)))
    pub goes_on : OnCleanDisk g new (IsTrue (state g old).is_open
        → OnOk result (RunsOn (state g old) (state g new)))
    pub kept : OnCleanDisk g new (KeepsCommit (state g old) (state g new))
    pub survives : Survives (state g old) (state g new) (λ _. ⊥)

  -- a call of a transaction made such a step, and it is the same transaction
  pub record Steps {X E : Type 0} (Seen : Database → Type 0)
      (Change : Database → Database → Type 0) (old new : Transaction S) (result : Result X E)
      : Type 0 where
    pub same_reference : new.conn.ghost_name ≡ old.conn.ghost_name
    pub step : Step Seen Change old.conn.now new.conn.now result

  -- a call of a transaction made such steps or none, and it is the same transaction
  pub record StepsWhereOpen {X E : Type 0} (Seen : Database → Type 0)
      (Change : Database → Database → Type 0) (old new : Transaction S) (result : Result X E)
      : Type 0 where
    pub same_reference : new.conn.ghost_name ≡ old.conn.ghost_name
    pub step : StepWhereOpen Seen Change old.conn.now new.conn.now result

  -- the end of a transaction: where its work was done and the database did not fail, that is
  -- committed, and the connection was open and is. Else the rows are those last committed, while it
  -- is open. A stop leaves what it left before or, only where the work was done, that. No
  -- transaction is under way then
  pub record EndsWork {X E Y F : Type 0} (old new : Held S) (work : Result X E)
      (result : Result Y F) : Type 0 where
    pub autocommit : new.in_transaction ≡ false
    pub done : OnOk result (IsOk work)
    pub ok : OnCleanDisk g new (OnOk result (database g new ≡ database g old))
    pub is_open : OnCleanDisk g new (OnOk result (IsTrue (state g new).is_open))
    pub was_open : OnCleanDisk g new (OnOk result (IsTrue (state g old).is_open))
    pub err : WhileOpen g new (OnErr result
        ((database g new ≡ (state g old).committed) × IsTrue (state g old).is_open))
    pub survives : Survives (state g old) (state g new)
        (λ trees. IsOk work × (trees ≡ (database g old).trees))
