-- What private functions that ask the tables promise each other. No public clause cites these.
use Rattle.std.specs.Prelude.{◌≡◌, ℕ, length, Result, IfErr, IfOk, OnOk}
use Rattle.sqlite_trees.specs.declared.store.Store.{Ghosts}
use Rattle.sqlite.specs.declared.error.Error.{Error}
use Rattle.sqlite.specs.Effect.{Database}
use Rattle.sqlite.specs.Held.{Held}
use Rattle.rr_store.specs.Contents.{AreNumbered}
use Rattle.rr_store.specs.Tables.{HasTables}
use Rattle.rr_store.specs.Calls.{FailsFor, FailsOverTidy, Looks, OnCleanDisk, database}

-- the three tables are there
abbrev pub IsTabled : Database → Type 0
IsTabled db = HasTables db.schema

module _ {S : Type 0} (g : Ghosts S) where
  -- where the disk has returned what was written, this is true of the database
  abbrev pub HoldsOnCleanDisk : (Database → Type 0) → Held S → Type 0
  HoldsOnCleanDisk Seen conn = OnCleanDisk g conn (Seen (database g conn))

  -- if this is true of the database where the disk has returned what was written, then that is true
  abbrev pub IfSeen : (Database → Type 0) → Held S → Type 0 → Type 0
  IfSeen Seen conn Then = HoldsOnCleanDisk Seen conn → Then

  -- a query finds this in the tables, and nothing changes; it fails for a cause outside the rows
  pub record Selects {X : Type 0} (old new : Held S) (result : Result X Error)
      (Found : Database → X → Type 0) : Type 0 where
    pub looks : Looks g old new result
    pub found : OnCleanDisk g new (IfOk result (Found (database g old)))
    pub cause : IfErr result (FailsFor g old new)

  -- the rows of a tree, which have numbers of their own, are counted, and nothing changes; over
  -- tidy tables that fails for a cause outside the rows
  pub record CountsRows (tree : ℕ) (old new : Held S) (result : Result ℕ Error) : Type 0 where
    pub looks : Looks g old new result
    pub numbered : OnCleanDisk g new (OnOk result (AreNumbered ((database g old).trees tree)))
    pub count : OnCleanDisk g new
        (IfOk result (λ count. count ≡ length ((database g old).trees tree)))
    pub cause : IfErr result (FailsOverTidy g old new)
