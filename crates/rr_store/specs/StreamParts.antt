-- What private functions that read rows one at a time promise each other. No public clause cites
-- these.
use Rattle.std.specs.Prelude.{◌≡◌, ◌⊎◌, ℕ, ℤ, false, IsSorted, List, ◌++◌, Option, Result, OnOk}
use Rattle.sqlite_trees.specs.declared.store.Store.{Ghosts}
use Rattle.sqlite_trees.specs.Tree.{rowid}
use Rattle.sqlite_value.specs.declared.value.Value.TheVariants.{Int}
use Rattle.sqlite_value.specs.Order.{Row}
use Rattle.sqlite.specs.declared.error.Error.{Error}
use Rattle.sqlite.specs.declared.error.Error.TheVariants.{SqliteFailure}
use Rattle.sqlite.specs.declared.error.ErrorCode.TheVariants.{OutOfMemory}
use Rattle.sqlite.specs.declared.rows.stream.Rows.{Rows}
use Rattle.sqlite.specs.Given.{HasGiven}
use Rattle.sqlite.specs.Held.{Held, state}
use Rattle.sqlite.specs.State.{FailsToQuery, IsRolledBack, IsUnchanged, Shown, Survives}
use Rattle.rr_store.specs.Contents.{AreNumbered, IsPast, by_one, contents}
use Rattle.rr_store.specs.Maps.{KeyForm}
use Rattle.rr_store.specs.Calls.{OnCleanDisk}
use Rattle.rr_store.specs.Opening.{IfStore}
use Rattle.rr_store.specs.ReadingParts.{AreNone, TellsNoVersion}
use Rattle.rr_store.specs.declared.store_fault.OpenFault.{OpenFault}
use Rattle.rr_store.specs.declared.store_fault.OpenFault.TheVariants.{BadRow}

-- memory ran out, or a row has no whole number that is above the last
abbrev pub IsNotNext : Option ℤ → Row → Error → Type 0
IsNotNext last row error = (error ≡ SqliteFailure OutOfMemory)
    ⊎ ((number : ℤ) → rowid row ≡ Int number → IsPast last number → ⊥)

module _ {S : Type 0} (g : Ghosts S) where
  -- after what a query gave before, it gave these rows
  abbrev pub GivesMore : Held S → Held S → List Row → Type 0
  GivesMore old new more =
      (sql : List ℕ) (params : Row) (given : List Row) → HasGiven g sql params old given
      → HasGiven g sql params new (given ++ more)

  -- after what a query gave before, it gave these rows, which are the rest of its answer
  abbrev pub GivesRest : Held S → Held S → List Row → Type 0
  GivesRest old new rest =
      (sql : List ℕ) (params : Row) (given : List Row) → HasGiven g sql params old given
      → (mid : Held S) × IsUnchanged (state g old) (state g mid)
      × Shown sql params (state g mid) (state g new) (given ++ rest)

  -- after rows that changed nothing, the query failed for this
  abbrev pub FailsAfterRows : Held S → Held S → Error → Type 0
  FailsAfterRows old new error =
      (sql : List ℕ) (params : Row) (given : List Row) → HasGiven g sql params old given
      → (mid : Held S) × IsUnchanged (state g old) (state g mid)
      × Survives (state g old) (state g mid) (λ _. ⊥)
      × FailsToQuery sql params (state g mid) (state g new) error

  -- it gave rows that, whatever comes after them, have no numbers of their own in order
  pub record GivesUnnumbered (old new : Held S) : Type 0 where
    pub same : IsUnchanged (state g old) (state g new)
    pub more : List Row
    pub gives : GivesMore old new more
    pub none : (rest : List Row) → AreNumbered (more ++ rest) → IsSorted by_one (more ++ rest) → ⊥

  -- numbers are not counted: memory ran out, the query failed, or a row has none that is due
  abbrev pub FailsToCount : Held S → Held S → Error → Type 0
  FailsToCount old new error =
      (error ≡ SqliteFailure OutOfMemory) ⊎ (FailsAfterRows old new error ⊎ GivesUnnumbered old new)

  -- rows were read, and nothing changed but what a failure took back
  pub record HasStreamed {X E : Type 0} (old new : Held S) (result : Result X E) : Type 0 where
    pub autocommit : old.in_transaction ≡ false → new.in_transaction ≡ false
    pub same : OnCleanDisk g new (OnOk result (IsUnchanged (state g old) (state g new)))
    pub left : OnCleanDisk g new
        (IsUnchanged (state g old) (state g new) ⊎ IsRolledBack (state g old) (state g new))
    pub survives : Survives (state g old) (state g new) (λ _. ⊥)

  -- a call read so, and the rows to come are of the same connection
  pub record Streams {X E : Type 0} (old new : Rows S g) (result : Result X E) : Type 0 where
    pub same_reference : new.conn.ghost_name ≡ old.conn.ghost_name
    pub left : HasStreamed old.conn.now new.conn.now result

  -- what rows were to say was not read: no other version is told of, and the database's error is
  -- that of the query after rows that changed nothing
  pub record FailsToTake (old new : Rows S g) (fault : OpenFault) : Type 0 where
    pub no_other : TellsNoVersion fault
    pub fails : OnCleanDisk g new.conn.now
        (IfStore (FailsAfterRows old.conn.now new.conn.now) fault)

  -- a bad row is that of no object of the source, whatever comes after it; and where the database
  -- did not fail, nothing changed
  pub record RefusesRows (form : KeyForm) (source : List ℕ) (old new : Held S) (fault : OpenFault)
      : Type 0 where
    pub bad_row : fault ≡ BadRow → (more : List Row) × GivesMore old new more
        × ((rest : List Row) → AreNone form source (contents (more ++ rest)))
    pub unchanged : IfStore (λ _. ⊥) fault → IsUnchanged (state g old) (state g new)
