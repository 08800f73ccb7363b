-- What a fault of the store leaves: of the registry, and of the rows (profile). Stocks use it.
use Rattle.std.specs.Prelude.{◌≡◌, ◌⊎◌, ℕ, Bool, true, false, List, IsTrue}
use Rattle.sqlite_trees.specs.Tree.{Trees}
use Rattle.sqlite.specs.State.{State, HasCleanDisk, Survives}
use Rattle.rr_auth.specs.declared.item.Item.{Item}
use Rattle.rr_auth.specs.Registries.{Reg}
use Rattle.rr_registry.specs.ConfinementLaws.{LeavesOthers}
use Rattle.rr_registry.specs.declared.outcome.Outcome.{Outcome}
use Rattle.rr_registry.specs.declared.outcome.Outcome.TheVariants.{Added, Changed}
use Rattle.rr_registry.specs.declared.outcome.Outcome.TheVariants.{Unchanged, Deleted}
use Rattle.rr_registry.specs.declared.outcome.Outcome.TheVariants.{Refused}
use Rattle.rr_registry.specs.Runs.{IsStep}
use Rattle.rr_store.specs.Contents.{KeepsOthers}
use Rattle.rr_store.specs.Entries.{TreesOf}
use Rattle.rr_store.specs.Maps.{HasRows}

-- the outcome changes the registry: the object was added, changed or deleted (profile)
abbrev pub changes : Outcome → Bool
changes Added = true
changes Changed = true
changes Unchanged = false
changes Deleted = true
changes (Refused code) = false

-- the store failed at an item that changes the registry, so the desk is stopped: the rows are those
-- of the registry before the item, and a stop of the process or machine leaves these or those with
-- the item whole, and beside the rows of the three tables all as it was; no fault of the disk is
-- forgotten, and nothing but such a fault shuts the connection, which was open. What is said of
-- rows, of a stop, and that the connection was open, holds where the disk gives back what was
-- written; of the rows that stand, while the connection is open. Where a prefix is held, and none
-- of the secrets is its holders', what is held stays as it was, and the prefix held (profile)
pub record LeavesStopped (before : Reg) (secrets : List (List ℕ)) (item : Item) (after : Reg)
    (stopped : Bool) (old now : State) : Type 0 where
  pub outcome : Outcome
  pub step : IsStep before secrets item outcome after
  pub others : LeavesOthers before secrets after
  pub changing : changes outcome ≡ true
  pub is_stopped : stopped ≡ true
  pub rows : HasCleanDisk now → IsTrue now.is_open → HasRows before now.now
  pub leaves : HasCleanDisk now → (trees : Trees) → now.may_leave trees
      → TreesOf (HasRows before) trees ⊎ TreesOf (HasRows after) trees
  pub leaves_others : HasCleanDisk now → (trees : Trees) → now.may_leave trees
      → TreesOf (KeepsOthers old.now) trees
  pub was_open : HasCleanDisk old → IsTrue old.is_open
  pub survives : Survives old now (TreesOf (HasRows after))
