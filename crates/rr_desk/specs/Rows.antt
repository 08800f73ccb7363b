-- What the store of a desk keeps of its registry, and that a call commits nothing (profile): for
-- desks, their stocks and histories.
use Rattle.std.specs.Prelude.{◌≡◌, IsTrue}
use Rattle.sqlite_trees.specs.Tree.{Trees}
use Rattle.sqlite.specs.State.{State, HasCleanDisk, Survives}
use Rattle.rr_auth.specs.Registries.{Reg}
use Rattle.rr_store.specs.Entries.{TreesOf}
use Rattle.rr_store.specs.Maps.{HasRows}

-- the store is open, its rows are those of the registry, and a stop of the process leaves these and
-- no others
pub record Holds (registry : Reg) (now : State) : Type 0 where
  pub is_open : IsTrue now.is_open
  pub rows : HasRows registry now.now
  pub leaves : (trees : Trees) → now.may_leave trees → trees ≡ now.now.trees

-- where the disk gives back what was written, a stop of the process leaves rows of the registry,
-- and while the store is open its rows are those
pub record KeepsRows (registry : Reg) (now : State) : Type 0 where
  pub rows : HasCleanDisk now → IsTrue now.is_open → HasRows registry now.now
  pub leaves : HasCleanDisk now → (trees : Trees) → now.may_leave trees
      → TreesOf (HasRows registry) trees

-- nothing was committed: a stop of the process leaves what it left before, no fault of the disk is
-- forgotten, and nothing but such a fault shuts the connection
abbrev pub CommitsNothing : State → State → Type 0
CommitsNothing old now = Survives old now (λ _. ⊥)
