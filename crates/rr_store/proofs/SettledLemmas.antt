-- What a stop leaves of a connection that is as it was last committed.
use Rattle.std.proofs.Common.{◌≡◌, IsTrue, sym, ap, ◌∙◌}
use Rattle.sqlite_trees.specs.declared.store.Store.{Ghosts}
use Rattle.sqlite_trees.specs.Tree.{Trees}
use Rattle.sqlite.specs.Effect.{Database}
use Rattle.sqlite.specs.Held.{Held, state}
use Rattle.rr_store.specs.Calls.{IsSettled}

pub settles : {S : Type 0} (g : Ghosts S) (law : (s : S) (trees : Trees) →
    IsTrue (g.view s).is_open → g.recovers s trees → trees ≡ (g.view s).committed) (conn : Held S)
    → (IsTrue (state g conn).is_open → (state g conn).now ≡ (state g conn).committed) →
    IsSettled g conn
settles g law conn committed on trees left =
    law conn.store trees on left ∙ ap (λ (d : Database). d.trees) (sym (committed on))
