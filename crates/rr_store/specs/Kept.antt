-- What a store keeps true of its connection: the invariant of `Store`.
use Rattle.std.specs.Prelude.{◌≡◌, false}
use Rattle.sqlite_trees.specs.declared.store.Store.{Ghosts}
use Rattle.sqlite.specs.Held.{Held}
use Rattle.rr_store.specs.Maps.{AreOfObjects}
use Rattle.rr_store.specs.Calls.{WhileOpen, database}

-- no transaction is under way; while the connection is open and the disk has returned what was
-- written, the tables hold the rows of some objects and no others (profile)
pub record IsKeptConnection {S : Type 0} (g : Ghosts S) (conn : Held S) : Type 0 where
  pub autocommit : conn.in_transaction ≡ false
  pub held : WhileOpen g conn (AreOfObjects (database g conn))
