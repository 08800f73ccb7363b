-- What a call on a store that writes leaves: for `Store::put`, `add` and `remove`.
use Rattle.std.specs.Prelude.{Result}
use Rattle.sqlite_trees.specs.declared.store.Store.{Ghosts}
use Rattle.sqlite.specs.Effect.{Database}
use Rattle.sqlite.specs.Held.{Held}
use Rattle.rr_store.specs.Calls.{IsSettled, Transacts}

module _ {S : Type 0} (g : Ghosts S) where
  -- one transaction changes the rows, and thereby the map of objects that they hold. Or it fails,
  -- and rows and map stay as they were, while the connection is open (profile)
  pub record WritesRows {X E : Type 0} (Rows Map : Database → Database → Type 0) (old new : Held S)
      (result : Result X E) : Type 0 where
    pub rows : Transacts g Rows old new result
    pub map : Transacts g Map old new result

  -- one transaction changes the rows and the map of objects that they hold, or neither. A stop
  -- after the call, while the connection is open, leaves the rows that then stand (profile)
  pub record Stores {X E : Type 0} (Rows Map : Database → Database → Type 0) (old new : Held S)
      (result : Result X E) : Type 0 where
    pub writes : WritesRows Rows Map old new result
    pub settled : IsSettled g new
