-- What becomes of a query that is asked in a transaction of its own, which is then rolled back: for
-- `IdleConnection::ask`.
use Rattle.std.specs.Prelude.{true, ℕ, List, []}
use Rattle.sqlite_trees.specs.declared.store.Store.{Ghosts}
use Rattle.sqlite_value.specs.Order.{Row}
use Rattle.sqlite.specs.declared.error.Error.{Error}
use Rattle.sqlite.specs.Held.{Held, state}
use Rattle.sqlite.specs.State.{FailsToQuery, IsRolledBack, Shown, State}

module _ {S : Type 0} (g : Ghosts S) where
  -- what stands when a transaction has begun: all as it was
  abbrev pub begun_state : Held S → State
  begun_state conn = state g (record conn { in_transaction = true })

  -- the query, which has no parameter, shows these rows of what stands when a transaction has begun
  pub record QueryShows (query : List ℕ) (conn : Held S) (rows : List Row) : Type 0 where
    pub after : Held S
    pub shown : Shown query [] (begun_state conn) (state g after) rows

  -- the query, which has no parameter, shows no rows of what stands when a transaction has begun,
  -- for this error; and what it did was rolled back
  pub record QueryFails (query : List ℕ) (old new : Held S) (error : Error) : Type 0 where
    pub after : Held S
    pub why : FailsToQuery query [] (begun_state old) (state g after) error
    pub undone : IsRolledBack (state g after) (state g new)
