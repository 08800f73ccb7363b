-- What an implementation of `Databases` says of its calls, for the contracts of this trait
-- (profile).
use Rattle.std.specs.Prelude.{ℕ, List, Result}
use Rattle.sqlite.specs.Held.{Held}
use Rattle.rr_commands.specs.declared.cause.DatabaseCause.{DatabaseCause}
use Rattle.rr_commands.specs.declared.registry_databases.Absent.{Absent}

-- what an implementation says of its calls, in two statements of its own; `D` is what keeps the
-- databases. `opens path absent opened before after`: the database at the path was opened as a
-- connection, or refused for a cause. `absent` says what was to be done if there was none.
-- `closes conn before after`: the database of the connection was closed. In both, `before` and
-- `after` are what keeps the databases, before and after the call (profile)
pub record DatabaseCalls (D S : Type 0) : Type 1 where
  pub opens : List ℕ → Absent → Result (Held S) DatabaseCause → D → D → Type 0
  pub closes : Held S → D → D → Type 0
