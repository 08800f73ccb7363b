-- What private functions that look for a row promise each other. No public clause cites these.
use Rattle.std.specs.Prelude.{◌≡◌, ◌≢◌, Bool, false, List, [], IsTrue}
use Rattle.sqlite_value.specs.Order.{Row}
use Rattle.sqlite.specs.Effect.{Database}
use Rattle.rr_store.specs.Made.{HasSomeRow, IsBare}

-- an answer says whether there is no row
pub record SaysEmpty (rows : List Row) (is : Bool) : Type 0 where
  pub empty : IsTrue is → rows ≡ []
  pub filled : is ≡ false → rows ≢ []

-- an answer says whether the three tables have no row
pub record SaysBare (db : Database) (is : Bool) : Type 0 where
  pub bare : IsTrue is → IsBare db
  pub filled : is ≡ false → HasSomeRow db
