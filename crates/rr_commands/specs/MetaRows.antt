-- What rows of `meta` say, for `version_in` and what `diagnosis` tells of a database that is
-- refused (profile).
use Rattle.std.specs.Prelude.{◌≡◌, ℕ, List, Contains, codes, decimal}
use Rattle.sqlite_value.specs.Order.{Row, column}
use Rattle.sqlite_value.specs.declared.value.Value.TheVariants.{Text}

-- one of these rows, a name and a value, says that the tables are of this version (profile)
pub record RowsSayVersion (rows : List Row) (version : ℕ) : Type 0 where
  pub row : Row
  pub is_there : Contains rows row
  pub named : column row 0 ≡ Text (codes "version")
  pub says : column row 1 ≡ Text (decimal version)
