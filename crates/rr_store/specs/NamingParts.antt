-- What private functions that list who names whom promise each other. No public clause cites these.
use Rattle.sqlite_value.specs.Order.{Row}
use Rattle.rr_store.specs.Contents.{named_values}
use Rattle.rr_store.specs.declared.namings.Naming.{Naming}

-- a maintainer and an object that names it, as a row of `named`
abbrev pub naming_row : Naming → Row
naming_row naming = named_values naming.maintainer naming.class naming.key.items
