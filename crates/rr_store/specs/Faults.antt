-- Faults of one kind as those of another, which `?` makes of them; and what is told of a database
-- without the three tables. For `src/store_fault.rt`, and for calls that make, open or migrate a
-- store.
use Rattle.sqlite.specs.declared.error.Error.{Error}
use Rattle.sqlite.specs.declared.error.Error.TheVariants.{SqlInputError}
use Rattle.sqlite_resolve.specs.declared.error.CompileError.TheVariants.{NoSuchTable}
use Rattle.rr_store.specs.declared.store_fault.StoreFault.{StoreFault}
use Rattle.rr_store.specs.declared.store_fault.StoreFault.TheVariants.{Store, Memory}
use Rattle.rr_store.specs.declared.store_fault.CreateFault.{CreateFault}
use Rattle.rr_store.specs.declared.store_fault.CreateFault.TheVariants as create
use Rattle.rr_store.specs.declared.store_fault.OpenFault.{OpenFault}
use Rattle.rr_store.specs.declared.store_fault.OpenFault.TheVariants as opened
use Rattle.rr_store.specs.declared.store_fault.MigrateFault.{MigrateFault}
use Rattle.rr_store.specs.declared.store_fault.MigrateFault.TheVariants as migrated

-- a fault of a call on a store, as one of a call that makes a store
abbrev pub create_fault : StoreFault → CreateFault
create_fault (Store error) = create.Store error
create_fault Memory = create.Memory

-- a fault of a call on a store, as one of a call that migrates tables
abbrev pub migrate_fault : StoreFault → MigrateFault
migrate_fault (Store error) = migrated.Store error
migrate_fault Memory = migrated.Memory

-- what is told of a database without the three tables: that a table is not there (profile)
abbrev pub no_tables : Error
no_tables = SqlInputError NoSuchTable

-- why tables of version 1 could not be opened, as a fault of the call that migrates them
abbrev pub unread_fault : OpenFault → MigrateFault
unread_fault (opened.WrongVersion number) = migrated.WrongVersion number
unread_fault opened.BadRow = migrated.BadRow
unread_fault (opened.Store error) = migrated.Store error
unread_fault opened.Memory = migrated.Memory
