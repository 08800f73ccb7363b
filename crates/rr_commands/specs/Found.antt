-- What a look at a database may find whose tables were not opened or not migrated, for the
-- diagnosis of `open_desk` and `migrate` (profile).
use Rattle.std.specs.Prelude.{◌≡◌, ◌⊎◌, ℕ, ◌==◌, ◌||◌, Bool, true, false, not, IsTrue}
use Rattle.std.specs.Prelude.{nat_lt}
use Rattle.rr_store.specs.declared.store_fault.MigrateFault.{MigrateFault}
use Rattle.rr_store.specs.declared.store_fault.MigrateFault.TheVariants as migrating
use Rattle.rr_store.specs.declared.store_fault.OpenFault.{OpenFault}
use Rattle.rr_store.specs.declared.store_fault.OpenFault.TheVariants as opening
use Rattle.rr_store.specs.declared.version.TheConstants.{OLD_VERSION, VERSION}
use Rattle.rr_store.specs.declared.version.Version.{Version}
use Rattle.rr_store.specs.declared.version.Version.TheVariants.{Current, Old}
use Rattle.rr_commands.specs.declared.trouble.Trouble.{Trouble}
use Rattle.rr_commands.specs.declared.trouble.Trouble.TheVariants as trouble

-- what a look at how tables were made may find: another order, other tables, or what was added
-- (profile)
abbrev pub is_of_tables : Trouble → Bool
is_of_tables trouble.OtherOrder = true
is_of_tables trouble.OtherTables = true
is_of_tables trouble.Obstacle = true
is_of_tables _ = false

-- a later version, of tables that are not opened (profile)
abbrev pub is_later_opened : Trouble → Bool
is_later_opened (trouble.Opening (opening.WrongVersion version)) = nat_lt VERSION version
is_later_opened _ = false

-- a later version, of tables that are not migrated (profile)
abbrev pub is_later_migrated : Trouble → Bool
is_later_migrated (trouble.Migrating (migrating.WrongVersion version)) = nat_lt VERSION version
is_later_migrated _ = false

-- what a look at tables that are not opened may find: how they were made, or a later version
-- (profile)
abbrev pub is_of_unopened : Trouble → Bool
is_of_unopened found = is_of_tables found || is_later_opened found

-- what a look at tables that are not migrated may find: how they were made, or a later version
-- (profile)
abbrev pub is_of_unmigrated : Trouble → Bool
is_of_unmigrated found = is_of_tables found || is_later_migrated found

-- the version of keys before those of AS numbers of 32 bits (profile)
abbrev pub is_old : Version → Bool
is_old Old = true
is_old Current = false

-- what is told of tables of this version that have the keys of the other one (profile)
abbrev pub keys_beside : Version → Trouble
keys_beside Old = trouble.NewKeys
keys_beside Current = trouble.OldKeys

-- what a look at the rows of tables of this version may find: another source, a row, what rows say
-- together, or keys of the other version (profile)
abbrev pub is_of_rows : Version → Trouble → Bool
is_of_rows version trouble.OtherSource = true
is_of_rows version trouble.OtherSourceRow = true
is_of_rows version trouble.BadObject = true
is_of_rows version trouble.Unnamed = true
is_of_rows version trouble.Overlap = true
is_of_rows version trouble.OtherRows = true
is_of_rows version trouble.NoObject = true
is_of_rows version trouble.OldKeys = not (is_old version)
is_of_rows version trouble.NewKeys = is_old version
is_of_rows version _ = false

-- what a look at tables may find that say this version and are not opened, if that is the one that
-- is migrated. It is that `meta` has other rows beside it, or that the keys are those of the
-- version that is read (profile)
abbrev pub is_of_old : ℕ → Trouble → Bool
is_of_old version trouble.OtherRows = version == OLD_VERSION
is_of_old version trouble.NewKeys = version == OLD_VERSION
is_of_old _ _ = false

-- what a look at tables may find that say this version and are not migrated, if that is the one
-- that is read. It is that `meta` has other rows beside it (profile)
abbrev pub is_of_version : ℕ → Trouble → Bool
is_of_version version trouble.OtherRows = version == VERSION
is_of_version _ _ = false

-- what may be found of tables that are not opened, which are to be of the version that is read. It
-- is by what was refused: the database, its rows or its version. Where memory ran out, it is
-- nothing (profile)
abbrev pub is_found_unopened : OpenFault → Trouble → Bool
is_found_unopened (opening.Store error) found = is_of_unopened found
is_found_unopened opening.BadRow found = is_of_rows Current found
is_found_unopened (opening.WrongVersion version) found = is_of_old version found
is_found_unopened opening.Memory found = false

-- what may be found of tables that are not migrated, which are to be of the version before. It is
-- by what was refused: the database, its rows or its version. Where the root was missing, it is
-- that there are no objects; where memory ran out, nothing (profile)
abbrev pub is_found_unmigrated : MigrateFault → Trouble → Bool
is_found_unmigrated (migrating.Store error) found = is_of_unmigrated found
is_found_unmigrated migrating.BadRow found = is_of_rows Old found
is_found_unmigrated (migrating.WrongVersion version) found = is_of_version version found
is_found_unmigrated migrating.NoRoot trouble.Empty = true
is_found_unmigrated _ found = false

-- what is told of tables that were not opened for this fault: the fault, or what a look at the
-- database may find (profile)
abbrev pub IsToldUnopened : OpenFault → Trouble → Type 0
IsToldUnopened fault told =
    (told ≡ trouble.Opening fault) ⊎ IsTrue (is_found_unopened fault told)
