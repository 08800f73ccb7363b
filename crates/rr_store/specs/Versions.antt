-- The versions of tables: for `Version`, and for all that reads or migrates tables.
use Rattle.std.specs.Prelude.{ℕ, List, Contains, codes, decimal}
use Rattle.rr_store.specs.declared.version.TheConstants.{OLD_VERSION, VERSION}
use Rattle.rr_store.specs.declared.version.Version.{Version}
use Rattle.rr_store.specs.declared.version.Version.TheVariants.{Current, Old}
use Rattle.rr_object.specs.OldKeys.{old_key_bytes}
use Rattle.rr_store.specs.Maps.{KeyForm, old_version, current_form, current_version}
use Rattle.sqlite_value.specs.Order.{Row}
use Rattle.rr_store.specs.Contents.{meta_row}

-- of two versions, the one that this is not (profile)
abbrev pub other_of : Version → Version
other_of Old = Current
other_of Current = Old

-- the number of a version (profile)
abbrev pub version_number : Version → ℕ
version_number Old = OLD_VERSION
version_number Current = VERSION

-- the number of a version as `meta` has it (profile)
abbrev pub version_text : Version → List ℕ
version_text Old = old_version
version_text Current = current_version

-- the form of keys in tables of a version (profile)
abbrev pub form_of : Version → KeyForm
form_of Old = old_key_bytes
form_of Current = current_form

-- some row of `meta` says that the tables are of the version of this number (profile)
abbrev pub SaysVersion : ℕ → List Row → Type 0
SaysVersion n rows = Contains rows (meta_row (codes "version") (decimal n))
