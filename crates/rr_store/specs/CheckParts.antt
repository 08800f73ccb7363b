-- What private functions that check the rows of tables promise each other. No public clause cites
-- these.
use Rattle.std.specs.Prelude.{◌≡◌, ◌≢◌, ℕ, ◌<◌, ◌^◌, List, [], ◌∷◌}
use Rattle.std.specs.Prelude.{IsPermutation, codes, map}
use Rattle.std.specs.List.{flat_map}
use Rattle.sqlite_value.specs.Order.{Row}
use Rattle.rr_object.specs.Objects.{Obj}
use Rattle.sqlite.specs.Effect.{Database}
use Rattle.rr_store.specs.Contents.{AreNumbered, IsInRank, by_one, contents, meta_row}
use Rattle.rr_store.specs.Contents.{numbered}
use Rattle.rr_store.specs.Entries.{named_rows}
use Rattle.rr_store.specs.Maps.{KeyForm, entry_in}
use Rattle.rr_store.specs.Tables.{HasTables, meta_tree, named_tree, object_tree}
use Rattle.rr_store.specs.ReadingParts.{AreNone, AreRead, TellsNoVersion}
use Rattle.rr_store.specs.Versions.{SaysVersion, form_of, version_number, version_text}
use Rattle.rr_store.specs.declared.version.Version.{Version}
use Rattle.rr_store.specs.declared.store_fault.OpenFault.{OpenFault}
use Rattle.rr_store.specs.declared.store_fault.OpenFault.TheVariants.{WrongVersion, BadRow, Store}
use Rattle.rr_store.specs.declared.store_fault.OpenFault.TheVariants.{Memory}

-- no row of `meta` says another version of 32 bits than that asked for, and the rows are not the
-- one that says this
pub record IsBadVersion (version : Version) (rows : List Row) : Type 0 where
  pub no_other : (n : ℕ) → n < 2 ^ 32 → SaysVersion n rows → n ≡ version_number version
  pub bad : rows ≢ meta_row (codes "version") (version_text version) ∷ []

-- what a fault of the version says of the rows of `meta`: some row says this other version, or they
-- are as `IsBadVersion` has it. One of the database or of memory says nothing of them
abbrev pub IsVersionFault : Version → List Row → OpenFault → Type 0
IsVersionFault version rows (WrongVersion n) = (n ≢ version_number version) × SaysVersion n rows
IsVersionFault version rows BadRow = IsBadVersion version rows
IsVersionFault version rows (Store error) = Unit {0}
IsVersionFault version rows Memory = Unit {0}

-- the three tables are there, and the rows of `meta` have numbers of their own
pub record HasNumberedMeta (db : Database) : Type 0 where
  pub tables : HasTables db.schema
  pub numbered : AreNumbered (db.trees meta_tree)

-- rows, in some order, are those of the maintainers that the objects name
abbrev pub AreNamingRows : Version → List Obj → List Row → Type 0
AreNamingRows version objects rows =
    IsPermutation (flat_map named_rows (map (entry_in (form_of version)) objects)) rows

-- the tables name the maintainers of the objects, and no others
abbrev pub NamesAre : Version → List Obj → Database → Type 0
NamesAre version objects db = AreNamingRows version objects (contents (db.trees named_tree))

-- rows, in some order, are those of these objects
pub record HoldsObjects (form : KeyForm) (source : List ℕ) (objects : List Obj) (held : List Row)
    : Type 0 where
  pub rows : List Row
  pub same : IsPermutation held rows
  pub read : AreRead form source rows objects

-- rows, in the order of their numbers, are those of these objects, in turn
pub record HoldsInTurn (form : KeyForm) (source : List ℕ) (objects : List Obj) (held : List Row)
    : Type 0 where
  pub rows : List Row
  pub ranked : IsInRank by_one (map numbered held) rows
  pub read : AreRead form source (contents rows) objects

-- rows, in some order, are those of no objects of the source
pub record AreRowsOfNone (form : KeyForm) (source : List ℕ) (held : List Row) : Type 0 where
  pub rows : List Row
  pub same : IsPermutation held rows
  pub none : AreNone form source rows

-- the fault tells of no other version, and of a bad row only where this is true of the tables
pub record HasBadRow (Bad : Database → Type 0) (db : Database) (fault : OpenFault) : Type 0 where
  pub bad_row : fault ≡ BadRow → Bad db
  pub no_other : TellsNoVersion fault

-- `object` holds the rows of these objects
abbrev pub TableHolds : Version → List ℕ → List Obj → Database → Type 0
TableHolds version source objects db =
    HoldsObjects (form_of version) source objects (contents (db.trees object_tree))

-- `object` holds the rows of these objects, in turn by their numbers
abbrev pub TableHoldsInTurn : Version → List ℕ → List Obj → Database → Type 0
TableHoldsInTurn version source objects db =
    HoldsInTurn (form_of version) source objects (db.trees object_tree)

-- `object` holds the rows of these objects, also in turn
pub record TableGives (version : Version) (source : List ℕ) (objects : List Obj) (db : Database)
    : Type 0 where
  pub all : TableHolds version source objects db
  pub in_turn : TableHoldsInTurn version source objects db

-- `object` holds the rows of no objects of the source
abbrev pub TableHoldsNone : Version → List ℕ → Database → Type 0
TableHoldsNone version source db =
    AreRowsOfNone (form_of version) source (contents (db.trees object_tree))
