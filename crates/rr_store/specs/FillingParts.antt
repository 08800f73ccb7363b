-- What private functions that make and fill tables promise each other. No public clause cites
-- these.
use Rattle.std.specs.Prelude.{◌≡◌, List}
use Rattle.sqlite.specs.Effect.{Database}
use Rattle.rr_object.specs.Objects.{Obj}
use Rattle.rr_store.specs.Contents.{KeepsOthers}
use Rattle.rr_store.specs.Creating.{IsStoreOf}
use Rattle.rr_store.specs.Made.{IsBare, no_schema, with_named}

-- the database has no table, index or view
abbrev pub IsBlank : Database → Type 0
IsBlank db = db.schema ≡ no_schema

-- the database has the three tables, as their CREATE statements make them, without a row, and
-- nothing else
pub record HasNewTables (db : Database) : Type 0 where
  pub bare : IsBare db
  pub schema : db.schema ≡ with_named

-- the tables became those of a store of these objects, and all else stays
pub record IsFilledWith (objects : List Obj) (old new : Database) : Type 0 where
  pub store : IsStoreOf objects new
  pub others : KeepsOthers old new
