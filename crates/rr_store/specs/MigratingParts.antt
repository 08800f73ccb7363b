-- What private functions that migrate tables promise each other. No public clause cites these.
use Rattle.std.specs.Prelude.{ℕ, List, [], ◌∷◌, ◌++◌, map}
use Rattle.sqlite.specs.Effect.{Database}
use Rattle.rr_object.specs.Objects.{Obj}
use Rattle.rr_object.specs.Readings.{ReadsAs}
use Rattle.rr_store.specs.Contents.{KeepsOthers}
use Rattle.rr_store.specs.Entries.{StoredEntry, entry_of}
use Rattle.rr_store.specs.Made.{IsBare}
use Rattle.rr_store.specs.Maps.{IsFilled, IsObjectOf}
use Rattle.rr_store.specs.Migrating.{upper_block}

-- all rows are taken out, and all else stays
pub record IsCleared (old new : Database) : Type 0 where
  pub bare : IsBare new
  pub others : KeepsOthers old new

-- the tables are of version 2 and hold the rows of these entries and no others, and all else stays
pub record IsReplaced (entries : List StoredEntry) (old new : Database) : Type 0 where
  pub filled : IsFilled entries new
  pub others : KeepsOthers old new

-- the tables are of version 2 and hold the rows of the objects and of the block of the AS numbers
-- of more than 16 bits, and all else stays
pub record IsRewritten (root source : List ℕ) (objects : List Obj) (old new : Database)
    : Type 0 where
  pub upper : Obj
  pub of_source : IsObjectOf source upper
  pub read : ReadsAs source (upper_block root source) upper
  pub filled : IsFilled (map entry_of (objects ++ upper ∷ [])) new
  pub others : KeepsOthers old new
