-- The schemas that the three CREATE statements make of none, when a database has room for a new
-- store, and which tables that store has. For `Store::create`; the texts of the statements are in
-- `Texts`.
use Rattle.std.specs.Prelude.{◌≡◌, ◌⊎◌, ℕ, pos, List, [], ◌∷◌}
use Rattle.std.specs.List.{AllByRecursion}
use Rattle.sqlite_value.specs.declared.value.Value.TheVariants.{Int}
use Rattle.sqlite_value.specs.declared.keys.Collation.TheVariants.{Binary}
use Rattle.sqlite_value.specs.Keys.{plain}
use Rattle.sqlite_sql.specs.Term.{Term, lit, col, op2}
use Rattle.sqlite_sql.specs.declared.ops.BinaryOp.TheVariants.{Compare, And}
use Rattle.sqlite_sql.specs.declared.ops.CompareOp.TheVariants.{Le, Ge}
use Rattle.sqlite_schema.specs.declared.schema.Table.{Table}
use Rattle.sqlite_schema.specs.declared.schema.Schema.{Schema}
use Rattle.sqlite_catalog.specs.Change.{created, next_tree}
use Rattle.sqlite.specs.Effect.{Database}
use Rattle.rr_store.specs.Contents.{IsTidy, KeepsOthers}
use Rattle.rr_store.specs.Tables.{HasTables, Rules, meta, meta_tree, named, named_tree, object}
use Rattle.rr_store.specs.Tables.{object_tree}

-- no table, no index and no view
abbrev pub no_schema : Schema
no_schema = record { tables = []; indexes = []; views = [] }

-- the primary key is the columns at these places, and a row is to pass these checks
abbrev pub keyed_at : List ℕ → List Term → Rules
keyed_at places checks =
    record { primary = places; uniques = places ∷ []; orders = plain ∷ []; checks = checks }

-- the number of an object's class is 1 to 7 (profile)
abbrev pub is_a_class : Term
is_a_class = op2 And (op2 (Compare Ge Binary) (col 1 1) (lit (Int (pos 1))))
    (op2 (Compare Le Binary) (col 1 1) (lit (Int (pos 7))))

-- `meta` as its text defines it, before it has a tree: it is given the first one
abbrev pub meta_table : Table
meta_table = meta (keyed_at (1 ∷ []) [])

-- `object` as its text defines it, before it has a tree
abbrev pub object_table : Table
object_table = record (object (keyed_at (1 ∷ 2 ∷ []) (is_a_class ∷ []))) { tree = 0 }

-- `named` as its text defines it, before it has a tree
abbrev pub named_table : Table
named_table = record (named (keyed_at (1 ∷ 2 ∷ 3 ∷ []) [])) { tree = 0 }

-- the schema of `meta` alone, once it is made
abbrev pub with_meta : Schema
with_meta = created no_schema meta_table

-- the schema of `meta` and `object`, once they are made
abbrev pub with_object : Schema
with_object = created with_meta object_table

-- the schema of the three tables, made in their order
abbrev pub with_named : Schema
with_named = created with_object named_table

-- a table is made, which has no row, and the others stay
pub record Creates (before : Schema) (table : Table) (old new : Database) : Type 0 where
  pub schema_is : new.schema ≡ created before table
  pub empty : new.trees (next_tree before) ≡ []
  pub others : AllByRecursion (λ t. new.trees t.tree ≡ old.trees t.tree) before.tables

-- a database with the three tables, which have no row
pub record IsBare (db : Database) : Type 0 where
  pub tidy : IsTidy db
  pub meta : db.trees meta_tree ≡ []
  pub object : db.trees object_tree ≡ []
  pub named : db.trees named_tree ≡ []

-- one of the three tables has a row
abbrev pub HasSomeRow : Database → Type 0
HasSomeRow db = db.trees meta_tree ≡ [] → db.trees object_tree ≡ [] → db.trees named_tree ≡ [] → ⊥

-- the three tables are there, and one has a row (profile)
abbrev pub IsOccupied : Database → Type 0
IsOccupied db = HasTables db.schema × HasSomeRow db

-- a new store has room here: nothing at all stands in the database, or the three tables without a
-- row (profile)
abbrev pub IsVacant : Database → Type 0
IsVacant db = (db.schema ≡ no_schema) ⊎ IsBare db

-- a new store leaves these tables. Where nothing stood, they are those that the texts make, with no
-- other table, no other index and no view. Where the three stood without a row, all but their rows
-- stays (profile)
pub record HasItsTables (old new : Database) : Type 0 where
  pub made : old.schema ≡ no_schema → new.schema ≡ with_named
  pub kept : IsBare old → KeepsOthers old new

-- a database that had room for a new store has its tables, with these rows (profile)
pub record IsMadeWith (Rows : Database → Type 0) (old new : Database) : Type 0 where
  pub vacant : IsVacant old
  pub tables : HasItsTables old new
  pub rows : Rows new
