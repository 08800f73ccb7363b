-- What the tables keep of an object: its rows, and what becomes of the tables as rows are added,
-- put and taken out. For `Store::put`, `add` and `remove`, and for `Maps`.
use Rattle.std.specs.Prelude.{◌≡◌, ℕ, not, List, [], ◌∷◌, ◌++◌, map, filter}
use Rattle.std.specs.Prelude.{bytes_eq, if◌then◌else◌, IsPermutation}
use Rattle.std.specs.List.{list_any, flat_map}
use Rattle.sqlite_value.specs.Order.{Row}
use Rattle.sqlite_trees.specs.Tree.{Trees}
use Rattle.sqlite.specs.Effect.{Database}
use Rattle.rr_text.specs.CanonicalText.{canonical}
use Rattle.rr_object.specs.Classes.{class_number}
use Rattle.rr_object.specs.Keys.{class_of}
use Rattle.rr_object.specs.KeyTexts.{key_bytes}
use Rattle.rr_object.specs.Objects.{Obj, names_of}
use Rattle.rr_store.specs.Contents.{IsTidy, KeepsOthers, contents, object_values, named_values}
use Rattle.rr_store.specs.Contents.{is_named_of, is_object_of}
use Rattle.rr_store.specs.Tables.{meta_tree, named_tree, object_tree}

-- what the tables keep of an object: its class, its key, its text and the maintainers that it names
pub record StoredEntry : Type 0 where
  pub class : ℕ
  pub key : List ℕ
  pub body : List ℕ
  pub names : List (List ℕ)

-- the names of a list, each once, where it is named last (profile)
abbrev pub once : List (List ℕ) → List (List ℕ)
once [] = []
once (name ∷ names) = if list_any (bytes_eq name) names then once names else name ∷ once names

-- the class's number, the bytes of the key, the canonical text, and each maintainer once, however
-- often it is named (profile)
abbrev pub entry_of : Obj → StoredEntry
entry_of object = record {
  class = class_number (class_of object.key);
  key =
      key_bytes object.key;
  body = canonical object.paragraph;
  names = once (names_of object);
}

-- the row of `object` that is kept of an object
abbrev pub object_row : StoredEntry → Row
object_row entry = object_values entry.class entry.key entry.body

-- the rows of `named` that are kept of an object: one for each maintainer that it names
abbrev pub named_rows : StoredEntry → List Row
named_rows entry = map (λ name. named_values name entry.class entry.key) entry.names

-- the tables have the rows of these entries and no others, each with its own number: `object` one
-- of each entry, `named` one for each maintainer that an entry names (profile)
pub record AreRowsOf (entries : List StoredEntry) (db : Database) : Type 0 where
  pub tidy : IsTidy db
  pub objects : IsPermutation (map object_row entries) (contents (db.trees object_tree))
  pub named : IsPermutation (flat_map named_rows entries) (contents (db.trees named_tree))

-- the rows of these entries are added, and all else stays; each row has its own number then
pub record IsAdded (entries : List StoredEntry) (old new : Database) : Type 0 where
  pub tidy : IsTidy new
  pub objects : IsPermutation (map object_row entries ++ contents (old.trees object_tree))
      (contents (new.trees object_tree))
  pub named : IsPermutation (flat_map named_rows entries ++ contents (old.trees named_tree))
      (contents (new.trees named_tree))
  pub meta : new.trees meta_tree ≡ old.trees meta_tree
  pub others : KeepsOthers old new

-- the rows of the entry take the place of those with its class and key, and all else stays; each
-- row has its own number then
pub record IsPut (entry : StoredEntry) (old new : Database) : Type 0 where
  pub tidy : IsTidy new
  pub objects : IsPermutation (object_row entry
      ∷ filter (λ row. not (is_object_of entry.class entry.key row))
      (contents (old.trees object_tree)))
      (contents (new.trees object_tree))
  pub named : IsPermutation (named_rows entry
      ++ filter (λ row. not (is_named_of entry.class entry.key row))
      (contents (old.trees named_tree)))
      (contents (new.trees named_tree))
  pub meta : new.trees meta_tree ≡ old.trees meta_tree
  pub others : KeepsOthers old new

-- the rows with this class and key are taken out, and all else stays; each row has its own number
-- then
pub record IsTakenOut (class : ℕ) (key : List ℕ) (old new : Database) : Type 0 where
  pub tidy : IsTidy new
  pub objects : contents (new.trees object_tree)
      ≡ filter (λ row. not (is_object_of class key row)) (contents (old.trees object_tree))
  pub named : contents (new.trees named_tree)
      ≡ filter (λ row. not (is_named_of class key row)) (contents (old.trees named_tree))
  pub meta : new.trees meta_tree ≡ old.trees meta_tree
  pub others : KeepsOthers old new

-- these are the trees of some database of which this is true
abbrev pub TreesOf : (Database → Type 0) → Trees → Type 0
TreesOf P trees = (db : Database) × P db × (trees ≡ db.trees)
