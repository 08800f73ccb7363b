-- The three tables of a registry, and the schemas that have them: for `has_tables`, and for all
-- contracts that speak of the tables. Whoever changes a column here changes `Texts`, `Queries`,
-- `Contents` and `tools/irr/local/tables.py` too.
use Rattle.std.specs.Prelude.{◌≡◌, ℕ, Bool, true, false, not, ◌&&◌, ◌||◌, List, []}
use Rattle.std.specs.Prelude.{◌∷◌, codes, None, nat_lt}
use Rattle.std.specs.List.{list_all}
use Rattle.sqlite_value.specs.declared.value.Value.TheVariants.{Null}
use Rattle.sqlite_value.specs.declared.keys.Collation.TheVariants.{Binary}
use Rattle.sqlite_value.specs.declared.keys.Order.{Order}
use Rattle.sqlite_sql.specs.Term.{Term}
use Rattle.sqlite_schema.specs.declared.schema.Kind.{Kind}
use Rattle.sqlite_schema.specs.declared.schema.Kind.TheVariants as kind
use Rattle.sqlite_schema.specs.declared.schema.Column.{Column}
use Rattle.sqlite_schema.specs.declared.schema.Reference.{Reference}
use Rattle.sqlite_schema.specs.declared.schema.Table.{Table}
use Rattle.sqlite_schema.specs.declared.schema.Index.{Index}
use Rattle.sqlite_schema.specs.declared.schema.View.{View}
use Rattle.sqlite_schema.specs.declared.schema.Schema.{Schema}
use Rattle.sqlite_schema.specs.Names.{same_name}

-- a column of a STRICT table that takes no NULL, has no default, and is compared as BINARY
-- (profile)
abbrev pub required : List ℕ → Kind → Column
required name kind = record {
  name = name;
  kind = kind;
  is_strict = true;
  not_null = true;
  default =
      Null;
  collation = Binary;
}

-- the keys and the checks of a table, which only a refusal reads
pub record Rules : Type 0 where
  pub primary : List ℕ
  pub uniques : List (List ℕ)
  pub orders : List Order
  pub checks : List Term

-- a table of these columns, with no foreign key, no INTEGER PRIMARY KEY, no AUTOINCREMENT and no
-- default
abbrev pub table_with : List ℕ → ℕ → List Column → Rules → Table
table_with name tree columns rules = record {
  name = name;
  tree = tree;
  columns = columns;
  key = None;
  primary = rules.primary;
  uniques = rules.uniques;
  orders = rules.orders;
  checks = rules.checks;
  references = [];
  computed = [];
  stamps = record { places = []; terms = []; formats = [] };
  is_counted = false;
}

-- a table has no foreign key, no INTEGER PRIMARY KEY, no AUTOINCREMENT and no default
pub record IsPlainTable (table : Table) : Type 0 where
  pub key : table.key ≡ None
  pub references : table.references ≡ []
  pub computed : table.computed ≡ []
  pub places : table.stamps.places ≡ []
  pub terms : table.stamps.terms ≡ []
  pub formats : table.stamps.formats ≡ []
  pub counted : table.is_counted ≡ false

-- the keys and the checks that a table has
abbrev pub rules_of : Table → Rules
rules_of table = record {
  primary = table.primary;
  uniques = table.uniques;
  orders =
      table.orders;
  checks = table.checks;
}

-- the tree of `meta`, the first of a file; the next one is that of its primary key (profile)
abbrev pub meta_tree : ℕ
meta_tree = 0

-- the tree of `object`; the next one is that of its primary key (profile)
abbrev pub object_tree : ℕ
object_tree = 2

-- the tree of `named`; the next one is that of its primary key (profile)
abbrev pub named_tree : ℕ
named_tree = 4

-- the table `meta`: what is said of the tables, by name, as their version (profile)
abbrev pub meta : Rules → Table
meta = table_with (codes "meta") meta_tree
    (required (codes "name") kind.Text ∷ required (codes "value") kind.Text ∷ [])

-- the table `object`: the objects, by class and key, with their canonical texts (profile)
abbrev pub object : Rules → Table
object = table_with (codes "object") object_tree (required (codes "class") kind.Integer
    ∷ required (codes "okey") kind.Text ∷ required (codes "body") kind.Blob ∷ [])

-- the table `named`: which objects name which maintainers (profile)
abbrev pub named : Rules → Table
named = table_with (codes "named") named_tree (required (codes "maintainer") kind.Text
    ∷ required (codes "class") kind.Integer ∷ required (codes "okey") kind.Text ∷ [])

-- what schemas that have the three tables differ in: the keys and checks of the three, and what
-- stands beside these
pub record Layout : Type 0 where
  pub meta : Rules
  pub object : Rules
  pub named : Rules
  pub others : List Table
  pub indexes : List Index
  pub views : List View

-- the schema of a layout: the three tables come first, in this order (profile)
abbrev pub laid : Layout → Schema
laid l = record {
  tables = meta l.meta ∷ object l.object ∷ named l.named ∷ l.others;
  indexes =
      l.indexes;
  views = l.views;
}

-- a foreign key is to none of the three tables
abbrev pub refers_elsewhere : Reference → Bool
refers_elsewhere reference = not (same_name (codes "meta") reference.parent
    || same_name (codes "object") reference.parent || same_name (codes "named") reference.parent)

-- a table beside the three has a later tree than `named`, and no foreign key to the three
abbrev pub stands_apart : Table → Bool
stands_apart table = nat_lt named_tree table.tree && list_all refers_elsewhere table.references

-- a schema has the three tables first, each at its tree, and others that stand apart from them
-- (profile)
pub record HasTables (schema : Schema) : Type 0 where
  pub layout : Layout
  pub is : schema ≡ laid layout
  pub apart : list_all stands_apart layout.others ≡ true
