-- The rows of the three tables, and what a statement does to them: for all that adds, takes out or
-- reads rows. The order of the columns is that of `Tables`.
use Rattle.std.specs.Prelude.{ℤ, ◌<ℤ◌, Option, None, Some, ◌≡◌, ◌≢◌, ℕ, pos}
use Rattle.std.specs.Prelude.{true, not, Bool, List, [], ◌∷◌, ◌++◌, map, filter}
use Rattle.std.specs.Prelude.{IsPermutation, IsSorted, IsTrue}
use Rattle.std.specs.declared.cmp.Ordering.{Ordering}
use Rattle.std.specs.List.{AllByRecursion, list_all, list_any}
use Rattle.sqlite_value.specs.declared.value.Value.TheVariants.{Null, Int, Text, Blob}
use Rattle.sqlite_value.specs.declared.keys.Collation.TheVariants.{Binary}
use Rattle.sqlite_value.specs.Order.{Row, column}
use Rattle.sqlite_value.specs.Keys.{ascending}
use Rattle.sqlite_sql.specs.Term.{Term, holds}
use Rattle.sqlite_sql.specs.Query.{key_cmp}
use Rattle.sqlite_trees.specs.Tree.{rowid, IsAscending}
use Rattle.sqlite_trees.specs.View.{is_int}
use Rattle.sqlite_rules.specs.Edit.{IsNoIndex}
use Rattle.sqlite.specs.Effect.{Database}
use Rattle.sqlite.specs.State.{State}
use Rattle.rr_store.specs.Tables.{HasTables, meta_tree, named_tree, object_tree}
use Rattle.rr_store.specs.Queries.{object_tests, name_tests, named_tests}

-- each row has a number, and no two the same
pub record AreNumbered (rows : List Row) : Type 0 where
  pub apart : IsAscending (λ a b. rowid a ≢ rowid b) rows
  pub numbered : AllByRecursion (λ r. is_int (rowid r) ≡ true) rows

-- the three columns of a row, each NULL where there is none
abbrev pub columns : Row → Row
columns r = column r 1 ∷ column r 2 ∷ column r 3 ∷ []

-- what the rows of a table hold, without their numbers
abbrev pub contents : List Row → List Row
contents = map columns

-- a database with the three tables, whose rows have numbers of their own
pub record IsTidy (db : Database) : Type 0 where
  pub has : HasTables db.schema
  pub meta : AreNumbered (db.trees meta_tree)
  pub object : AreNumbered (db.trees object_tree)
  pub named : AreNumbered (db.trees named_tree)

-- a tree is of none of the three tables
pub record IsOfOther (tree : ℕ) : Type 0 where
  pub meta : tree ≢ meta_tree
  pub object : tree ≢ object_tree
  pub named : tree ≢ named_tree

-- all but the rows of the three tables stays: the schema, the rows of each other table, and each
-- other tree that is not an index's. The tree that lists the schema is such a tree
pub record KeepsOthers (old new : Database) : Type 0 where
  pub schema : new.schema ≡ old.schema
  pub tables : AllByRecursion
      (λ t. IsOfOther t.tree → new.trees t.tree ≡ old.trees t.tree) old.schema.tables
  pub trees : (tree : ℕ) → IsOfOther tree → IsNoIndex old.schema tree
      → new.trees tree ≡ old.trees tree

-- the rows of one of the three tables change in a given way, and all else stays; each row of the
-- three has its own number then
pub record Alters (old new : Database) (tree : ℕ)
    (Change : List Row → List Row → Type 0) : Type 0 where
  pub tidy : IsTidy new
  pub change : Change (contents (old.trees tree)) (contents (new.trees tree))
  pub meta : meta_tree ≢ tree → new.trees meta_tree ≡ old.trees meta_tree
  pub object : object_tree ≢ tree → new.trees object_tree ≡ old.trees object_tree
  pub named : named_tree ≢ tree → new.trees named_tree ≡ old.trees named_tree
  pub others : KeepsOthers old new

-- these rows are added
abbrev pub Adds : List Row → List Row → List Row → Type 0
Adds rows old new = IsPermutation (rows ++ old) new

-- the rows that pass the test are taken out
abbrev pub RemovesRows : (Row → Bool) → List Row → List Row → Type 0
RemovesRows test old new = new ≡ filter (λ row. not (test row)) old

-- a statement ran in the transaction, which goes on: the connection is open, and nothing was
-- committed
pub record RunsOn (old new : State) : Type 0 where
  pub is_open : IsTrue new.is_open
  pub mode : new.in_transaction ≡ old.in_transaction
  pub committed : new.committed ≡ old.committed

-- the answer has these rows, in the order of this rank
pub record IsInRank (rank : Row → Row → Ordering) (rows answer : List Row) : Type 0 where
  pub same : IsPermutation rows answer
  pub sorted : IsSorted rank answer

-- a name and a value, as a row of `meta`, which has no third column
abbrev pub meta_values : List ℕ → List ℕ → Row
meta_values name value = Text name ∷ Text value ∷ Null ∷ []

-- the names and values of rows of `meta`, which are all that is read of them
abbrev pub meta_rows : List Row → List Row
meta_rows = map (λ r. column r 1 ∷ column r 2 ∷ [])

-- a name and a value, as they are read of a row of `meta`
abbrev pub meta_row : List ℕ → List ℕ → Row
meta_row name value = Text name ∷ Text value ∷ []

-- a class, a key and a text, as a row of `object`
abbrev pub object_values : ℕ → List ℕ → List ℕ → Row
object_values class key body = Int (pos class) ∷ Text key ∷ Blob body ∷ []

-- a maintainer, a class and a key, as a row of `named`
abbrev pub named_values : List ℕ → ℕ → List ℕ → Row
named_values name class key = Text name ∷ Int (pos class) ∷ Text key ∷ []

-- a row passes the tests of WHERE under these parameters
abbrev pub meets_tests : List Term → Row → Row → Bool
meets_tests tests params row = list_all (holds (params ∷ (Null ∷ row) ∷ [])) tests

-- a row of `object` has the class and the key, as SQL compares them
abbrev pub is_object_of : ℕ → List ℕ → Row → Bool
is_object_of class key = meets_tests object_tests (Int (pos class) ∷ Text key ∷ [])

-- a row of `named` has the class and the key, as SQL compares them
abbrev pub is_named_of : ℕ → List ℕ → Row → Bool
is_named_of class key = meets_tests named_tests (Int (pos class) ∷ Text key ∷ [])

-- a row of `named` has the class and the key, and is of this maintainer
abbrev pub is_name_of : ℕ → List ℕ → List ℕ → Row → Bool
is_name_of class key name =
    meets_tests name_tests (Text name ∷ Int (pos class) ∷ Text key ∷ [])

-- a row of `named` has the class and the key, and is of one of these maintainers
abbrev pub is_name_among : ℕ → List ℕ → List (List ℕ) → Row → Bool
is_name_among class key names row = list_any (λ name. is_name_of class key name row) names

-- rows in the order of their first columns
abbrev pub by_one : Row → Row → Ordering
by_one = key_cmp 0 (ascending Binary ∷ [])

-- rows in the order of their first two columns
abbrev pub by_two : Row → Row → Ordering
by_two = key_cmp 0 (ascending Binary ∷ ascending Binary ∷ [])

-- rows in the order of their first three columns
abbrev pub by_three : Row → Row → Ordering
by_three = key_cmp 0 (ascending Binary ∷ ascending Binary ∷ ascending Binary ∷ [])

-- the number of a row, as a row
abbrev pub number : Row → Row
number row = rowid row ∷ []

-- the number of a row and its columns
abbrev pub numbered : Row → Row
numbered row = rowid row ∷ columns row

-- a number is above the last, if there is one
abbrev pub IsPast : Option ℤ → ℤ → Type 0
IsPast None n = Unit {0}
IsPast (Some last) n = last <ℤ n
