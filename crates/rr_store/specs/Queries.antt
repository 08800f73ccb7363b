-- The queries that the statements on the three tables are, as the resolver reads them: for proofs,
-- and for the tests of WHERE in `Contents`. Whoever changes a text of `Texts` changes its query
-- here.
use Rattle.std.specs.Prelude.{◌≡◌, ℕ, ◌+◌, pos, negsuc, false, List, [], ◌∷◌, map}
use Rattle.std.specs.Prelude.{None}
use Rattle.std.specs.List.{range_with_len}
use Rattle.sqlite_value.specs.declared.value.Value.TheVariants.{Null, Int}
use Rattle.sqlite_value.specs.declared.keys.Collation.TheVariants.{Binary}
use Rattle.sqlite_value.specs.Keys.{ascending}
use Rattle.sqlite_sql.specs.Term.{Term, lit, col, op2}
use Rattle.sqlite_sql.specs.declared.ops.BinaryOp.TheVariants.{Compare}
use Rattle.sqlite_sql.specs.declared.ops.CompareOp.TheVariants.{Eq}
use Rattle.sqlite_sql.specs.Query.{Query, Join, inner, end}
use Rattle.sqlite_schema.specs.declared.program.Program.{Program}
use Rattle.sqlite_schema.specs.declared.command.Source.TheVariants.{Values}
use Rattle.sqlite_schema.specs.declared.command.Command.{Command}
use Rattle.sqlite_schema.specs.declared.command.Command.TheVariants.{Insert}
use Rattle.sqlite.specs.Given.{IsPlain}
use Rattle.sqlite.specs.Listing.{understood, reads_listing}
use Rattle.sqlite.proofs.Callers.{command_of}
use Rattle.rr_store.specs.Tables.{Layout, laid, meta_tree, named_tree, object_tree}

-- a value of a row is that of another row, or a parameter
abbrev pub equals : Term → Term → Term
equals a b = op2 (Compare Eq Binary) a b

-- a query of all rows that pass the tests, shown and put in order by these terms
abbrev pub select_from : Join → List Term → List Term → List Term → Query
select_from from tests shown order = record {
  from = from;
  filter = tests;
  group = None;
  project = shown;
  distinct = false;
  collations = [];
  order = map (λ term. (term, ascending Binary)) order;
  limit = lit (Int (negsuc 0));
  offset = lit (Int (pos 0));
}

-- a query of the rows of one table that pass the tests, shown and put in order by these terms
abbrev pub rows_of : ℕ → List Term → List Term → List Term → Query
rows_of tree = select_from (inner tree end)

-- a program that is the query alone
abbrev pub alone : Query → Program
alone query = record { lets = []; body = query }

-- the rowids of the rows that pass the tests
abbrev pub rowids_of : ℕ → List Term → Query
rowids_of tree tests = rows_of tree tests (col 1 0 ∷ []) []

-- the rowids of all rows, in order
abbrev pub numbers_of : ℕ → Query
numbers_of tree = rows_of tree [] (col 1 0 ∷ []) (col 1 0 ∷ [])

-- all rows with their rowids, in the order of these
abbrev pub numbered_of : ℕ → Query
numbered_of tree =
    rows_of tree [] (col 1 0 ∷ col 1 1 ∷ col 1 2 ∷ col 1 3 ∷ []) (col 1 0 ∷ [])

-- a row of `object` has the class and the key that are given
abbrev pub object_tests : List Term
object_tests = equals (col 1 1) (col 0 0) ∷ equals (col 1 2) (col 0 1) ∷ []

-- a row of `named` has the class and the key that are given
abbrev pub named_tests : List Term
named_tests = equals (col 1 2) (col 0 0) ∷ equals (col 1 3) (col 0 1) ∷ []

-- a row of `named` has the maintainer, the class and the key that are given
abbrev pub name_tests : List Term
name_tests =
    equals (col 1 1) (col 0 0) ∷ equals (col 1 2) (col 0 1) ∷ equals (col 1 3) (col 0 2) ∷ []

-- the names and values of `meta`, in order of the names, then of the values
abbrev pub meta_query : Query
meta_query = rows_of meta_tree [] (col 1 1 ∷ col 1 2 ∷ []) (col 1 1 ∷ col 1 2 ∷ [])

-- the objects of a class and a key
abbrev pub of_key_query : Query
of_key_query = rows_of object_tree object_tests (col 1 1 ∷ col 1 2 ∷ col 1 3 ∷ []) []

-- the rows of `named` without their rowids, by maintainer, class and key
abbrev pub sorted_named_query : Query
sorted_named_query =
    rows_of named_tree [] (col 1 1 ∷ col 1 2 ∷ col 1 3 ∷ []) (col 1 1 ∷ col 1 2 ∷ col 1 3 ∷ [])

-- the parameters become a row of so many columns, whose rowid SQLite chooses
abbrev pub insert_into : ℕ → ℕ → Command
insert_into at width =
    Insert at (Values (lit Null ∷ map (col 0) (range_with_len 0 width)) (width + 1))

-- a text is this command under the schema, with no RETURNING and no time, and reads no list of
-- tables
pub record IsSqlOf (l : Layout) (text : List ℕ) (command : Command) : Type 0 where
  pub is : command_of (understood (laid l) text) ≡ command
  pub plain : IsPlain (understood (laid l) text)
  pub unlisted : reads_listing (laid l) text ≡ false
