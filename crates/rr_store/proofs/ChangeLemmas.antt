-- What an INSERT and a DELETE on one of the three tables do to its tree.
use Rattle.std.proofs.Common.{◌≡◌, ◌≢◌, ◌⊎◌, inl, inr, ℕ, ◌/◌, ◌≤◌, true, false, not, List, [], ◌∷◌}
use Rattle.std.proofs.Common.{length, Some, None, Ok, Err, Result, slice_get, sym, ap, subst, ◌∙◌}
use Rattle.std.specs.List.{AllByRecursion, list_all}
use Rattle.std.proofs.lemmas.Bool.{and_parts, not-true}
use Rattle.sqlite_value.specs.declared.value.Value.TheVariants.{Null, Int}
use Rattle.sqlite_value.specs.Order.{Row}
use Rattle.sqlite_trees.specs.Tree.{Trees, put_row}
use Rattle.sqlite_sql.specs.Term.{Term}
use Rattle.sqlite_sql.specs.Query.{Query, IsSureAnswer}
use Rattle.sqlite_sql.specs.Program.{overlay}
use Rattle.sqlite_schema.specs.declared.schema.Column.{Column}
use Rattle.sqlite_schema.specs.declared.schema.Table.{Table}
use Rattle.sqlite_schema.specs.declared.command.Command.TheVariants.{Insert, Delete}
use Rattle.sqlite_schema.specs.declared.command.Source.TheVariants.{Values}
use Rattle.sqlite_rules.specs.declared.error.Rowids.TheVariants.{Chosen, Given}
use Rattle.sqlite_rules.specs.Cast.{cast_row}
use Rattle.sqlite_rules.specs.Calls.{ids_of}
use Rattle.sqlite_rules.specs.Edit.{Edit, edit_of, is_taken, next_rowid, with_rowid, without_all}
use Rattle.sqlite_rules.specs.Edit.{Applies, IsNoIndex}
use Rattle.sqlite.specs.Effect.{Database, value_rows}
use Rattle.sqlite.specs.Rows.{Written, stamped}
use Rattle.sqlite.specs.Does.{Tally, Does, AtPlace, OnRows}
use Rattle.sqlite.specs.State.{State, mode_of, Executes}
use Rattle.sqlite.specs.Listing.{understood}
use Rattle.sqlite.proofs.Callers.{runs_as, statement_of}
use Rattle.rr_store.specs.Tables.{Layout, Rules, laid, table_with, stands_apart}
use Rattle.rr_store.specs.Queries.{IsSqlOf, alone}
use Rattle.rr_store.proofs.SchemaLemmas.{one_step_of}

-- one tree has these rows, and the schema and the other trees stay
pub record Sets (l : Layout) (tree : ℕ) (rows : List Row) (old new : Database) : Type 0 where
  pub schema : new.schema ≡ laid l
  pub rows_are : new.trees tree ≡ rows
  pub tables : AllByRecursion (λ t. t.tree ≢ tree → new.trees t.tree ≡ old.trees t.tree)
      (laid l).tables
  pub others : (t : ℕ) → t ≢ tree → IsNoIndex (laid l) t → new.trees t ≡ old.trees t

-- a part that gave a value did not stop on the way
pub went : {B E R : Type 0} {b : B} {Stops : E → Type 0} →
    ((stop : E) × Stops stop × (Ok b ≡ Err stop)) ⊎ R → R
went (inl stopped) = absurd (let e = stopped.2 in cc)
went (inr on) = on

same_value : {B E : Type 0} {a b : B} → ◌≡◌ {A = Result B E} (Ok a) (Ok b) → a ≡ b
same_value e = cc

module _ (l : Layout) (apart : list_all stands_apart l.others ≡ true) (at tree : ℕ)
    (low : tree ≤ 4) (name : List ℕ) (cols : List Column) (r : Rules)
    (found : slice_get (laid l).tables at ≡ Some (table_with name tree cols r)) (text : List ℕ)
    (params : Row) (old new : State) (has : old.now.schema ≡ laid l) where
  abbrev the_table : Table
  the_table = table_with name tree cols r

  abbrev before : Trees
  before = old.now.trees

  module _ (from : List Term) (width : ℕ) (means : IsSqlOf l text (Insert at (Values from width)))
      (values : Row)
      (given : value_rows (stamped the_table params) width (length from / width) from
      ≡ (Null ∷ values) ∷ []) (fits : cast_row the_table (Null ∷ values) ≡ Null ∷ values) where
    abbrev new_row : Row
    new_row = Int (next_rowid (before tree)) ∷ values

    -- the row is put under a number that none had
    pub inserted : (count : ℕ) → Executes text params old new (Ok count) →
        (is_taken (before tree) new_row ≡ false) × Sets l tree (put_row new_row (before tree))
        old.now new.now
    inserted count h =
        let command = Insert at (Values from width) in
        let w = runs_as text params old new (laid l) has command means.is means.plain count h in
        let ran =
        subst (λ s. Does old.step_limit (mode_of old) params (record old.now { schema = s })
        (statement_of text (understood (laid l) text)) None command (Ok (w.tally, new.now)))
        has w.changed in
        let done =
        went
        (subst
        (λ o.
        AtPlace
        (λ table. OnRows (record {
          limit = old.step_limit;
          keys = (mode_of old).keys;
          schema =
              laid l;
          table = table;
          params = params;
        }) (mode_of old) None command before) o
        (Ok (w.tally, new.now))) found ran) in
        let now = ap (λ (p : Tally × Database). p.1) (same_value (went (went done.2).2).2) in
        let rows = went done.1 in
        let written = went (went rows.2).2 in
        let counted = went written.2 in
        let trees : done.0.trees ≡ written.0 = ap (λ (it : Written). it.trees)
        (same_value counted.2) ∙ same_value counted.1 in
        let one : Edit = record { table = the_table; gone = []; news = new_row ∷ [] } in
        let is : edit_of before the_table [] Chosen 0 rows.0 ≡ one =
        ap (edit_of before the_table [] Chosen 0) (rows.1.1 ∙ given)
        ∙ ap (λ row. record one { news = with_rowid Chosen (before tree) row ∷ [] }) fits in
        let step : Applies (laid l) (mode_of old).keys before one written.0 =
        subst (λ e. Applies (laid l) (mode_of old).keys before e written.0) is
        (one_step_of l apart (mode_of old).keys before written.0
        (edit_of before the_table [] Chosen 0 rows.0) low written.1) in
        let all : new.now.trees ≡ written.0 = ap (λ (d : Database). d.trees) now ∙ trees in (
          not-true (is_taken (before tree) new_row)
              (and_parts (not (is_taken (before tree) new_row)) true step.fresh).0,
          record {
            schema = ap (λ (d : Database). d.schema) now;
            rows_are = ap (λ (t : Trees). t tree) all ∙ step.rows;
            tables =
                subst (λ (t : Trees). AllByRecursion (λ u. u.tree ≢ tree → t u.tree ≡ before
                u.tree) (laid l).tables) (sym all) step.tables;
            others = subst (λ (t : Trees). (u : ℕ) → u ≢ tree → IsNoIndex (laid l) u →
                t u ≡ before u) (sym all) step.others;
          },
        )

  module _ (query : Query) (means : IsSqlOf l text (Delete at (alone query))) where
    -- the rows whose numbers the query gives are taken out
    pub deleted : (count : ℕ) → Executes text params old new (Ok count)
        → (rows : List Row) × IsSureAnswer query (overlay before []) params rows × Sets l tree
        (without_all (before tree) (ids_of rows)) old.now new.now
    deleted count h =
        let command = Delete at (alone query) in
        let w = runs_as text params old new (laid l) has command means.is means.plain count h in
        let ran =
        subst (λ s. Does old.step_limit (mode_of old) params (record old.now { schema = s })
        (statement_of text (understood (laid l) text)) None command (Ok (w.tally, new.now)))
        has w.changed in
        let done =
        went
        (subst
        (λ o.
        AtPlace
        (λ table. OnRows (record {
          limit = old.step_limit;
          keys = (mode_of old).keys;
          schema =
              laid l;
          table = table;
          params = params;
        }) (mode_of old) None command before) o
        (Ok (w.tally, new.now))) found ran) in
        let now = ap (λ (p : Tally × Database). p.1) (same_value (went (went done.2).2).2) in
        let shown = went done.1 in
        let written = went shown.2 in
        let trees : done.0.trees ≡ written.0 = ap (λ (it : Written). it.trees)
        (same_value written.2) in
        let step = one_step_of l apart (mode_of old).keys before written.0
        (edit_of before the_table (ids_of shown.0) Given 0 []) low written.1 in
        let all : new.now.trees ≡ written.0 = ap (λ (d : Database). d.trees) now ∙ trees in (
          shown.0,
          shown.1.answer,
          record {
            schema = ap (λ (d : Database). d.schema) now;
            rows_are = ap (λ (t : Trees). t tree) all ∙ step.rows;
            tables =
                subst (λ (t : Trees). AllByRecursion (λ u. u.tree ≢ tree → t u.tree ≡ before
                u.tree) (laid l).tables) (sym all) step.tables;
            others = subst (λ (t : Trees). (u : ℕ) → u ≢ tree → IsNoIndex (laid l) u →
                t u ≡ before u) (sym all) step.others;
          },
        )
