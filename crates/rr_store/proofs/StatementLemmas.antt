-- What each statement does to a database with the three tables.
-- Inserting, deleting and selecting are proved once for any of the tables, and then stated of
-- each. The length is in these statements and in the filters and permutations that rows go
-- through. What each text means and which columns it gives is handed in. The functions of
-- `statements` and `row_reading` need it.
use Rattle.std.proofs.Common.{◌≡◌, ◌≢◌, ◌⊎◌, inl, inr, ℕ, ◌/◌, ◌≤◌, ℤ, pos, Bool, true, false, not}
use Rattle.std.proofs.Common.{cond, List, [], ◌∷◌, length, map, filter, Some, Ok}
use Rattle.std.proofs.Common.{slice_get, codes, refl, sym, ap, subst, ◌∙◌, arith, IsPermutation}
use Rattle.std.proofs.Common.{Ordering, Equal}
use Rattle.std.specs.List.{AllByRecursion, list_all}
use Rattle.std.proofs.lemmas.Bool.{cases_eq}
use Rattle.std.proofs.lemmas.List.Sorted.{IsPermutation-map}
use Rattle.sqlite_value.specs.declared.value.Value.TheVariants.{Null, Int, Text, Blob}
use Rattle.sqlite_value.specs.Order.{Row, column}
use Rattle.sqlite_trees.specs.Tree.{Trees, rowid, put_row}
use Rattle.sqlite_trees.proofs.ListLemmas.{all_weaker, map-map, filter-map}
use Rattle.sqlite_sql.specs.Term.{Term, Env, col, holds, eval_all}
use Rattle.sqlite_sql.specs.Ops.{unary}
use Rattle.sqlite_sql.specs.Query.{inner, end, matches, output, output_cmp}
use Rattle.sqlite_sql.specs.Program.{overlay}
use Rattle.sqlite_schema.specs.declared.schema.Column.{Column}
use Rattle.sqlite_schema.specs.declared.schema.Kind.TheVariants as kind
use Rattle.sqlite_schema.specs.declared.schema.Schema.{Schema}
use Rattle.sqlite_schema.specs.declared.command.Command.TheVariants.{Insert, Delete, Select}
use Rattle.sqlite_schema.specs.declared.command.Source.TheVariants.{Values}
use Rattle.sqlite_rules.specs.Cast.{cast, cast_row}
use Rattle.sqlite_rules.specs.Calls.{ids_of}
use Rattle.sqlite_rules.specs.Edit.{IsNoIndex, id_in, next_rowid, without_all}
use Rattle.sqlite.specs.Effect.{Database, value_rows}
use Rattle.sqlite.specs.Rows.{stamped}
use Rattle.sqlite.specs.State.{State, Executes, Shown}
use Rattle.sqlite.proofs.Callers.{reads_as}
use Rattle.rr_store.specs.Tables.{Layout, Rules, laid, table_with, stands_apart, HasTables}
use Rattle.rr_store.specs.Texts.{clear_meta, clear_named, clear_object, delete_name, delete_object}
use Rattle.rr_store.specs.Texts.{insert_meta, insert_named, insert_object, meta_numbers}
use Rattle.rr_store.specs.Texts.{named_numbers, object_numbers, select_meta, select_named}
use Rattle.rr_store.specs.Texts.{select_object, select_of_key, select_sorted_named}
use Rattle.rr_store.specs.Queries.{IsSqlOf, alone, rowids_of, rows_of, object_tests, name_tests}
use Rattle.rr_store.specs.Contents.{AreNumbered, IsTidy, IsOfOther, Alters, Adds, RemovesRows}
use Rattle.rr_store.specs.Contents.{IsInRank}
use Rattle.rr_store.specs.Contents.{columns, contents, number, numbered, meta_values, object_values}
use Rattle.rr_store.specs.Contents.{named_values, meets_tests, is_object_of, is_name_of}
use Rattle.rr_store.specs.Contents.{by_one, by_two, by_three}
use Rattle.rr_store.proofs.TextLemmas.{insert_meta_is, insert_object_is, insert_named_is}
use Rattle.rr_store.proofs.TextLemmas.{delete_object_is, delete_name_is, clear_meta_is}
use Rattle.rr_store.proofs.TextLemmas.{clear_object_is, clear_named_is, select_meta_is}
use Rattle.rr_store.proofs.TextLemmas.{select_object_is, select_of_key_is, select_named_is}
use Rattle.rr_store.proofs.TextLemmas.{select_sorted_named_is, meta_numbers_is}
use Rattle.rr_store.proofs.TextLemmas.{object_numbers_is, named_numbers_is}
use Rattle.rr_store.proofs.RowLemmas.{put_permutes, put_keyed, without_those, filter_keyed}
use Rattle.rr_store.proofs.ChangeLemmas.{Sets, inserted, deleted}
use Rattle.rr_store.proofs.QueryLemmas.{answers, matches_of}

abbrev IsOurs : ℕ → Type 0
IsOurs tree = (tree ≡ 0) ⊎ ((tree ≡ 2) ⊎ (tree ≡ 4))

low : (tree : ℕ) → IsOurs tree → tree ≤ 4
low tree (inl h) = omega arith
low tree (inr (inl h)) = omega arith
low tree (inr (inr h)) = omega arith

keyed_at : (tree : ℕ) (db : Database) → IsOurs tree → IsTidy db → AreNumbered (db.trees tree)
keyed_at tree db (inl h) tidy = subst (λ t. AreNumbered (db.trees t)) (sym h) tidy.meta
keyed_at tree db (inr (inl h)) tidy = subst (λ t. AreNumbered (db.trees t)) (sym h) tidy.object
keyed_at tree db (inr (inr h)) tidy = subst (λ t. AreNumbered (db.trees t)) (sym h) tidy.named

apart_from : (tree : ℕ) → IsOurs tree → (t : ℕ) → IsOfOther t → t ≢ tree
apart_from tree (inl h) t other = subst (λ u. t ≢ u) (sym h) other.meta
apart_from tree (inr (inl h)) t other = subst (λ u. t ≢ u) (sym h) other.object
apart_from tree (inr (inr h)) t other = subst (λ u. t ≢ u) (sym h) other.named

-- the tables are there still, and one of them has changed
altered : (l : Layout) → list_all stands_apart l.others ≡ true → (tree : ℕ) → IsOurs tree →
    (rows : List Row) (old new : Database) (Change : List Row → List Row → Type 0)
    → IsTidy old → old.schema ≡ laid l → Sets l tree rows old new → AreNumbered rows →
    Change (contents (old.trees tree)) (contents rows) → Alters old new tree Change
altered l apart tree ours rows old new Change tidy is sets keyed change = record {
  tidy = record {
    has = record { layout = l; is = sets.schema; apart = apart };
    meta = at 0 tidy.meta sets.tables.0;
    object = at 2 tidy.object sets.tables.1.0;
    named = at 4 tidy.named sets.tables.1.1.0;
  };
  change = subst (λ all. Change (contents (old.trees tree)) (contents all)) (sym sets.rows_are)
      change;
  meta = sets.tables.0;
  object = sets.tables.1.0;
  named = sets.tables.1.1.0;
  others = record {
    schema = sets.schema ∙ sym is;
    tables =
        subst (λ (s : Schema). AllByRecursion (λ t. IsOfOther t.tree → new.trees t.tree ≡ old.trees
        t.tree) s.tables) (sym is)
        (all_weaker _ _ (λ t same other. same (apart_from tree ours t.tree other)) (laid l).tables
        sets.tables);
    trees = λ t other none. sets.others t (apart_from tree ours t other)
        (subst (λ s. IsNoIndex s t) is none);
  };
}
  where
    at : (t : ℕ) → AreNumbered (old.trees t) → (t ≢ tree → new.trees t ≡ old.trees t) →
        AreNumbered (new.trees t)
    at t was same = elim (cases_eq t tree) [
      | inl is ↦ subst (λ u. AreNumbered (new.trees u)) (sym is)
          (subst AreNumbered (sym sets.rows_are) keyed)
      | inr other ↦ subst AreNumbered (sym (same other)) was
    ]

module _ (at tree : ℕ) (ours : IsOurs tree) (name : List ℕ) (cols : List Column)
    (r : Layout → Rules) (found : (l : Layout) → slice_get (laid l).tables at
    ≡ Some (table_with name tree cols (r l)))
    (text : List ℕ) (params : Row) (old new : State) (tidy : IsTidy old.now) where
  module _ (from : List Term) (width : ℕ) (means : (l : Layout) →
      IsSqlOf l text (Insert at (Values from width))) (values held : Row)
      (given : (l : Layout) → value_rows (stamped (table_with name tree cols (r l)) params) width
      (length from / width) from ≡ (Null ∷ values) ∷ [])
      (fits : (l : Layout) → cast_row (table_with name tree cols (r l)) (Null ∷ values) ≡ Null
      ∷ values)
      (holds_them : (n : ℤ) → columns (Int n ∷ values) ≡ held) where
    inserts : (count : ℕ) → Executes text params old new (Ok count) → Alters old.now new.now tree
        (Adds (held ∷ []))
    inserts count h =
        let l = tidy.has.layout in
        let did = inserted l tidy.has.apart at tree (low tree ours) name cols (r l) (found l) text
        params old new tidy.has.is from width (means l) values (given l) (fits l) count h in
        let keyed = keyed_at tree old.now ours tidy in
        let id = next_rowid (old.now.trees tree) in
        let new_row : Row = Int id ∷ values in
        altered l tidy.has.apart tree ours _ old.now new.now (Adds (held ∷ [])) tidy tidy.has.is
        did.1 (put_keyed _ _ did.0 refl keyed)
        (subst (λ row. IsPermutation (row ∷ contents (old.now.trees tree))
        (contents (put_row new_row (old.now.trees tree)))) (holds_them id)
        (IsPermutation-map columns (new_row ∷ old.now.trees tree)
        (put_row new_row (old.now.trees tree)) (put_permutes new_row (old.now.trees tree)
        did.0)))

  module _ (tests : List Term) (means : (l : Layout) →
      IsSqlOf l text (Delete at (alone (rowids_of tree tests)))) (seen : (db : Trees) →
      overlay db [] tree ≡ db tree)
      (same : (row : Row) → list_all (holds (params ∷ row ∷ [])) tests ≡ meets_tests tests params
      (columns row)) where
    deletes : (count : ℕ) → Executes text params old new (Ok count) → Alters old.now new.now tree
        (RemovesRows (meets_tests tests params))
    deletes count h =
        let l = tidy.has.layout in
        let rows = old.now.trees tree in
        let p : Row → Bool = λ row. list_all (holds (params ∷ row ∷ [])) tests in
        let did = deleted l tidy.has.apart at tree (low tree ours) name cols (r l) (found l) text
        params old new tidy.has.is (rowids_of tree tests) (means l) count h in
        let shown = answers (inner tree end) tests (col 1 0 ∷ []) [] params
        (overlay old.now.trees []) (λ a b. Equal) (λ a b. refl) did.0 did.1 in
        let are : map (eval_all (col 1 0 ∷ [])) (matches (overlay old.now.trees []) tests
        (inner tree end) (params ∷ [])) ≡ map number (filter p rows) =
        ap (map (eval_all (col 1 0 ∷ []))) (matches_of tree tests params (overlay old.now.trees [])
        ∙ ap (λ xs. map (λ row. params ∷ row ∷ []) (filter p xs)) (seen old.now.trees))
        ∙ map-map _ _ (filter p rows) in
        let ids : IsPermutation (map (λ row. id_in (rowid row)) (filter p rows)) (ids_of did.0) =
        subst (λ xs. IsPermutation xs (ids_of did.0))
        (ap ids_of are ∙ map-map _ number (filter p rows))
        (IsPermutation-map (λ row. id_in (rowid row)) _ _ shown.same) in
        let keyed = keyed_at tree old.now ours tidy in
        let left : without_all rows (ids_of did.0) ≡ filter (λ row. not (p row)) rows =
        without_those p rows (ids_of did.0) keyed ids in
        altered l tidy.has.apart tree ours _ old.now new.now
        (RemovesRows (meets_tests tests params))
        tidy tidy.has.is did.2
        (subst AreNumbered (sym left) (filter_keyed (λ row. not (p row)) rows keyed))
        (ap contents left ∙ ap (λ (q : Row → Bool). contents (filter (λ row. not (q row)) rows))
        (λ i row. same row i) ∙ sym (filter-map (λ row. not (meets_tests tests params row))
        columns rows))

  -- every row goes
  clears : (means : (l : Layout) → IsSqlOf l text (Delete at (alone (rowids_of tree [])))) →
      (seen : (db : Trees) → overlay db [] tree ≡ db tree) → (count : ℕ) → Executes text params old
      new (Ok count)
      → Alters old.now new.now tree (RemovesRows (λ row. true))
  clears means seen count h = deletes [] means seen (λ row. refl) count h

either : {X : Type 0} (b : Bool) (x : X) → cond b x x ≡ x
either true x = refl
either false x = refl

cast_null : cast kind.Integer Null ≡ Null
unfolding unary
cast_null = either _ Null

cast_int : (n : ℤ) → cast kind.Integer (Int n) ≡ Int n
unfolding unary
cast_int n = either _ (Int n)

pub inserts_meta : (name value : List ℕ) (old new : State) → IsTidy old.now → (count : ℕ) →
    Executes insert_meta (Text name ∷ Text value ∷ []) old new (Ok count) → Alters old.now new.now
    0 (Adds (meta_values name value ∷ []))
inserts_meta name value old new tidy count h =
    inserts 0 0 (inl refl) _ _ (λ l. l.meta) (λ l. refl) insert_meta (Text name ∷ Text value ∷ [])
    old new tidy _ _ insert_meta_is (Text name ∷ Text value ∷ []) (meta_values name value)
    (λ l. refl) (λ l. ap (λ v. v ∷ Text name ∷ Text value ∷ []) cast_null) (λ n. refl) count h

pub inserts_object : (class : ℕ) (key body : List ℕ) (old new : State) → IsTidy old.now →
    (count : ℕ) → Executes insert_object (object_values class key body) old new (Ok count)
    → Alters old.now new.now 2 (Adds (object_values class key body ∷ []))
inserts_object class key body old new tidy count h =
    inserts 1 2 (inr (inl refl)) _ _ (λ l. l.object) (λ l. refl) insert_object
    (object_values class key body) old new tidy _ _ insert_object_is
    (object_values class key body) (object_values class key body)
    (λ l. refl) (λ l i. cast_null i ∷ cast_int (pos class) i ∷ Text key ∷ Blob body ∷ [])
    (λ n. refl) count h

pub inserts_named : (name : List ℕ) (class : ℕ) (key : List ℕ) (old new : State) → IsTidy old.now →
    (count : ℕ) → Executes insert_named (named_values name class key) old new (Ok count)
    → Alters old.now new.now 4 (Adds (named_values name class key ∷ []))
inserts_named name class key old new tidy count h =
    inserts 2 4 (inr (inr refl)) _ _ (λ l. l.named) (λ l. refl) insert_named
    (named_values name class key) old new tidy _ _ insert_named_is
    (named_values name class key) (named_values name class key)
    (λ l. refl) (λ l i. cast_null i ∷ Text name ∷ cast_int (pos class) i ∷ Text key ∷ [])
    (λ n. refl) count h

pub deletes_object : (class : ℕ) (key : List ℕ) (old new : State) → IsTidy old.now → (count : ℕ) →
    Executes delete_object (Int (pos class) ∷ Text key ∷ []) old new (Ok count)
    → Alters old.now new.now 2 (RemovesRows (is_object_of class key))
deletes_object class key old new tidy count h =
    deletes 1 2 (inr (inl refl)) _ _ (λ l. l.object) (λ l. refl) delete_object
    (Int (pos class) ∷ Text key ∷ []) old new tidy object_tests delete_object_is (λ db. refl)
    (λ row. refl) count h

pub deletes_name : (name : List ℕ) (class : ℕ) (key : List ℕ) (old new : State) → IsTidy old.now →
    (count : ℕ) → Executes delete_name (named_values name class key) old new (Ok count)
    → Alters old.now new.now 4 (RemovesRows (is_name_of class key name))
deletes_name name class key old new tidy count h =
    deletes 2 4 (inr (inr refl)) _ _ (λ l. l.named) (λ l. refl) delete_name
    (named_values name class key) old new tidy name_tests delete_name_is (λ db. refl)
    (λ row. refl) count h

pub clears_meta : (old new : State) → IsTidy old.now → (count : ℕ) → Executes clear_meta [] old new
    (Ok count) → Alters old.now new.now 0 (RemovesRows (λ row. true))
clears_meta old new tidy = clears 0 0 (inl refl) _ _ (λ l. l.meta) (λ l. refl) clear_meta [] old
    new tidy clear_meta_is (λ db. refl)

pub clears_object : (old new : State) → IsTidy old.now → (count : ℕ) → Executes clear_object [] old
    new (Ok count) → Alters old.now new.now 2 (RemovesRows (λ row. true))
clears_object old new tidy = clears 1 2 (inr (inl refl)) _ _ (λ l. l.object) (λ l. refl)
    clear_object [] old new tidy clear_object_is (λ db. refl)

pub clears_named : (old new : State) → IsTidy old.now → (count : ℕ) → Executes clear_named [] old
    new (Ok count) → Alters old.now new.now 4 (RemovesRows (λ row. true))
clears_named old new tidy = clears 2 4 (inr (inr refl)) _ _ (λ l. l.named) (λ l. refl) clear_named
    [] old new tidy clear_named_is (λ db. refl)

-- ---- queries

filter_true : (rows : List Row) → filter (λ row. true) rows ≡ rows
filter_true [] = refl
filter_true (row ∷ rows) = ap (λ l. row ∷ l) (filter_true rows)

module _ (tree : ℕ) (seen : (db : Trees) → overlay db [] tree ≡ db tree) (text : List ℕ)
    (names : List (List ℕ)) (shown order : List Term) (rank : Row → Row → Ordering)
    (ranks : (a b : Env) → output_cmp (rows_of tree [] shown order)
    (output (rows_of tree [] shown order) a) (output (rows_of tree [] shown order) b)
    ≡ rank (eval_all shown a) (eval_all shown b))
    (means : (l : Layout) → IsSqlOf l text (Select (alone (rows_of tree [] shown order)) names))
  where
    selects : (old new : State) → HasTables old.now.schema → (rows : List Row) →
        Shown text [] old new rows → IsInRank rank (map (λ row. eval_all shown ([] ∷ row ∷ []))
        (old.now.trees tree)) rows
    selects old new has rows h =
        let l = has.layout in
        let sure = (reads_as text [] old new (laid l) has.is _ (means l).is (means l).plain
        (means l).unlisted rows h).answer in
        let list = answers (inner tree end) [] shown order [] (overlay old.now.trees []) rank ranks
        rows sure in
        subst (λ xs. IsInRank rank xs rows)
        (ap (map (eval_all shown)) (matches_of tree [] [] (overlay old.now.trees [])
        ∙ ap (λ xs. map (λ row. [] ∷ row ∷ []) (filter (λ row. true) xs)) (seen old.now.trees)
        ∙ ap (map (λ row. [] ∷ row ∷ [])) (filter_true (old.now.trees tree))) ∙ map-map _ _
        (old.now.trees tree))
        list

pub selects_meta : (old new : State) → HasTables old.now.schema → (rows : List Row) →
    Shown select_meta [] old new rows →
    IsInRank by_two (map (λ r. column r 1 ∷ column r 2 ∷ []) (old.now.trees 0)) rows
selects_meta = selects 0 (λ db. refl) select_meta (codes "name" ∷ codes "value" ∷ [])
    (col 1 1 ∷ col 1 2 ∷ []) (col 1 1 ∷ col 1 2 ∷ []) by_two (λ a b. refl) select_meta_is

pub selects_object : (old new : State) → HasTables old.now.schema → (rows : List Row) →
    Shown select_object [] old new rows → IsInRank by_one (map numbered (old.now.trees 2)) rows
selects_object = selects 2 (λ db. refl) select_object (codes "rowid" ∷ codes "class" ∷ codes "okey"
    ∷ codes "body" ∷ []) (col 1 0 ∷ col 1 1 ∷ col 1 2 ∷ col 1 3 ∷ []) (col 1 0 ∷ []) by_one
    (λ a b. refl) select_object_is

pub selects_named : (old new : State) → HasTables old.now.schema → (rows : List Row) →
    Shown select_named [] old new rows → IsInRank by_one (map numbered (old.now.trees 4)) rows
selects_named = selects 4 (λ db. refl) select_named (codes "rowid" ∷ codes "maintainer"
    ∷ codes "class" ∷ codes "okey" ∷ []) (col 1 0 ∷ col 1 1 ∷ col 1 2 ∷ col 1 3 ∷ [])
    (col 1 0 ∷ []) by_one (λ a b. refl) select_named_is

pub selects_sorted_named : (old new : State) → HasTables old.now.schema → (rows : List Row) →
    Shown select_sorted_named [] old new rows → IsInRank by_three (contents (old.now.trees 4)) rows
selects_sorted_named = selects 4 (λ db. refl) select_sorted_named
    (codes "maintainer" ∷ codes "class" ∷ codes "okey" ∷ []) (col 1 1 ∷ col 1 2 ∷ col 1 3 ∷ [])
    (col 1 1 ∷ col 1 2 ∷ col 1 3 ∷ []) by_three (λ a b. refl) select_sorted_named_is

pub numbers_meta : (old new : State) → HasTables old.now.schema → (rows : List Row) →
    Shown meta_numbers [] old new rows → IsInRank by_one (map number (old.now.trees 0)) rows
numbers_meta = selects 0 (λ db. refl) meta_numbers (codes "rowid" ∷ []) (col 1 0 ∷ [])
    (col 1 0 ∷ []) by_one (λ a b. refl) meta_numbers_is

pub numbers_object : (old new : State) → HasTables old.now.schema → (rows : List Row) →
    Shown object_numbers [] old new rows → IsInRank by_one (map number (old.now.trees 2)) rows
numbers_object = selects 2 (λ db. refl) object_numbers (codes "rowid" ∷ []) (col 1 0 ∷ [])
    (col 1 0 ∷ []) by_one (λ a b. refl) object_numbers_is

pub numbers_named : (old new : State) → HasTables old.now.schema → (rows : List Row) →
    Shown named_numbers [] old new rows → IsInRank by_one (map number (old.now.trees 4)) rows
numbers_named = selects 4 (λ db. refl) named_numbers (codes "rowid" ∷ []) (col 1 0 ∷ [])
    (col 1 0 ∷ []) by_one (λ a b. refl) named_numbers_is

-- the rows of the objects of a class and a key
pub selects_of_key : (class : ℕ) (key : List ℕ) (old new : State) → HasTables old.now.schema →
    (rows : List Row) → Shown select_of_key (Int (pos class) ∷ Text key ∷ []) old new rows
    → IsPermutation (filter (is_object_of class key) (contents (old.now.trees 2))) rows
selects_of_key class key old new has rows h =
    let means = select_of_key_is has.layout in
    let params : Row = Int (pos class) ∷ Text key ∷ [] in
    let shown = col 1 1 ∷ col 1 2 ∷ col 1 3 ∷ [] in
    let object = old.now.trees 2 in
    let sure = (reads_as select_of_key params old new (laid has.layout) has.is _ means.is
    means.plain means.unlisted rows h).answer in
    let list = answers (inner 2 end) object_tests shown [] params (overlay old.now.trees [])
    (λ a b. Equal) (λ a b. refl) rows sure in
    subst (λ xs. IsPermutation xs rows)
    (ap (map (eval_all shown)) (matches_of 2 object_tests params (overlay old.now.trees []))
    ∙ map-map _ _ (filter (λ row. is_object_of class key (columns row)) object)
    ∙ sym (filter-map (is_object_of class key) columns object))
    list.same
