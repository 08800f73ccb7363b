-- The answers of queries with no grouping, no DISTINCT and no LIMIT.
use Rattle.std.proofs.Common.{◌≡◌, ℕ, Bool, true, false, cond, List, [], ◌∷◌, ◌++◌, map, filter}
use Rattle.std.proofs.Common.{flat_map, refl, sym, ap, subst, ◌∙◌, Ordering, IsPermutation}
use Rattle.std.proofs.Common.{IsSorted}
use Rattle.std.specs.List.{list_all}
use Rattle.std.specs.Ordering.{is_lt}
use Rattle.std.proofs.lemmas.List.Sorted.{IsPermutation-map}
use Rattle.sqlite_value.specs.declared.value.Value.TheVariants.{Null}
use Rattle.sqlite_value.specs.Order.{Row}
use Rattle.sqlite_trees.specs.Tree.{Trees}
use Rattle.sqlite_trees.proofs.ListLemmas.{map-map, pull_back}
use Rattle.sqlite_sql.specs.Term.{Term, Env, eval_all, holds}
use Rattle.sqlite_sql.specs.Query.{Query, Join, inner, end, matches, output, output_cmp}
use Rattle.sqlite_sql.specs.Query.{IsSureAnswer}
use Rattle.sqlite_exec.proofs.PartitionLemmas.{IsSorted-from_map}
use Rattle.sqlite_exec.proofs.RowsLemmas.{IsSorted-map}
use Rattle.rr_store.specs.Queries.{select_from}
use Rattle.rr_store.specs.Contents.{IsInRank}

flat_map-cond : {A B : Type 0} (p : A → Bool) (f : A → B) (xs : List A) →
    flat_map (λ x. cond (p x) (f x ∷ []) []) xs ≡ map f (filter p xs)
flat_map-cond p f [] = refl
flat_map-cond p f (x ∷ xs) =
    elim (p x) as (λ b. cond b (f x ∷ []) [] ++ flat_map (λ y. cond (p y) (f y ∷ []) []) xs
    ≡ map f (cond b (x ∷ filter p xs) (filter p xs)))
    [ true ↦ ap (λ l. f x ∷ l) (flat_map-cond p f xs) | false ↦ flat_map-cond p f xs ]

module _ (from : Join) (tests shown order : List Term) (params : Row) (trees : Trees)
    (rank : Row → Row → Ordering)
    (ranks : (a b : Env) → output_cmp (select_from from tests shown order)
    (output (select_from from tests shown order) a)
    (output (select_from from tests shown order) b) ≡ rank (eval_all shown a)
    (eval_all shown b)) where
  abbrev query : Query
  query = select_from from tests shown order

  -- an answer is what is shown of the matches, in the order
  pub answers : (rows : List Row) → IsSureAnswer query trees params rows →
      IsInRank rank (map (eval_all shown) (matches trees tests from (params ∷ []))) rows
  answers rows sure =
      let a = sure Null in
      let found = matches trees tests from (params ∷ []) in
      let kept : a.kept ≡ map (output query) found = a.distinct ∙ ap (map (output query))
      a.grouped in
      let back = pull_back (output query) _ a.ordered (subst (λ k. IsPermutation k a.ordered) kept
      a.same) found refl in
      let is : rows ≡ map (eval_all shown) back.0 = a.shown ∙ ap (map (λ o. o.1)) back.2 ∙ map-map
      (λ o. o.1) (output query) back.0 in
      let up : IsSorted (λ x y. rank (eval_all shown x) (eval_all shown y)) back.0 =
      λ k d low high. ap is_lt (sym (ranks _ _)) ∙ IsSorted-from_map (output_cmp query)
      (output query) back.0 (subst (IsSorted (output_cmp query)) back.2 a.sorted) k d low
      high in
      record {
        same = subst (IsPermutation (map (eval_all shown) found)) (sym is)
            (IsPermutation-map (eval_all shown) found back.0 back.1);
        sorted = subst (IsSorted rank) (sym is) (IsSorted-map rank (eval_all shown) back.0 up);
      }

-- the matches of one table are its rows that pass
pub matches_of : (tree : ℕ) (tests : List Term) (params : Row) (trees : Trees)
    → matches trees tests (inner tree end) (params ∷ []) ≡ map (λ r. params ∷ r ∷ [])
    (filter (λ r. list_all (holds (params ∷ r ∷ [])) tests) (trees tree))
matches_of tree tests params trees = flat_map-cond _ (λ r. params ∷ r ∷ []) (trees tree)
