-- The rows of objects, as one is put in and taken out.
use Rattle.std.proofs.Common.{◌≡◌, ℕ, pos, Bool, true, false, not, cond, List, [], ◌∷◌, ◌++◌, map}
use Rattle.std.proofs.Common.{filter, flat_map, refl, sym, ap, ap₂, subst, ◌∙◌, IsPermutation}
use Rattle.std.specs.List.{AllByRecursion}
use Rattle.std.proofs.lemmas.List.Sorted.{IsPermutation-cons, IsPermutation-trans}
use Rattle.std.proofs.lemmas.List.Sorted.{IsPermutation-append_right}
use Rattle.sqlite_value.specs.declared.value.Value.TheVariants.{Int, Text}
use Rattle.sqlite_trees.proofs.ListLemmas.{IsPermutation-filter, filter-map}
use Rattle.sqlite.specs.Effect.{Database}
use Rattle.rr_store.specs.Contents.{contents, is_object_of, is_named_of}
use Rattle.rr_store.specs.Entries.{StoredEntry, object_row, named_rows, AreRowsOf, IsPut}
use Rattle.rr_store.specs.Entries.{IsTakenOut}

-- an entry has this class and this key, as SQL compares them
abbrev pub is_at : ℕ → List ℕ → StoredEntry → Bool
is_at class key entry = is_object_of class key (object_row entry)

-- those with another class or key
abbrev pub without_key : ℕ → List ℕ → List StoredEntry → List StoredEntry
without_key class key = filter (λ entry. not (is_at class key entry))

filter_append : {X : Type 0} (p : X → Bool) (xs ys : List X) → filter p (xs ++ ys) ≡ filter p xs ++
    filter p ys
filter_append p [] ys = refl
filter_append p (x ∷ xs) ys =
    elim (p x) as (λ b. cond b (x ∷ filter p (xs ++ ys)) (filter p (xs ++ ys))
    ≡ cond b (x ∷ filter p xs) (filter p xs) ++ filter p ys)
    [ true ↦ ap (λ l. x ∷ l) (filter_append p xs ys) | false ↦ filter_append p xs ys ]

filter_same_test : {X : Type 0} (b : Bool) (p : X → Bool) (xs : List X) →
    AllByRecursion (λ x. p x ≡ b) xs → filter p xs ≡ cond b xs []
filter_same_test true p [] h = refl
filter_same_test false p [] h = refl
filter_same_test true p (x ∷ xs) h = rw (h.0, filter_same_test true p xs h.1)
filter_same_test false p (x ∷ xs) h = rw (h.0, filter_same_test false p xs h.1)

module _ (class : ℕ) (key : List ℕ) where
  -- the rows of `named` of an entry are of its class and key
  names_tested : (entry : StoredEntry) (names : List (List ℕ)) →
      AllByRecursion (λ row. not (is_named_of class key row) ≡ not (is_at class key entry))
      (map (λ name. Text name ∷ Int (pos entry.class) ∷ Text entry.key ∷ []) names)
  names_tested entry [] = tt
  names_tested entry (name ∷ names) = (refl, names_tested entry names)

  kept_names : (entries : List StoredEntry) → filter (λ row. not (is_named_of class key row))
      (flat_map named_rows entries) ≡ flat_map named_rows (without_key class key entries)
  kept_names [] = refl
  kept_names (entry ∷ entries) =
      filter_append _ (named_rows entry) (flat_map named_rows entries)
      ∙ ap₂ ◌++◌ (filter_same_test (not (is_at class key entry)) _ (named_rows entry)
      (names_tested entry entry.names)) (kept_names entries)
      ∙ (elim (not (is_at class key entry)) as (λ b. cond b (named_rows entry) [] ++ flat_map
      named_rows (without_key class key entries) ≡ flat_map named_rows
      (cond b (entry ∷ without_key class key entries) (without_key class key entries)))
      [ true ↦ refl | false ↦ refl ])

  kept_objects : (entries : List StoredEntry) → filter (λ row. not (is_object_of class key row))
      (map object_row entries) ≡ map object_row (without_key class key entries)
  kept_objects entries = filter-map _ object_row entries

  pub taken_rows : (entries : List StoredEntry) (old new : Database) → AreRowsOf entries old →
      IsTakenOut class key old new → AreRowsOf (without_key class key entries) new
  taken_rows entries old new rows taken = record {
    tidy = taken.tidy;
    objects = subst (λ xs. IsPermutation xs (contents (new.trees 2))) (kept_objects entries)
        (subst (IsPermutation _) (sym taken.objects) (IsPermutation-filter _ _ _ rows.objects));
    named = subst (λ xs. IsPermutation xs (contents (new.trees 4))) (kept_names entries)
        (subst (IsPermutation _) (sym taken.named) (IsPermutation-filter _ _ _ rows.named));
  }

pub put_rows : (entry : StoredEntry) (entries : List StoredEntry) (old new : Database) →
    AreRowsOf entries old
    → IsPut entry old new → AreRowsOf (entry ∷ without_key entry.class entry.key entries) new
put_rows entry entries old new rows put =
    let objects = filter (λ row. not (is_object_of entry.class entry.key row))
    (contents (old.trees 2)) in
    let named = filter (λ row. not (is_named_of entry.class entry.key row))
    (contents (old.trees 4)) in
    record {
      tidy = put.tidy;
      objects = IsPermutation-trans _ _ _ (IsPermutation-cons (object_row entry) _ objects
          (subst (λ xs. IsPermutation xs objects) (kept_objects entry.class entry.key entries)
          (IsPermutation-filter _ _ _ rows.objects))) put.objects;
      named = IsPermutation-trans _ _ _ (IsPermutation-append_right (named_rows entry) _ named
          (subst (λ xs. IsPermutation xs named) (kept_names entry.class entry.key entries)
          (IsPermutation-filter _ _ _ rows.named))) put.named;
    }
