-- The rows of objects that are added one after the other.
use Rattle.std.proofs.Common.{◌≡◌, ℕ, List, [], ◌∷◌, ◌++◌, codes, map, flat_map, refl, sym, ap}
use Rattle.std.proofs.Common.{subst, ◌∙◌, append_assoc, IsPermutation}
use Rattle.std.proofs.lemmas.List.{map-append}
use Rattle.std.proofs.lemmas.List.Sorted.{IsPermutation-refl, IsPermutation-trans}
use Rattle.std.proofs.lemmas.List.Sorted.{IsPermutation-append_left, IsPermutation-append_right}
use Rattle.std.proofs.lemmas.List.Sorted.{IsPermutation-append_comm, IsPermutation-map}
use Rattle.sqlite_value.specs.Order.{Row}
use Rattle.sqlite_value.specs.Order.{column}
use Rattle.sqlite_trees.proofs.ListLemmas.{map-map}
use Rattle.sqlite.specs.Effect.{Database}
use Rattle.sqlite.proofs.Callers.{one_permutation}
use Rattle.rr_store.specs.Contents.{IsTidy, columns, contents, meta_row, meta_rows, meta_values}
use Rattle.rr_store.specs.Entries.{StoredEntry, object_row, named_rows, AreRowsOf, IsAdded}
use Rattle.rr_store.specs.Maps.{IsFilled, current_version}
use Rattle.rr_store.proofs.OtherLemmas.{others_itself, others_then}

pub flat_map-append : {A B : Type 0} (f : A → List B) (xs ys : List A) → flat_map f (xs ++ ys)
    ≡ flat_map f xs ++ flat_map f ys
flat_map-append f [] ys = refl
flat_map-append f (x ∷ xs) ys = ap (λ l. f x ++ l) (flat_map-append f xs ys)
    ∙ sym (append_assoc (f x) (flat_map f xs) (flat_map f ys))

pub none_added : (db : Database) → IsTidy db → IsAdded [] db db
none_added db tidy = record {
  tidy = tidy;
  objects = IsPermutation-refl _;
  named =
      IsPermutation-refl _;
  meta = refl;
  others = others_itself db;
}

-- what comes first and what comes after, in either order
both_come : (xs ys a b c : List Row) → IsPermutation (xs ++ a) b → IsPermutation (ys ++ b) c →
    IsPermutation ((xs ++ ys) ++ a) c
both_come xs ys a b c first second =
    IsPermutation-trans _ _ _ (IsPermutation-append_left a _ _ (IsPermutation-append_comm xs ys))
    (IsPermutation-trans _ _ _ (subst (λ l. IsPermutation l (ys ++ b)) (sym (append_assoc ys xs a))
    (IsPermutation-append_right ys _ _ first)) second)

pub added_then : (es fs : List StoredEntry) (a b c : Database) → IsAdded es a b → IsAdded fs b c →
    IsAdded (es ++ fs) a c
added_then es fs a b c first second = record {
  tidy = second.tidy;
  objects = subst (λ l. IsPermutation (l ++ contents (a.trees 2)) (contents (c.trees 2)))
      (sym (map-append object_row es fs)) (both_come _ _ _ _ _ first.objects second.objects);
  named = subst (λ l. IsPermutation (l ++ contents (a.trees 4)) (contents (c.trees 4)))
      (sym (flat_map-append named_rows es fs)) (both_come _ _ _ _ _ first.named second.named);
  meta = second.meta ∙ first.meta;
  others = others_then a b c first.others second.others;
}

pub append_none : {X : Type 0} (xs : List X) → xs ++ [] ≡ xs
append_none [] = refl
append_none (x ∷ xs) = ap (λ l. x ∷ l) (append_none xs)

-- what is added to tables without a row is what they hold
pub rows_added : (entries : List StoredEntry) (old new : Database) → old.trees 2 ≡ [] → old.trees 4
    ≡ [] → IsAdded entries old new → AreRowsOf entries new
rows_added entries old new objects named added = record {
  tidy = added.tidy;
  objects = subst (λ l. IsPermutation l (contents (new.trees 2)))
      (ap (λ rows. map object_row entries ++ contents rows) objects ∙ append_none _) added.objects;
  named = subst (λ l. IsPermutation l (contents (new.trees 4)))
      (ap (λ rows. flat_map named_rows entries ++ contents rows) named ∙ append_none _) added.named;
}

-- the maintainers may be named in any order
pub added_renamed : (entry : StoredEntry) (names : List (List ℕ)) (old new : Database) →
    IsPermutation entry.names names → IsAdded (record entry { names = names } ∷ []) old new →
    IsAdded (entry ∷ []) old new
added_renamed entry names old new same added = record {
  tidy = added.tidy;
  objects = added.objects;
  named = IsPermutation-trans _ _ _ (IsPermutation-append_left (contents (old.trees 4)) _ _
      (IsPermutation-append_left [] _ _ (IsPermutation-map _ _ _ same))) added.named;
  meta = added.meta;
  others = added.others;
}

-- a row of `meta` that is added where there is none is the one that is read
pub first_meta_row : (name value : List ℕ) (old new : Database) → old.trees 0 ≡ [] →
    IsPermutation (meta_values name value ∷ contents (old.trees 0)) (contents (new.trees 0)) →
    meta_rows (new.trees 0) ≡ meta_row name value ∷ []
first_meta_row name value old new none same =
    let one : contents (new.trees 0) ≡ meta_values name value ∷ [] =
    one_permutation (meta_values name value) _
    (subst (λ rows. IsPermutation (meta_values name value ∷ contents rows)
    (contents (new.trees 0))) none same) in
    sym (map-map (λ r. column r 0 ∷ column r 1 ∷ []) columns (new.trees 0))
    ∙ ap (map (λ r. column r 0 ∷ column r 1 ∷ [])) one

-- tables without a row, to which the version is added and then these, hold these and are of version
-- 2
pub filled_by : (entries : List StoredEntry) (old mid new : Database) → old.trees 0 ≡ [] →
    old.trees 2
    ≡ [] → old.trees 4 ≡ [] → mid.trees 2 ≡ old.trees 2 → mid.trees 4 ≡ old.trees 4
    → IsPermutation (meta_values (codes "version") current_version ∷ contents (old.trees 0))
    (contents (mid.trees 0)) → IsAdded entries mid new → IsFilled entries new
filled_by entries old mid new meta objects named same_objects same_named version added = record {
  rows = rows_added entries mid new (same_objects ∙ objects) (same_named ∙ named) added;
  version = ap meta_rows added.meta ∙ first_meta_row (codes "version") current_version old mid meta
      version;
}
