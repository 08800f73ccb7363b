-- Tables that hold the rows of some objects, as one is put in and taken out, and as its names are
-- taken out one by one.
use Rattle.std.proofs.Common.{◌≡◌, inl, inr, ℕ, Bool, true, false, cond, not, ◌&&◌, ◌||◌, List, []}
use Rattle.std.proofs.Common.{◌∷◌, map, filter, refl, sym, ap, subst, ◌∙◌, IsPermutation}
use Rattle.std.specs.List.{AllByRecursion, list_any}
use Rattle.std.specs.Ordering.{is_eq}
use Rattle.std.specs.Cmp.{tied_itself}
use Rattle.std.specs.Cmp.Lexicographic.{nat_list_cmp_total}
use Rattle.std.proofs.lemmas.List.Sorted.{IsPermutation-sym, IsPermutation-trans}
use Rattle.sqlite_value.specs.declared.value.Value.TheVariants.{Text}
use Rattle.sqlite_value.specs.Order.{Row}
use Rattle.sqlite_trees.proofs.ListLemmas.{IsPermutation-filter, all-filter, all-flat_map, all-map}
use Rattle.sqlite_trees.proofs.ListLemmas.{all-permutation, all_both, all_from_map, all_weaker}
use Rattle.sqlite_trees.proofs.ListLemmas.{filter-map, filter_same}
use Rattle.sqlite.specs.Effect.{Database}
use Rattle.rr_object.specs.Objects.{Obj}
use Rattle.rr_store.specs.Contents.{contents, is_name_among, is_named_of, is_object_of}
use Rattle.rr_store.specs.Contents.{named_values}
use Rattle.rr_store.specs.Entries.{AreRowsOf, StoredEntry, IsPut, IsTakenOut, entry_of, named_rows}
use Rattle.rr_store.specs.Entries.{object_row}
use Rattle.rr_store.specs.Maps.{AreNamesOf, AreOfObjects, AreStored, IsFilled, IsObject, IsObjectOf}
use Rattle.rr_store.proofs.EntryLemmas.{is_at, put_rows, taken_rows}
use Rattle.rr_store.proofs.MapKeys.{is_same, texts_tie}
use Rattle.rr_store.proofs.MapLists.{IsIn, in_itself, of_any}

same_itself : (name : List ℕ) → is_same (Text name) (Text name) ≡ true
same_itself name = texts_tie name name ∙ ap is_eq (tied_itself nat_list_cmp_total name)

one_of : (b : Bool) → (b || true) ≡ true
one_of true = refl
one_of false = refl

neither : (a b : Bool) → ((a && false) || b) ≡ b
neither true b = refl
neither false b = refl

found : (name : List ℕ) (names : List (List ℕ)) → IsIn name names →
    list_any (λ n. is_same (Text name) (Text n) && true) names ≡ true
found name [] is = absurd is
found name (n ∷ ns) (inl same) =
    ap (λ b. (b && true) || list_any (λ m. is_same (Text name) (Text m) && true) ns)
    (ap (λ m. is_same (Text name) (Text m)) (sym same) ∙ same_itself name)
found name (n ∷ ns) (inr is) = ap (λ b. (is_same (Text name) (Text n) && true) || b)
    (found name ns is) ∙ one_of _

none : (name : List ℕ) (names : List (List ℕ)) →
    list_any (λ n. is_same (Text name) (Text n) && false) names ≡ false
none name [] = refl
none name (n ∷ ns) = neither (is_same (Text name) (Text n)) _ ∙ none name ns

-- what holds of those that pass a test holds of each that passes it
of_passing : {A : Type 0} (P : A → Type 0) (p : A → Bool) (xs : List A) →
    AllByRecursion P (filter p xs) → AllByRecursion (λ x. p x ≡ true → P x) xs
of_passing P p [] all = tt
of_passing {A} P p (x ∷ xs) all = go (p x) refl (of_passing P p xs) all
  where
    go : (b : Bool) → p x ≡ b →
        (AllByRecursion P (filter p xs) → AllByRecursion (λ y. p y ≡ true → P y) xs) →
        AllByRecursion P (cond b (x ∷ filter p xs) (filter p xs)) →
        AllByRecursion (λ y. p y ≡ true → P y) (x ∷ xs)
    go true is rest h = (λ passes. h.0, rest h.1)
    go false is rest h = (λ passes. absurd (cc), rest h)

module _ (class : ℕ) (key : List ℕ) (names : List (List ℕ)) where
  -- the rows that name one of these are those of the key, where they are the names of its entry
  names_tell : (e : StoredEntry) (name : List ℕ) → IsIn name e.names →
      (is_at class key e ≡ true → names ≡ e.names)
      → is_name_among class key names (named_values name e.class e.key) ≡ is_named_of class key
      (named_values name e.class e.key)
  names_tell e name is told = go (is_at class key e) refl
    where
      go : (b : Bool) → is_at class key e ≡ b →
          list_any (λ n. is_same (Text name) (Text n) && is_at class key e) names ≡ is_at class key
          e
      go true here = (λ i. list_any (λ n. is_same (Text name) (Text n) && here i) names)
          ∙ found name names (subst (IsIn name) (sym (told here)) is) ∙ sym here
      go false away = (λ i. list_any (λ n. is_same (Text name) (Text n) && away i) names)
          ∙ none name names ∙ sym away

  abbrev Tells : Row → Type 0
  Tells row = is_name_among class key names row ≡ is_named_of class key row

  entry_tells : (e : StoredEntry) → (is_at class key e ≡ true → names ≡ e.names) →
      AllByRecursion Tells
      (named_rows e)
  entry_tells e told = all-map Tells (λ name. named_values name e.class e.key) e.names
      (all_weaker _ _ (λ name is. names_tell e name is told) e.names (in_itself e.names))

  -- the names of the objects that rows of a key are, taken out with the key, are all names with it
  pub names_gone : (db : Database) (rows : List Row) → AreOfObjects db →
      IsPermutation (filter (is_object_of class key) (contents (db.trees 2))) rows →
      AllByRecursion (AreNamesOf names) rows
      → filter (λ row. not (is_name_among class key names row)) (contents (db.trees 4))
      ≡ filter (λ row. not (is_named_of class key row)) (contents (db.trees 4))
  names_gone db rows held same all =
      let os = held.objects in
      let there = IsPermutation-sym _ _
      (IsPermutation-trans _ _ _ (IsPermutation-filter (is_object_of class key) _ _
      held.rows.objects) same) in
      let passing = of_passing (AreNamesOf names) (is_object_of class key)
      (map object_row (map entry_of os)) (all-permutation (AreNamesOf names) rows _ there
      all) in
      let each : AllByRecursion (λ o. is_at class key (entry_of o) ≡ true →
      names ≡ (entry_of o).names) os =
      all_both IsObject (λ o. is_at class key (entry_of o) ≡ true →
      AreNamesOf names (object_row (entry_of o))) _ (λ o is told here. told here o is refl) os
      held.read
      (all_from_map _ entry_of os (all_from_map _ object_row (map entry_of os) passing)) in
      let tell = all-flat_map Tells named_rows (map entry_of os)
      (all-map _ entry_of os (all_weaker _ _ (λ o told. entry_tells (entry_of o) told) os
      each)) in
      filter_same _ _ (contents (db.trees 4)) (all_weaker _ _ (λ row tells. ap not tells)
      (contents (db.trees 4)) (all-permutation Tells _ _ held.rows.named tell))

pub put_held : (object : Obj) → IsObject object → (old new : Database) → AreOfObjects old →
    IsPut (entry_of object) old new → AreOfObjects new
put_held object is old new held put =
    let e = entry_of object in
    let others : Obj → Bool = λ o. not (is_at e.class e.key (entry_of o)) in
    record {
      objects = object ∷ filter others held.objects;
      read = (is, all-filter IsObject others held.objects held.read);
      rows = subst (λ es. AreRowsOf (e ∷ es) new) (filter-map _ entry_of held.objects)
          (put_rows e (map entry_of held.objects) old new held.rows put);
    }

pub taken_held : (class : ℕ) (key : List ℕ) (old new : Database) → AreOfObjects old →
    IsTakenOut class key old new → AreOfObjects new
taken_held class key old new held taken =
    let others : Obj → Bool = λ o. not (is_at class key (entry_of o)) in
    record {
      objects = filter others held.objects;
      read = all-filter IsObject others held.objects held.read;
      rows = subst (λ es. AreRowsOf es new) (filter-map _ entry_of held.objects)
          (taken_rows class key (map entry_of held.objects) old new held.rows taken);
    }

pub filled_held : (objects : List Obj) (db : Database) → AllByRecursion IsObject objects →
    IsFilled (map entry_of objects) db → AreOfObjects db
filled_held objects db read filled = record { objects = objects; read = read; rows = filled.rows }

pub stored_held : (source : List ℕ) (objects : List Obj) (db : Database) → AreStored source objects
    db → AreOfObjects db
stored_held source objects db stored =
    record {
      objects = objects;
      read = all_weaker (IsObjectOf source) IsObject (of_any source)
          objects stored.of_source;
      rows = stored.rows;
    }
