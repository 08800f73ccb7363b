-- Lists of objects and the finite maps that they are.
use Rattle.std.proofs.Common.{◌≡◌, ◌≢◌, ◌⊎◌, inl, inr, ℕ, true, false, cond, T, List, [], ◌∷◌, ◌++◌}
use Rattle.std.proofs.Common.{map, length, Some, None, Ok, arith, refl, sym, ap, subst, ◌∙◌, Less}
use Rattle.std.proofs.Common.{Equal, IsPermutation}
use Rattle.std.specs.List.{AllByRecursion}
use Rattle.std.specs.Cmp.{tied_itself}
use Rattle.std.specs.Ordering.{eq_by_cmp, is_lt}
use Rattle.std.specs.FinMap.{FinMap, empty, entries, entries_sorted, get, insert, is_sorted}
use Rattle.std.specs.FinMap.{same_entries_map, values, get-empty, get-insert, len-empty}
use Rattle.std.specs.FinMap.{len-entries}
use Rattle.std.specs.FinMap.Entries.{below_all}
use Rattle.std.proofs.lemmas.List.Sorted.{IsPermutation-append_left, IsPermutation-map}
use Rattle.std.proofs.lemmas.List.Sorted.{IsPermutation-middle, IsPermutation-refl}
use Rattle.std.proofs.lemmas.List.Sorted.{IsPermutation-sym, IsPermutation-trans}
use Rattle.sqlite_value.specs.Order.{Row}
use Rattle.sqlite_trees.specs.Tree.{IsAscending}
use Rattle.sqlite_trees.proofs.ListLemmas.{all-permutation, all_of, all_weaker, ascending_weaker}
use Rattle.sqlite_trees.proofs.ListLemmas.{map-map, pull_back}
use Rattle.sqlite.specs.Effect.{Database}
use Rattle.rr_text.specs.CanonicalText.{canonical}
use Rattle.rr_text.proofs.RoundTrip.{canonical_determines}
use Rattle.rr_object.specs.declared.key.Key.{Key}
use Rattle.rr_object.specs.KeyOrders.{IsKeyValue, key_cmp}
use Rattle.rr_object.specs.Objects.{Obj}
use Rattle.rr_object.specs.Readings.{obj_of}
use Rattle.rr_object.proofs.KeyBounds.{obj_key_formed}
use Rattle.rr_object.proofs.KeyLaws.{keys_exact, keys_total, same_key}
use Rattle.rr_object.proofs.Parsed.{of_any_source}
use Rattle.rr_store.specs.Contents.{contents}
use Rattle.rr_store.specs.Entries.{AreRowsOf, entry_of, object_row}
use Rattle.rr_store.specs.Maps.{AreApart, AreInOrder, AreStored, HasRows, HasVersion, IsKeyed}
use Rattle.rr_store.specs.Maps.{IsObject, IsObjectOf, current_version}
use Rattle.rr_store.proofs.MapEntries.{first_part, is_less, second_part, values_with_new}
use Rattle.rr_store.proofs.MapRows.{each_value, keys_told, put_keyed, rows_permuted}

-- a finite map with the objects of a list put in, in turn
abbrev pub put_all : FinMap key_cmp Obj → List Obj → FinMap key_cmp Obj
put_all objects [] = objects
put_all objects (o ∷ os) = put_all (insert objects o.key o) os

nothing : {A : Type 0} (x : A) → None ≡ Some x → ⊥
nothing x e = cc

pub formed_key : (o : Obj) → IsObject o → IsKeyValue o.key
formed_key o is = obj_key_formed o.paragraph o is.read

pub of_any : (source : List ℕ) (o : Obj) → IsObjectOf source o → IsObject o
of_any source o is = record {
  fields = is.fields;
  read = of_any_source o.paragraph source o is.read;
}

empty_keyed : IsKeyed empty
empty_keyed =
    let never : (k : Key) (o : Obj) → get empty k ≡ Some o → ⊥ = λ k o is.
    nothing o (sym (get-empty key_cmp k) ∙ is) in
    record {
      keyed = λ k o is. absurd (never k o is);
      formed = λ k o is. absurd (never k o is);
      read = λ k o is. absurd (never k o is);
    }

put_all_keyed : (objects : FinMap key_cmp Obj) (os : List Obj) → AllByRecursion IsObject os →
    IsKeyed objects → IsKeyed (put_all objects os)
put_all_keyed objects [] all keyed = keyed
put_all_keyed objects (o ∷ os) all keyed = put_all_keyed (insert objects o.key o) os all.1
    (put_keyed objects o (formed_key o all.0) all.0 keyed)

-- no object of the list stands under a key of the map
abbrev pub AreNew : FinMap key_cmp Obj → List Obj → Type 0
AreNew objects = AllByRecursion (λ o. get objects o.key ≡ None)

still_new : (objects : FinMap key_cmp Obj) (new o : Obj) → new.key ≢ o.key → get objects o.key
    ≡ None → get (insert objects new.key new) o.key ≡ None
still_new objects new o apart none =
    get-insert keys_total objects new.key new o.key
    ∙ (elim (eq_by_cmp key_cmp o.key new.key) as (λ b. eq_by_cmp key_cmp o.key new.key ≡ b →
    cond b (Some new) (get objects o.key) ≡ None)
    [ true ↦ λ t. absurd (apart (sym (same_key o.key new.key t))) | false ↦ λ t. none ] refl)

all_still_new : (objects : FinMap key_cmp Obj) (new : Obj) (os : List Obj) →
    AllByRecursion (λ o. new.key ≢ o.key) os → AreNew objects os →
    AreNew (insert objects new.key new) os
all_still_new objects new [] apart none = tt
all_still_new objects new (o ∷ os) apart none = (
  still_new objects new o apart.0 none.0,
  all_still_new objects new os apart.1 none.1,
)

pub values_put_all : (objects : FinMap key_cmp Obj) (os : List Obj) → AreApart os →
    AreNew objects os → IsPermutation (values objects ++ os) (values (put_all objects os))
values_put_all objects [] apart none = subst (IsPermutation (values objects ++ []))
    (append_nothing (values objects)) (IsPermutation-refl _)
  where
    append_nothing : (xs : List Obj) → xs ++ [] ≡ xs
    append_nothing [] = refl
    append_nothing (x ∷ xs) = ap (λ l. x ∷ l) (append_nothing xs)
values_put_all objects (o ∷ os) apart none =
    IsPermutation-trans _ _ _ (IsPermutation-middle (values objects) o os)
    (IsPermutation-trans _ _ _
    (IsPermutation-append_left os _ _ (values_with_new keys_total keys_exact objects o.key o
    none.0))
    (values_put_all (insert objects o.key o) os apart.1
    (all_still_new objects o os apart.0 none.1)))

all_new : (os : List Obj) → AreNew empty os
all_new os = all_of (λ o. get empty o.key ≡ None) (λ o. get-empty key_cmp o.key) os

no_entry : (es : List (Key × Obj)) → length es ≡ 0 → es ≡ []
no_entry [] none = refl
no_entry (e ∷ es) none = absurd (omega arith)

no_values : values (empty {X = Obj} {R = key_cmp}) ≡ []
no_values =
    ap (map (λ e. e.1))
    (no_entry (entries empty) (sym (len-entries (empty {X = Obj} {R = key_cmp})) ∙ len-empty
    key_cmp Obj))

list_permuted : (os : List Obj) → AreApart os → IsPermutation os (values (put_all empty os))
list_permuted os apart = subst (λ xs. IsPermutation (xs ++ os) (values (put_all empty os)))
    no_values (values_put_all empty os apart (all_new os))

-- the rows of a list of objects, of which no two have the same key, are those of the map of the
-- list
pub listed_rows : (os : List Obj) (db : Database) → AllByRecursion IsObject os → AreApart os →
    AreRowsOf (map entry_of os) db → HasVersion current_version db → HasRows (put_all empty os) db
listed_rows os db all apart rows version = record {
  keyed = put_all_keyed empty os all empty_keyed;
  rows = rows_permuted _ _ db (IsPermutation-map entry_of os _ (list_permuted os apart)) rows;
  version = version;
}

pub stored_rows : (source : List ℕ) (os : List Obj) (db : Database) → AreStored source os db →
    HasRows (put_all empty os) db
stored_rows source os db stored =
    listed_rows os db (all_weaker _ _ (of_any source) os stored.of_source) stored.apart stored.rows
    stored.version

-- ---- the rows tell the objects

-- x is an element of the list
abbrev pub IsIn : {X : Type 0} → X → List X → Type 0
IsIn x [] = ⊥
IsIn x (y ∷ ys) = (x ≡ y) ⊎ IsIn x ys

module _ {X : Type 0} where
  is_in_longer : (y : X) (xs ys : List X) → AllByRecursion (λ x. IsIn x ys) xs →
      AllByRecursion (λ x. IsIn x (y ∷ ys)) xs
  is_in_longer y [] ys all = tt
  is_in_longer y (x ∷ xs) ys all = (inr all.0, is_in_longer y xs ys all.1)

  pub in_itself : (xs : List X) → AllByRecursion (λ x. IsIn x xs) xs
  in_itself [] = tt
  in_itself (x ∷ xs) = (inl refl, is_in_longer x xs xs (in_itself xs))

  in_permuted : (xs ys : List X) → IsPermutation xs ys → AllByRecursion (λ x. IsIn x xs) ys
  in_permuted xs ys same = all-permutation (λ x. IsIn x xs) xs ys same (in_itself xs)

  pub of_each : (P : X → Type 0) (x : X) (xs : List X) → AllByRecursion P xs → IsIn x xs → P x
  of_each P x [] all is = absurd is
  of_each P x (y ∷ ys) all (inl same) = subst P (sym same) all.0
  of_each P x (y ∷ ys) all (inr is) = of_each P x ys all.1 is

  module _ (R : X → X → Type 0) (one_way : (x y : X) → R x y → R y x → ⊥) where
    later : (y : X) (xs ys : List X) → AllByRecursion (R y) xs →
        AllByRecursion (λ x. IsIn x (y ∷ ys)) xs → AllByRecursion (λ x. IsIn x ys) xs
    later y [] ys above all = tt
    later y (x ∷ xs) ys above all = (go all.0, later y xs ys above.1 all.1)
      where
        go : (x ≡ y) ⊎ IsIn x ys → IsIn x ys
        go (inl same) =
            absurd
            (one_way y x above.0 (subst (λ z. R z y) (sym same) (subst (λ z. R y z) same above.0)))
        go (inr is) = is

    -- two lists in order with the same elements are equal
    pub same_in_order : (xs ys : List X) → IsAscending R xs → IsAscending R ys →
        AllByRecursion (λ x. IsIn x ys) xs → AllByRecursion (λ y. IsIn y xs) ys → xs ≡ ys
    same_in_order [] [] up down all back = refl
    same_in_order [] (y ∷ ys) up down all back = absurd back.0
    same_in_order (x ∷ xs) [] up down all back = absurd all.0
    same_in_order (x ∷ xs) (y ∷ ys) up down all back =
        let head : x ≡ y = first all.0 back.0 in
        let rest = same_in_order xs ys up.1 down.1
        (later y xs ys (subst (λ z. AllByRecursion (R z) xs) head up.0) all.1)
        (later x ys xs (subst (λ z. AllByRecursion (R z) ys) (sym head) down.0) back.1) in
        λ i. head i ∷ rest i
      where
        first : (x ≡ y) ⊎ IsIn x ys → (y ≡ x) ⊎ IsIn y xs → x ≡ y
        first (inl same) other = same
        first (inr is) (inl same) = sym same
        first (inr is) (inr other) =
            absurd (one_way x y (of_each (R x) y xs up.0 other) (of_each (R y) x ys down.0 is))

pub in_order_apart : (os : List Obj) → AreInOrder os → AreApart os
in_order_apart os up = ascending_weaker (λ a b. key_cmp a.key b.key ≡ Less) (λ a b. a.key ≢ b.key)
    (λ a b less same.
    let tie : key_cmp a.key b.key ≡ Equal = ap (key_cmp a.key) (sym same) ∙ tied_itself keys_total
    a.key in
    cc) os up

one_way : (a b : Obj) → key_cmp a.key b.key ≡ Less → key_cmp b.key a.key ≡ Less → ⊥
one_way a b p q = let turned = keys_total.antisymm a.key b.key in cc

-- a row tells its object
same_row : (a b : Obj) → IsObject a → IsObject b → object_row (entry_of a) ≡ object_row
    (entry_of b) → a ≡ b
same_row a b is_a is_b same =
    let texts : canonical a.paragraph ≡ canonical b.paragraph = cc in
    let paragraphs = canonical_determines a.paragraph b.paragraph is_a.fields is_b.fields texts in
    let both : ◌≡◌ (Ok a) (Ok b) = sym is_a.read ∙ ap obj_of paragraphs ∙ is_b.read in
    cc

same_rows : (xs ys : List Obj) → AllByRecursion IsObject xs → AllByRecursion IsObject ys →
    map (λ o. object_row (entry_of o)) xs ≡ map (λ o. object_row (entry_of o)) ys → xs ≡ ys
same_rows [] [] all each same = refl
same_rows [] (y ∷ ys) all each same = absurd (cc)
same_rows (x ∷ xs) [] all each same = absurd (cc)
same_rows (x ∷ xs) (y ∷ ys) all each same =
    let head = same_row x y all.0 each.0 (cc) in
    let rest = same_rows xs ys all.1 each.1 (cc) in
    λ i. head i ∷ rest i

-- two lists of objects in order, whose rows are the same but for their order, are equal
pub same_objects : (xs ys : List Obj) → AllByRecursion IsObject xs → AllByRecursion IsObject ys →
    AreInOrder xs → AreInOrder ys
    → IsPermutation (map (λ o. object_row (entry_of o)) xs) (map (λ o. object_row (entry_of o)) ys)
    → xs ≡ ys
same_objects xs ys all each up down same =
    let f : Obj → Row = λ o. object_row (entry_of o) in
    let back = pull_back f (map f xs) (map f ys) same xs refl in
    let is = same_rows ys back.0 each (all-permutation IsObject xs back.0 back.1 all) back.2 in
    let permuted = subst (IsPermutation xs) (sym is) back.1 in
    same_in_order (λ a b. key_cmp a.key b.key ≡ Less) one_way xs ys up down
    (in_permuted ys xs (IsPermutation-sym _ _ permuted)) (in_permuted xs ys permuted)

-- the values of a map stand in order
above_all : (e : Key × Obj) (es : List (Key × Obj)) → e.1.key ≡ e.0 →
    AllByRecursion (λ (x : Key × Obj). x.1.key ≡ x.0) es → T (below_all key_cmp e.0 es) →
    AllByRecursion (λ o. key_cmp e.1.key o.key ≡ Less) (map (λ x. x.1) es)
above_all e [] here told h = tt
above_all e (x ∷ es) here told h = (
  (λ i. key_cmp (here i) (told.0 i)) ∙ is_less _ (first_part _ _ h),
  above_all e es here told.1
      (second_part (is_lt (key_cmp e.0 x.0)) _ h),
)

rising : (es : List (Key × Obj)) → AllByRecursion (λ (x : Key × Obj). x.1.key ≡ x.0) es →
    T (is_sorted key_cmp es) → AreInOrder (map (λ x. x.1) es)
rising [] told h = tt
rising (e ∷ es) told h = (
  above_all e es told.0 told.1 (first_part (below_all key_cmp e.0 es) _ h),
  rising es told.1 (second_part (below_all key_cmp e.0 es) _ h),
)

pub values_in_order : (objects : FinMap key_cmp Obj) → IsKeyed objects → AreInOrder (values objects)
values_in_order objects keyed = rising (entries objects) (keys_told objects keyed)
    (entries_sorted objects)

pub values_are_objects : (objects : FinMap key_cmp Obj) → IsKeyed objects → AllByRecursion IsObject
    (values objects)
values_are_objects objects keyed = each_value objects keyed IsObject keyed.read

-- objects in order that have the rows of a map are its values
pub values_told : (objects : FinMap key_cmp Obj) (os : List Obj) (db : Database) →
    HasRows objects db → AllByRecursion IsObject os → AreInOrder os → AreRowsOf (map entry_of os)
    db → os ≡ values objects
values_told objects os db has all up rows =
    let of_list = subst (λ xs. IsPermutation xs (contents (db.trees 2)))
    (map-map object_row entry_of os) rows.objects in
    let of_map = subst (λ xs. IsPermutation xs (contents (db.trees 2)))
    (map-map object_row entry_of (values objects)) has.rows.objects in
    same_objects os (values objects) all (values_are_objects objects has.keyed) up
    (values_in_order objects has.keyed)
    (IsPermutation-trans _ _ _ of_list (IsPermutation-sym _ _ of_map))

entries_of_values : (es : List (Key × Obj)) → AllByRecursion (λ (x : Key × Obj). x.1.key ≡ x.0) es
    → es ≡ map (λ (o : Obj). (o.key, o)) (map (λ x. x.1) es)
entries_of_values [] told = refl
entries_of_values (e ∷ es) told = let rest = entries_of_values es told.1 in λ i.
    (sym told.0 i, e.1) ∷ rest i

-- the tables hold at most one map
pub one_map : (a b : FinMap key_cmp Obj) (db : Database) → HasRows a db → HasRows b db → a ≡ b
one_map a b db of_a of_b =
    let same = values_told b (values a) db of_b (values_are_objects a of_a.keyed)
    (values_in_order a of_a.keyed) of_a.rows in
    same_entries_map a b (entries_of_values (entries a) (keys_told a of_a.keyed)
    ∙ ap (map (λ (o : Obj). (o.key, o))) same
    ∙ sym (entries_of_values (entries b) (keys_told b of_b.keyed)))

-- a list of the objects of a finite map, in any order, is that map
pub permuted_map : (objects : FinMap key_cmp Obj) (os : List Obj) → IsKeyed objects →
    AllByRecursion IsObject os → AreApart os → IsPermutation os (values objects) → put_all empty os
    ≡ objects
permuted_map objects os keyed all apart same =
    let made = put_all empty os in
    let made_keyed = put_all_keyed empty os all empty_keyed in
    let permuted = IsPermutation-trans _ _ _ (IsPermutation-sym _ _ (list_permuted os apart))
    same in
    let alike : values made ≡ values objects = same_in_order (λ a b. key_cmp a.key b.key ≡ Less)
    one_way (values made) (values objects) (values_in_order made made_keyed)
    (values_in_order objects keyed)
    (in_permuted (values objects) (values made) (IsPermutation-sym _ _ permuted))
    (in_permuted (values made) (values objects) permuted) in
    same_entries_map made objects (entries_of_values (entries made) (keys_told made made_keyed)
    ∙ ap (map (λ (o : Obj). (o.key, o))) alike
    ∙ sym (entries_of_values (entries objects) (keys_told objects keyed)))
