-- The rows of a finite map of objects, as one is put in and taken out.
use Rattle.std.proofs.Common.{◌≡◌, ℕ, Bool, true, false, cond, not, List, ◌∷◌, map, filter, Some}
use Rattle.std.proofs.Common.{None, Option, refl, sym, ap, subst, ◌∙◌, IsPermutation}
use Rattle.std.specs.List.{AllByRecursion}
use Rattle.std.specs.Ordering.{eq_by_cmp, is_eq}
use Rattle.std.specs.Cmp.{eq_by_cmp_equiv}
use Rattle.std.specs.FinMap.{FinMap, get, insert, remove, values, entries, entries_sorted}
use Rattle.std.specs.FinMap.{get-entries, get-insert, get-remove}
use Rattle.std.proofs.lemmas.List.Sorted.{IsPermutation-trans, IsPermutation-sym, IsPermutation-map}
use Rattle.sqlite_trees.proofs.ListLemmas.{IsPermutation-flat_map, filter-map, filter_same}
use Rattle.sqlite_trees.proofs.ListLemmas.{all_weaker, all-map}
use Rattle.sqlite.specs.Effect.{Database}
use Rattle.rr_object.specs.Classes.{class_number}
use Rattle.rr_object.specs.Keys.{class_of}
use Rattle.rr_object.specs.declared.key.Key.{Key}
use Rattle.rr_object.specs.KeyOrders.{HasKeyParts, IsKeyValue, key_cmp}
use Rattle.rr_object.specs.KeyTexts.{key_bytes}
use Rattle.rr_object.specs.Objects.{Obj}
use Rattle.rr_object.proofs.KeyBounds.{has_parts}
use Rattle.rr_object.proofs.KeyLaws.{keys_exact, keys_total, same_key}
use Rattle.rr_store.specs.Contents.{meta_rows}
use Rattle.rr_store.specs.Entries.{StoredEntry, AreRowsOf, IsPut, IsTakenOut, entry_of, object_row}
use Rattle.rr_store.specs.Entries.{named_rows}
use Rattle.rr_store.specs.Maps.{HasVersion, IsKeyed, IsObject, Puts, TakesOut}
use Rattle.rr_store.proofs.EntryLemmas.{is_at, put_rows, taken_rows, without_key}
use Rattle.rr_store.proofs.MapKeys.{at_ties, ordered_as_bytes}
use Rattle.rr_store.proofs.MapEntries.{each_entry, entries_without, values_with}

-- the rows of entries are those of the same entries in another order
pub rows_permuted : (es fs : List StoredEntry) (db : Database) → IsPermutation es fs →
    AreRowsOf es db →
    AreRowsOf fs db
rows_permuted es fs db same rows =
    let back = IsPermutation-sym _ _ same in
    record {
      tidy = rows.tidy;
      objects = IsPermutation-trans _ _ _ (IsPermutation-map object_row fs es back) rows.objects;
      named = IsPermutation-trans _ _ _ (IsPermutation-flat_map named_rows fs es back) rows.named;
    }

-- the objects of a list with another key
abbrev pub of_others : Key → List Obj → List Obj
of_others key = filter (λ o. not (eq_by_cmp key_cmp key o.key))

module _ (key : Key) (formed : HasKeyParts key) where
  pub same_at : (o : Obj) → IsKeyValue o.key → is_at (class_number (class_of key)) (key_bytes key)
      (entry_of o) ≡ eq_by_cmp key_cmp key o.key
  same_at o f =
      at_ties (class_number (class_of key)) (key_bytes key) (entry_of o)
      ∙ ap is_eq (sym (ordered_as_bytes o.key key (has_parts o.key f) formed))
      ∙ (eq_by_cmp_equiv keys_total).symm o.key key

  -- SQL takes out the entries of the key's object alone
  entries_of_others : (os : List Obj) → AllByRecursion (λ o. IsKeyValue o.key) os →
      without_key (class_number (class_of key)) (key_bytes key) (map entry_of os) ≡ map entry_of
      (of_others key os)
  entries_of_others os all =
      filter-map _ entry_of os
      ∙ ap (map entry_of) (filter_same _ _ os (all_weaker _ _ (λ o f. ap not (same_at o f)) os all))

module _ (objects : FinMap key_cmp Obj) (keyed : IsKeyed objects) where
  pub keys_told : AllByRecursion (λ (e : Key × Obj). e.1.key ≡ e.0) (entries objects)
  keys_told = each_entry keys_total (λ k o. o.key ≡ k) (entries objects) (entries_sorted objects)
      (λ k o found. keyed.keyed k o (get-entries objects k ∙ found))

  -- what holds of each object that is found holds of each value
  pub each_value : (P : Obj → Type 0) → ((k : Key) (o : Obj) → get objects k ≡ Some o → P o) →
      AllByRecursion P (values objects)
  each_value P found = all-map P (λ e. e.1) (entries objects)
      (each_entry keys_total (λ k o. P o) (entries objects) (entries_sorted objects)
      (λ k o is. found k o (get-entries objects k ∙ is)))

  pub keys_formed : AllByRecursion (λ o. IsKeyValue o.key) (values objects)
  keys_formed = each_value (λ o. IsKeyValue o.key)
      (λ k o found. subst IsKeyValue (sym (keyed.keyed k o found)) (keyed.formed k o found))

  pub values_without : (key : Key) → values (remove objects key) ≡ of_others key (values objects)
  values_without key =
      ap (map (λ e. e.1)) (entries_without keys_total keys_exact objects key
      ∙ filter_same _ _ (entries objects)
      (all_weaker _ _ (λ e same. ap (λ k. not (eq_by_cmp key_cmp key k)) (sym same))
      (entries objects) keys_told))
      ∙ sym (filter-map _ (λ e. e.1) (entries objects))

found_kept : (b : Bool) (found : Option Obj) (o : Obj) → cond b None found ≡ Some o → found ≡ Some o
found_kept true found o is = absurd (cc)
found_kept false found o is = is

kept_keyed : (objects : FinMap key_cmp Obj) (key : Key) → IsKeyed objects →
    IsKeyed (remove objects key)
kept_keyed objects key keyed =
    let back : (k : Key) (o : Obj) → get (remove objects key) k ≡ Some o → get objects k ≡ Some o =
    λ k o is. found_kept (eq_by_cmp key_cmp k key) _ o (sym (get-remove keys_total objects key k)
    ∙ is) in
    record {
      keyed = λ k o is. keyed.keyed k o (back k o is);
      formed = λ k o is. keyed.formed k o (back k o is);
      read = λ k o is. keyed.read k o (back k o is);
    }

-- what holds of an object and of those that stand holds of those that stand with it
after_insert : (P : Key → Obj → Type 0) (objects : FinMap key_cmp Obj) (new : Obj) →
    P new.key new → ((k : Key) (o : Obj) → get objects k ≡ Some o → P k o)
    → (k : Key) (o : Obj) → get (insert objects new.key new) k ≡ Some o → P k o
after_insert P objects new fits old k o is =
    elim (eq_by_cmp key_cmp k new.key) as (λ b. eq_by_cmp key_cmp k new.key ≡ b →
    cond b (Some new) (get objects k) ≡ Some o → P k o) [
      | true ↦ λ t same.
          let here : new.key ≡ k = sym (same_key k new.key t) in
          let this : new ≡ o = cc in
          subst (λ l. P l o) here (subst (P new.key) this fits)
      | false ↦ λ t found. old k o found
    ] refl (sym (get-insert keys_total objects new.key new k) ∙ is)

pub put_keyed : (objects : FinMap key_cmp Obj) (new : Obj) → IsKeyValue new.key → IsObject new →
    IsKeyed objects → IsKeyed (insert objects new.key new)
put_keyed objects new formed read keyed = record {
  keyed = after_insert (λ k o. o.key ≡ k) objects new refl keyed.keyed;
  formed = after_insert (λ k o. IsKeyValue k) objects new formed keyed.formed;
  read = after_insert (λ k o. IsObject o) objects new read keyed.read;
}

same_version : (version : List ℕ) (old new : Database) → new.trees 0 ≡ old.trees 0 →
    HasVersion version old → HasVersion version new
same_version version old new same is = ap meta_rows same ∙ is

-- the rows without those of a key are the rows of the map without it
pub takes : (key : Key) → HasKeyParts key → (old new : Database) →
    IsTakenOut (class_number (class_of key)) (key_bytes key) old new → TakesOut key old new
takes key formed old new taken objects has = record {
  keyed = kept_keyed objects key has.keyed;
  rows = subst (λ es. AreRowsOf es new) (entries_of_others key formed (values objects)
      (keys_formed objects has.keyed) ∙ ap (map entry_of)
      (sym (values_without objects has.keyed key)))
      (taken_rows _ _ (map entry_of (values objects)) old new has.rows taken);
  version = same_version _ old new taken.meta has.version;
}

-- the rows with those of an object in place of its key's are the rows of the map with it
pub puts : (object : Obj) → IsKeyValue object.key → IsObject object → (old new : Database) →
    IsPut (entry_of object) old new → Puts object.key object old new
puts object formed read old new put objects has =
    let others = subst (λ es. AreRowsOf (entry_of object ∷ es) new)
    (entries_of_others object.key (has_parts object.key formed) (values objects)
    (keys_formed objects has.keyed) ∙ ap (map entry_of)
    (sym (values_without objects has.keyed object.key)))
    (put_rows (entry_of object) (map entry_of (values objects)) old new has.rows put) in
    record {
      keyed = put_keyed objects object formed read has.keyed;
      rows = rows_permuted _ _ new
          (IsPermutation-map entry_of _ _ (values_with keys_total keys_exact objects object.key
          object)) others;
      version = same_version _ old new put.meta has.version;
    }
