-- Lists of objects that have the same rows, with keys in any form.
use Rattle.std.proofs.Common.{◌≡◌, ℕ, List, [], ◌∷◌, map, Ok, refl, sym, ap, subst, ◌∙◌}
use Rattle.std.proofs.Common.{IsPermutation}
use Rattle.std.specs.List.{AllByRecursion}
use Rattle.std.proofs.lemmas.List.Sorted.{IsPermutation-sym, IsPermutation-trans}
use Rattle.sqlite_value.specs.Order.{Row}
use Rattle.sqlite_trees.proofs.ListLemmas.{all-permutation, all_weaker, map-map, pull_back}
use Rattle.sqlite.specs.Effect.{Database}
use Rattle.rr_text.specs.CanonicalText.{canonical}
use Rattle.rr_text.proofs.RoundTrip.{canonical_determines}
use Rattle.rr_object.specs.Objects.{Obj}
use Rattle.rr_object.specs.Readings.{obj_of}
use Rattle.rr_store.specs.Contents.{contents}
use Rattle.rr_store.specs.Entries.{object_row}
use Rattle.rr_store.specs.Maps.{AreStoredIn, IsObject, IsObjectOf, KeyForm, entry_in}
use Rattle.rr_store.proofs.MapLists.{of_any}

module _ (form : KeyForm) where
  abbrev row_in : Obj → Row
  row_in object = object_row (entry_in form object)

  same_object : (a b : Obj) → IsObject a → IsObject b → row_in a ≡ row_in b → a ≡ b
  same_object a b is_a is_b same =
      let texts : canonical a.paragraph ≡ canonical b.paragraph = cc in
      let paragraphs = canonical_determines a.paragraph b.paragraph is_a.fields is_b.fields texts in
      let both : ◌≡◌ (Ok a) (Ok b) = sym is_a.read ∙ ap obj_of paragraphs ∙ is_b.read in
      cc

  same_list : (xs ys : List Obj) → AllByRecursion IsObject xs → AllByRecursion IsObject ys →
      map row_in xs ≡ map row_in ys → xs ≡ ys
  same_list [] [] all each same = refl
  same_list [] (y ∷ ys) all each same = absurd (cc)
  same_list (x ∷ xs) [] all each same = absurd (cc)
  same_list (x ∷ xs) (y ∷ ys) all each same =
      let head = same_object x y all.0 each.0 (cc) in
      let rest = same_list xs ys all.1 each.1 (cc) in
      λ i. head i ∷ rest i

  same_rows : (xs ys : List Obj) → AllByRecursion IsObject xs → AllByRecursion IsObject ys →
      IsPermutation (map row_in xs) (map row_in ys) → IsPermutation xs ys
  same_rows xs ys all each same =
      let back = pull_back row_in (map row_in xs) (map row_in ys) same xs refl in
      let is = same_list ys back.0 each (all-permutation IsObject xs back.0 back.1 all) back.2 in
      subst (IsPermutation xs) (sym is) back.1

-- lists of objects of two sources, or of one, that the same tables hold differ in their order alone
pub stored_alike : (form : KeyForm) (number source other : List ℕ) (xs ys : List Obj)
    (db : Database) → AreStoredIn form number source xs db → AreStoredIn form number other ys db →
    IsPermutation xs ys
stored_alike form number source other xs ys db first second =
    let of_first = subst (λ l. IsPermutation l (contents (db.trees 2)))
    (map-map object_row (entry_in form) xs) first.rows.objects in
    let of_second = subst (λ l. IsPermutation l (contents (db.trees 2)))
    (map-map object_row (entry_in form) ys) second.rows.objects in
    same_rows form xs ys (all_weaker (IsObjectOf source) IsObject (of_any source) xs
    first.of_source) (all_weaker (IsObjectOf other) IsObject (of_any other) ys second.of_source)
    (IsPermutation-trans _ _ _ of_first (IsPermutation-sym _ _ of_second))
