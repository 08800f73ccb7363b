-- What statements in a row do.
use Rattle.std.proofs.Common.{◌≡◌, ◌≢◌, ℕ, not, List, [], ◌∷◌, ◌++◌, map, filter, Ok, Err, Result}
use Rattle.std.proofs.Common.{OnOk, sym, ap, subst, subst₂, ◌∙◌, arith, IsPermutation}
use Rattle.std.specs.List.{AllByRecursion}
use Rattle.sqlite.specs.Effect.{Database}
use Rattle.rr_store.specs.Contents.{Alters, Adds, KeepsOthers, RemovesRows, contents, is_name_among}
use Rattle.rr_store.specs.Contents.{is_object_of, is_named_of, object_values, named_values}
use Rattle.sqlite_value.specs.Order.{Row}
use Rattle.std.specs.Prelude.{codes}
use Rattle.rr_store.specs.Contents.{meta_values}
use Rattle.rr_store.specs.Entries.{StoredEntry, IsAdded, IsPut, IsTakenOut, named_rows, object_row}
use Rattle.rr_store.specs.Made.{IsBare}
use Rattle.rr_store.specs.Maps.{AreNamesOf, AreOfObjects, IsFilled, current_version}
use Rattle.rr_store.proofs.AddedLemmas.{append_none, filled_by}
use Rattle.rr_store.proofs.ObjectRows.{names_gone}
use Rattle.rr_store.proofs.OtherLemmas.{others_then}

pub then_ok : {X E P Q : Type 0} (r : Result X E) → OnOk r P → (P → Q) → OnOk r Q
then_ok (Ok x) p f = f p
then_ok (Err e) p f = tt

pub both_ok : {X E P Q R : Type 0} (r : Result X E) → OnOk r P → OnOk r Q → (P → Q → R) → OnOk r R
both_ok (Ok x) p q f = f p q
both_ok (Err e) p q f = tt

pub two_four : ◌≢◌ {A = ℕ} 2 4
two_four h = omega arith

four_two : ◌≢◌ {A = ℕ} 4 2
four_two h = omega arith

pub none_two : ◌≢◌ {A = ℕ} 0 2
none_two h = omega arith

pub none_four : ◌≢◌ {A = ℕ} 0 4
none_four h = omega arith

two_none : ◌≢◌ {A = ℕ} 2 0
two_none h = omega arith

four_none : ◌≢◌ {A = ℕ} 4 0
four_none h = omega arith

-- the old rows of the object go, and the new ones come
pub put_by : (entry : StoredEntry) (a b c : Database) → IsTakenOut entry.class entry.key a b →
    IsAdded (entry ∷ []) b c → IsPut entry a c
put_by entry a b c taken added = record {
  tidy = added.tidy;
  objects = subst (λ xs. IsPermutation (object_row entry ∷ xs) (contents (c.trees 2)))
      taken.objects added.objects;
  named = subst₂ (λ xs ys. IsPermutation (xs ++ ys) (contents (c.trees 4)))
      (append_none (named_rows entry)) taken.named added.named;
  meta = added.meta ∙ taken.meta;
  others = others_then a b c taken.others added.others;
}

-- the names of the object of a key go one by one, and with them all names with the key
pub forgotten : (class : ℕ) (key : List ℕ) (names : List (List ℕ)) (rows : List Row)
    (old mid new : Database) → AreOfObjects old → mid ≡ old →
    IsPermutation (filter (is_object_of class key) (contents (old.trees 2))) rows
    → AllByRecursion (AreNamesOf names) rows →
    Alters mid new 4 (RemovesRows (is_name_among class key names)) →
    Alters old new 4 (RemovesRows (is_named_of class key))
forgotten class key names rows old mid new held same found all alters =
    let gone = subst (λ db. Alters db new 4 (RemovesRows (is_name_among class key names))) same
    alters in
    record {
      tidy = gone.tidy;
      change = gone.change ∙ names_gone class key names old rows held
          found all;
      meta = gone.meta;
      object = gone.object;
      named = gone.named;
      others =
          subst (λ db. KeepsOthers db new) same alters.others;
    }

-- the rows of an object come
pub added_by : (class : ℕ) (key body : List ℕ) (names : List (List ℕ)) (a b c : Database) →
    Alters a b 2 (Adds (object_values class key body ∷ [])) →
    Alters b c 4 (Adds (map (λ name. named_values name class key) names))
    → IsAdded (record { class = class; key = key; body = body; names = names } ∷ []) a c
added_by class key body names a b c first second = record {
  tidy = second.tidy;
  objects = subst (IsPermutation _) (sym (ap contents (second.object two_four))) first.change;
  named = subst₂ (λ xs ys. IsPermutation (xs ++ ys) (contents (c.trees 4))) (sym (append_none _))
      (ap contents (first.named four_two)) second.change;
  meta = second.meta none_four ∙ first.meta none_two;
  others = others_then a b c first.others second.others;
}

-- and here they go
pub taken_by : (class : ℕ) (key : List ℕ) (a b c : Database) →
    Alters a b 4 (RemovesRows (is_named_of class key)) →
    Alters b c 2 (RemovesRows (is_object_of class key)) → IsTakenOut class key a c
taken_by class key a b c first second = record {
  tidy = second.tidy;
  objects = second.change ∙ ap (λ rows. filter (λ row. not (is_object_of class key row))
      (contents rows)) (first.object two_four);
  named = ap contents (second.named four_two) ∙ first.change;
  meta = second.meta none_two ∙ first.meta none_four;
  others = others_then a b c first.others second.others;
}

-- the version comes and then the rows of objects, in tables without a row
pub filled_so : (entries : List StoredEntry) (a b c : Database) → IsBare a →
    Alters a b 0 (Adds (meta_values (codes "version") current_version ∷ [])) → IsAdded entries b c
    → IsFilled entries c
filled_so entries a b c bare first second = filled_by entries a b c bare.meta bare.object
    bare.named (first.object two_none) (first.named four_none) first.change second
