-- The rows of an object that are added to those of others.
use Rattle.std.proofs.Common.{List, [], ◌∷◌, ◌++◌, map, ap, subst, ◌∙◌, IsPermutation}
use Rattle.std.specs.FinMap.{values}
use Rattle.std.proofs.lemmas.List.Sorted.{IsPermutation-append_right, IsPermutation-cons}
use Rattle.std.proofs.lemmas.List.Sorted.{IsPermutation-map, IsPermutation-trans}
use Rattle.sqlite.specs.Effect.{Database}
use Rattle.rr_object.specs.KeyOrders.{IsKeyValue}
use Rattle.rr_object.specs.Objects.{Obj}
use Rattle.rr_store.specs.Contents.{contents, meta_rows}
use Rattle.rr_store.specs.Entries.{StoredEntry, AreRowsOf, IsAdded, entry_of, named_rows}
use Rattle.rr_store.specs.Entries.{object_row}
use Rattle.rr_store.specs.Maps.{AreOfObjects, IsObject}
use Rattle.rr_store.proofs.AddedLemmas.{append_none}
use Rattle.rr_store.proofs.MapEntries.{values_with_new}
use Rattle.rr_object.proofs.KeyLaws.{keys_total}
use Rattle.rr_store.proofs.MapKeys.{keys_exact}
use Rattle.rr_store.proofs.MapRows.{put_keyed, rows_permuted}
use Rattle.rr_store.specs.Adding.{AddsTo}

one_more : (entry : StoredEntry) (entries : List StoredEntry) (old new : Database) →
    AreRowsOf entries old →
    IsAdded (entry ∷ []) old new → AreRowsOf (entry ∷ entries) new
one_more entry entries old new rows added = record {
  tidy = added.tidy;
  objects = IsPermutation-trans _ _ _ (IsPermutation-cons (object_row entry) _ _ rows.objects)
      added.objects;
  named = IsPermutation-trans _ _ _ (IsPermutation-append_right (named_rows entry) _ _ rows.named)
      (subst (λ l. IsPermutation (l ++ contents (old.trees 4)) (contents (new.trees 4)))
      (append_none (named_rows entry)) added.named);
}

pub added_held : (object : Obj) → IsObject object → (old new : Database) → AreOfObjects old →
    IsAdded (entry_of object ∷ []) old new → AreOfObjects new
added_held object is old new held added =
    record {
      objects = object ∷ held.objects;
      read = (is, held.read);
      rows =
          one_more (entry_of object) (map entry_of held.objects) old new held.rows added;
    }

-- the rows with those of an object of a new key are the rows of the map with it
pub adds : (object : Obj) → IsKeyValue object.key → IsObject object → (old new : Database) →
    IsAdded (entry_of object ∷ []) old new → AddsTo object.key object old new
adds object formed read old new added objects has absent = record {
  keyed = put_keyed objects object formed read has.keyed;
  rows = rows_permuted _ _ new
      (IsPermutation-map entry_of _ _ (values_with_new keys_total keys_exact objects object.key
      object absent))
      (one_more (entry_of object) (map entry_of (values objects)) old new has.rows added);
  version = ap meta_rows added.meta ∙ has.version;
}
