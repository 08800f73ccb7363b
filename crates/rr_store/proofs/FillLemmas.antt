-- Rows of objects that are added one after the other in a transaction.
use Rattle.std.proofs.Common.{List, [], ◌∷◌, ◌++◌, map, IsTrue, refl, sym, subst, ◌∙◌, arith}
use Rattle.std.specs.List.{AllByRecursion}
use Rattle.std.proofs.lemmas.List.{map-append}
use Rattle.sqlite_trees.proofs.ListLemmas.{all-append}
use Rattle.sqlite_trees.specs.declared.store.Store.{Ghosts}
use Rattle.sqlite.specs.State.{HasCleanDisk, KeepsCommit, Survives}
use Rattle.sqlite.specs.Held.{Held, state}
use Rattle.sqlite.proofs.StateLemmas.{survives_then}
use Rattle.rr_store.specs.Contents.{IsTidy, RunsOn}
use Rattle.rr_object.specs.Objects.{Obj}
use Rattle.rr_store.specs.Entries.{StoredEntry, IsAdded, entry_of}
use Rattle.rr_store.specs.Maps.{IsObject}
use Rattle.rr_store.specs.StepParts.{IsOver}
use Rattle.rr_store.proofs.AddedLemmas.{none_added, added_then}
use Rattle.rr_store.proofs.AddingLemmas.{keeps_itself, survives_itself, keeps_then}

-- the rows of these were added in a transaction that goes on
pub record HasFilled {S : Type 0} (g : Ghosts S) (old new : Held S) (entries : List StoredEntry) :
    Type 0 where
  pub done : IsOver g IsTidy old → HasCleanDisk (state g new) → IsTrue (state g old).is_open →
      IsAdded entries (state g old).now (state g new).now
  pub step : HasCleanDisk (state g new) → IsTrue (state g old).is_open → RunsOn (state g old)
      (state g new)
  pub kept : HasCleanDisk (state g new) → KeepsCommit (state g old) (state g new)
  pub survives : Survives (state g old) (state g new) (λ _. ⊥)

pub none_filled : {S : Type 0} (g : Ghosts S) (old : Held S) → HasFilled g old old []
none_filled g old = record {
  done = λ over clean on. none_added _ (over clean on);
  step = λ clean on. record { is_open = on; mode = refl; committed = refl };
  kept = λ clean. keeps_itself (state g old);
  survives = survives_itself (state g old);
}

pub filled_more : {S : Type 0} (g : Ghosts S) (old mid new : Held S) (entries : List StoredEntry)
    (entry : StoredEntry) → HasFilled g old mid entries
    → (IsOver g IsTidy mid → HasCleanDisk (state g new) → IsAdded (entry ∷ []) (state g mid).now
    (state g new).now) →
    (HasCleanDisk (state g new) → RunsOn (state g mid) (state g new))
    → (HasCleanDisk (state g new) → KeepsCommit (state g mid) (state g new)) →
    Survives (state g mid) (state g new) (λ _. ⊥) → HasFilled g old new (entries ++ entry ∷ [])
filled_more g old mid new entries entry had added step kept survives =
    let earlier : HasCleanDisk (state g new) → HasCleanDisk (state g mid) = λ clean.
    omega (arith, survives.clean) in
    record {
      done = λ over clean on. let one = had.done over (earlier clean) on in
          added_then entries (entry ∷ []) _ _ _ one (added (λ mid on. one.tidy) clean);
      step = λ clean on. let one = had.step (earlier clean) on in let two = step clean in
          record {
            is_open = two.is_open;
            mode = two.mode ∙ one.mode;
            committed = two.committed
                ∙ one.committed;
          };
      kept = λ clean. keeps_then (state g old) (state g mid) (state g new)
          (had.kept (earlier clean)) (kept clean);
      survives = survives_then (state g old) (state g mid) (state g new) (λ _. ⊥) (λ _. ⊥) (λ _. ⊥)
          (λ _ db h. h) (λ _ db h. h) had.survives survives;
    }

-- and these are the rows of objects that are such as readers make
pub record AreFilled {S : Type 0} (g : Ghosts S) (old new : Held S) (objects : List Obj) :
    Type 0 where
  pub read : AllByRecursion IsObject objects
  pub filled : HasFilled g old new (map entry_of objects)

pub object_filled : {S : Type 0} (g : Ghosts S) (old mid new : Held S) (objects : List Obj)
    (object : Obj) → IsObject object → AreFilled g old mid objects
    → (IsOver g IsTidy mid → HasCleanDisk (state g new) → IsAdded (entry_of object ∷ [])
    (state g mid).now (state g new).now) →
    (HasCleanDisk (state g new) → RunsOn (state g mid) (state g new))
    → (HasCleanDisk (state g new) → KeepsCommit (state g mid) (state g new)) →
    Survives (state g mid) (state g new) (λ _. ⊥) → AreFilled g old new (objects ++ object ∷ [])
object_filled g old mid new objects object is had added step kept survives = record {
  read = all-append IsObject objects (object ∷ []) had.read (is, tt);
  filled = subst (HasFilled g old new) (sym (map-append entry_of objects (object ∷ [])))
      (filled_more g old mid new (map entry_of objects) (entry_of object) had.filled added step
      kept survives);
}
