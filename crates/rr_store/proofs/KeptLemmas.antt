-- What a store keeps true of its connection, over a call.
use Rattle.std.proofs.Common.{◌≡◌, [], ◌∷◌, Result, sym, subst, arith}
use Rattle.sqlite_trees.specs.declared.store.Store.{Ghosts}
use Rattle.sqlite.specs.Effect.{Database}
use Rattle.sqlite.specs.Held.{Held, state}
use Rattle.rr_object.specs.Objects.{Obj}
use Rattle.rr_store.specs.Entries.{StoredEntry, IsAdded, IsPut, entry_of}
use Rattle.rr_store.specs.Maps.{AreOfObjects, IsObject}
use Rattle.rr_store.proofs.ObjectRows.{put_held}
use Rattle.rr_store.specs.Calls.{Transacts}
use Rattle.rr_store.specs.Kept.{IsKeptConnection}
use Rattle.rr_store.proofs.AddLemmas.{added_held}
use Rattle.rr_store.proofs.BodyLemmas.{then_ok}
use Rattle.rr_store.proofs.LookLemmas.{of_both, on_err_as}

-- rows of an entry that is an object's leave rows of some objects
pub added_told : (object : Obj) (entry : StoredEntry) → entry ≡ entry_of object → IsObject object →
    (old new : Database) → AreOfObjects old → IsAdded (entry ∷ []) old new → AreOfObjects new
added_told object entry same is old new held added = added_held object is old new held
    (subst (λ e. IsAdded (e ∷ []) old new) same added)

pub put_told : (object : Obj) (entry : StoredEntry) → entry ≡ entry_of object → IsObject object →
    (old new : Database) → AreOfObjects old → IsPut entry old new → AreOfObjects new
put_told object entry same is old new held put = put_held object is old new held
    (subst (λ e. IsPut e old new) same put)

-- a call that changes rows, or fails and changes none, leaves those of some objects
pub kept_by : {S X E : Type 0} (g : Ghosts S) (Change : Database → Database → Type 0)
    (old new : Held S) (r : Result X E) → IsKeptConnection g old → Transacts g Change old new r
    → (AreOfObjects (state g old).now → Change (state g old).now (state g new).now →
    AreOfObjects (state g new).now) → IsKeptConnection g new
kept_by g Change old new r kept w follows = record {
  autocommit = w.autocommit;
  held = λ clean on.
      let before : AreOfObjects (state g old).now = kept.held (omega (arith, clean, w.crash.clean))
      (w.opened clean on) in
      of_both r _ (then_ok r (w.done clean) (follows before))
      (on_err_as r (w.kept clean on) (λ is. subst AreOfObjects (sym is) before));
}
