-- What a step keeps.
use Rattle.std.proofs.Common.{◌≡◌, ℕ, Bool, true, false, List, refl, ap}
use Rattle.std.specs.Prelude.{Option, None, Some, Ok, if◌then◌else◌}
use Rattle.std.specs.FinMap.{get, insert}
use Rattle.rr_text.specs.Fields.{fields_eq}
use Rattle.rr_object.specs.declared.code.Code.{Code}
use Rattle.rr_object.specs.declared.code.Code.TheVariants.{E10, E11, E12, E13, E14, E15, E16, E17}
use Rattle.rr_object.specs.declared.key.Key.{Key}
use Rattle.rr_object.specs.Objects.{Obj}
use Rattle.rr_object.specs.Readings.{object_of}
use Rattle.rr_auth.specs.declared.item.Item.{Item}
use Rattle.rr_auth.specs.declared.item.Item.TheVariants.{Submit, Delete as DeleteItem}
use Rattle.rr_auth.specs.declared.verdict.Verdict.{Verdict}
use Rattle.rr_auth.specs.declared.verdict.Verdict.TheVariants.{Add, Change, Unchanged, Delete}
use Rattle.rr_auth.specs.declared.verdict.Verdict.TheVariants.{Refuse}
use Rattle.rr_auth.specs.Registries.{Reg, Sound, seen_by}
use Rattle.rr_auth.specs.Laws.{IsItem}
use Rattle.rr_auth.specs.Sources.{IsReadIn, IsReadObject, IsRegistryOf}
use Rattle.rr_auth.specs.Verdicts.{deletion, fits_item, by_place, submission, verdict, after, step}
use Rattle.rr_auth.specs.Conditions.{names_unknown, unauthorised, is_uncovered, cover_refuses}
use Rattle.rr_auth.specs.Conditions.{lacks_origin, origin_refuses, crosses_registered, is_in_use}
use Rattle.rr_auth.proofs.Keeping.{after_insert, still_there, sound_added, sound_changed}
use Rattle.rr_auth.proofs.Keeping.{sound_removed}

pub refusal_leaves : (r : Reg) (secrets : List (List ℕ)) (i : Item) (code : Code) →
    verdict r secrets i ≡ Refuse code → step r secrets i ≡ r
refusal_leaves r secrets i code e = ap (λ v. after v r i) e

pub stays_sound : (r : Reg) (secrets : List (List ℕ)) (i : Item) → Sound r → IsItem i →
    Sound (step r secrets i)
stays_sound r secrets (Submit o) s f =
    elim (verdict r secrets (Submit o)) as (λ v. verdict r secrets (Submit o) ≡ v →
    Sound (after v r (Submit o))) [
      | Add ↦ λ e. sound_added r secrets o s f e
      | Change ↦ λ e. sound_changed r secrets o s f e
      | Unchanged ↦ λ e. s
      | Delete ↦ λ e. s
      | Refuse code ↦ λ e. s
    ] refl
stays_sound r secrets (DeleteItem k) s f =
    elim (verdict r secrets (DeleteItem k)) as (λ v. verdict r secrets (DeleteItem k) ≡ v →
    Sound (after v r (DeleteItem k))) [
      | Add ↦ λ e. s
      | Change ↦ λ e. s
      | Unchanged ↦ λ e. s
      | Delete ↦ λ e. sound_removed r secrets k s e
      | Refuse code ↦ λ e. s
    ] refl

-- where an item can be refused, a condition before a verdict that it can meet leaves one that it
-- can meet
met_if : (i : Item) → ((code : Code) → fits_item i (Refuse code) ≡ true) → (b : Bool) (c : Code)
    (v : Verdict) → fits_item i v ≡ true
    → fits_item i (if b then Refuse c else v) ≡ true
met_if i refusals true c v e = refusals c
met_if i refusals false c v e = e

changed_or_same : (o : Obj) (b : Bool) → fits_item (Submit o) (if b then Unchanged else Change)
    ≡ true
changed_or_same o true = refl
changed_or_same o false = refl

place_met : (r : Reg) (secrets : List (List ℕ)) (o : Obj) (k : Key) → fits_item (Submit o)
    (by_place r secrets k) ≡ true
place_met r secrets o k =
    met_if (Submit o) (λ code. refl) (crosses_registered r k) E16 _ (
    met_if (Submit o) (λ code. refl) (lacks_origin r k) E14 _ (
    met_if (Submit o) (λ code. refl) (origin_refuses r secrets k) E15 _ (
    met_if (Submit o) (λ code. refl) (is_uncovered r k) E12 _ (
    met_if (Submit o) (λ code. refl) (cover_refuses r secrets k) E13 Add refl))))

submission_met : (r : Reg) (secrets : List (List ℕ)) (o : Obj) (stored : Option Obj) →
    fits_item (Submit o) (submission stored r secrets o) ≡ true
submission_met r secrets o None =
    met_if (Submit o) (λ code. refl) (names_unknown (seen_by (Some o) r) o) E10 _ (
    met_if (Submit o) (λ code. refl) (unauthorised (seen_by (Some o) r) secrets o) E11 _
    (place_met r secrets o o.key))
submission_met r secrets o (Some stored) =
    met_if (Submit o) (λ code. refl) (names_unknown r o) E10 _ (
    met_if (Submit o) (λ code. refl) (unauthorised r secrets stored) E11 _
    (changed_or_same o (fields_eq stored.paragraph o.paragraph)))

deletion_met : (r : Reg) (secrets : List (List ℕ)) (k : Key) (stored : Option Obj) →
    fits_item (DeleteItem k) (deletion stored r secrets k) ≡ true
deletion_met r secrets k None = refl
deletion_met r secrets k (Some stored) =
    met_if (DeleteItem k) (λ code. refl) (unauthorised r secrets stored) E11 _ (
    met_if (DeleteItem k) (λ code. refl) (is_in_use r k) E17 Delete refl)

-- each verdict is one that its item can meet
pub verdicts_are_met : (r : Reg) (secrets : List (List ℕ)) (i : Item) →
    fits_item i (verdict r secrets i) ≡ true
verdicts_are_met r secrets (Submit o) = submission_met r secrets o (get r o.key)
verdicts_are_met r secrets (DeleteItem k) = deletion_met r secrets k (get r k)

-- an item that is read is well formed
pub read_item : (source : List ℕ) (i : Item) → IsReadIn source i → IsItem i
read_item source (Submit o) h = h.formed
read_item source (DeleteItem k) h = tt

read_added : (source : List ℕ) (r : Reg) (o : Obj) → IsRegistryOf source r → IsReadObject source o
    → (k : Key) (x : Obj) → get (insert r o.key o) k ≡ Some x → object_of x.paragraph source ≡ Ok x
read_added source r o s h = after_insert (λ k x. object_of x.paragraph source ≡ Ok x) r o.key o
    h.read s.read

read_after : (source : List ℕ) (r : Reg) (v : Verdict) (i : Item) → IsRegistryOf source r →
    IsReadIn source i
    → (k : Key) (x : Obj) → get (after v r i) k ≡ Some x → object_of x.paragraph source ≡ Ok x
read_after source r Add (Submit o) s h = read_added source r o s h
read_after source r Change (Submit o) s h = read_added source r o s h
read_after source r Unchanged (Submit o) s h = s.read
read_after source r Delete (Submit o) s h = s.read
read_after source r (Refuse code) (Submit o) s h = s.read
read_after source r Add (DeleteItem k) s h = s.read
read_after source r Change (DeleteItem k) s h = s.read
read_after source r Unchanged (DeleteItem k) s h = s.read
read_after source r Delete (DeleteItem k) s h = λ l x f. s.read l x (still_there r k l x f).1
read_after source r (Refuse code) (DeleteItem k) s h = s.read

-- a registry of a source stays one
pub stays_of_source : (source : List ℕ) (r : Reg) (secrets : List (List ℕ)) (i : Item) →
    IsRegistryOf source r → IsReadIn source i → IsRegistryOf source (step r secrets i)
stays_of_source source r secrets i s h = record {
  sound = stays_sound r secrets i s.sound (read_item source i h);
  read = read_after source r (verdict r secrets i) i s h;
}
