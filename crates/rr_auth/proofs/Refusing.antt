-- What makes a verdict a refusal.
use Rattle.std.proofs.Common.{◌≡◌, ℕ, Bool, true, false, not, List, refl, sym, ap, subst}
use Rattle.std.specs.Prelude.{Some, if◌then◌else◌}
use Rattle.std.specs.FinMap.{get}
use Rattle.rr_object.specs.declared.code.Code.{Code}
use Rattle.rr_object.specs.declared.code.Code.TheVariants.{E10, E11}
use Rattle.rr_object.specs.declared.key.Key.{Key}
use Rattle.rr_object.specs.Objects.{Obj}
use Rattle.rr_auth.specs.declared.item.Item.{Item}
use Rattle.rr_auth.specs.declared.item.Item.TheVariants.{Submit, Delete as DeleteItem}
use Rattle.rr_auth.specs.declared.verdict.Verdict.{Verdict}
use Rattle.rr_auth.specs.declared.verdict.Verdict.TheVariants.{Refuse}
use Rattle.rr_auth.specs.Conditions.{names_unknown, unauthorised}
use Rattle.rr_auth.specs.Laws.{IsRefusal, key_about}
use Rattle.rr_auth.specs.Passing.{names_pass}
use Rattle.rr_auth.specs.Registries.{Reg}
use Rattle.rr_auth.specs.Verdicts.{change, deletion, submission, verdict}

pub refused_if : (b : Bool) (c : Code) (v : Verdict) → IsRefusal v →
    IsRefusal (if b then Refuse c else v)
refused_if true c v e = record { code = c; is = refl }
refused_if false c v e = e

pub refused_now : (b : Bool) (c : Code) (v : Verdict) → b ≡ true →
    IsRefusal (if b then Refuse c else v)
refused_now b c v e = record { code = c; is = ap (λ t. if t then Refuse c else v) e }

pub change_refused : (r : Reg) (secrets : List (List ℕ)) (stored o : Obj) → names_pass r secrets
    stored.maintainers ≡ false → IsRefusal (change r secrets stored o)
change_refused r secrets stored o e =
    refused_if (names_unknown r o) E10 _ (refused_now (unauthorised r secrets stored) E11 _
    (ap not e))

pub deletion_refused : (r : Reg) (secrets : List (List ℕ)) (k : Key) (stored : Obj) →
    names_pass r secrets stored.maintainers ≡ false → IsRefusal (deletion (Some stored) r secrets k)
deletion_refused r secrets k stored e = refused_now (unauthorised r secrets stored) E11 _ (ap not e)

-- what stands under a key is not touched where none of its own maintainers passes
pub stored_names_decide : (r : Reg) (secrets : List (List ℕ)) (i : Item) (stored : Obj) →
    get r (key_about i) ≡ Some stored
    → names_pass r secrets stored.maintainers ≡ false → IsRefusal (verdict r secrets i)
stored_names_decide r secrets (Submit o) stored there fails =
    subst (λ v. IsRefusal (submission v r secrets o)) (sym there)
    (change_refused r secrets stored o fails)
stored_names_decide r secrets (DeleteItem k) stored there fails =
    subst (λ v. IsRefusal (deletion v r secrets k)) (sym there)
    (deletion_refused r secrets k stored fails)
