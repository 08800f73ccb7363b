-- Runs one after the other, and what they keep.
use Rattle.std.proofs.Common.{List, [], ◌∷◌, ◌++◌, ℕ, ap, refl, sym, subst, inl, inr, Ok, Err}
use Rattle.std.specs.Prelude.{Result, IfOk}
use Rattle.rr_object.specs.declared.code.Code.{Code}
use Rattle.rr_auth.specs.declared.item.Item.{Item}
use Rattle.rr_auth.specs.Registries.{Reg, Sound}
use Rattle.rr_auth.specs.Laws.{IsItem}
use Rattle.rr_auth.specs.Sources.{IsReadIn, IsRegistryOf}
use Rattle.rr_auth.proofs.Steps.{stays_of_source, stays_sound}
use Rattle.rr_registry.specs.RunLaws.{AreFormed, AreReadIn, IsSplit}
use Rattle.rr_registry.specs.Runs.{Decides, Run, Submitted}
use Rattle.rr_registry.specs.declared.outcome.Outcome.{Outcome}

pub run_append : (r s t : Reg) (first later : List Submitted) (outcomes others : List Outcome)
    → Run r first outcomes s → Run s later others t → Run r (first ++ later) (outcomes ++ others) t
run_append r s t [] later [] others a b = subst (λ q. Run q later others t) a b
run_append r s t [] later (o ∷ os) others a b = absurd a
run_append r s t (i ∷ is) later [] others a b = absurd a
run_append r s t (i ∷ is) later (o ∷ os) others a b =
    (a.0, a.1, run_append a.0 s t is later os others a.2 b)

pub run_split : (r t : Reg) (first later : List Submitted) (outcomes : List Outcome)
    → Run r (first ++ later) outcomes t → IsSplit r t first later outcomes
run_split r t [] later outcomes run = record {
  between = r;
  first_outcomes = [];
  later_outcomes =
      outcomes;
  cut = refl;
  first_run = refl;
  later_run = run;
}
run_split r t (i ∷ is) later [] run = absurd run
run_split r t (i ∷ is) later (o ∷ os) run =
    let rest = run_split run.0 t is later os run.2 in
    record {
      between = rest.between;
      first_outcomes = o ∷ rest.first_outcomes;
      later_outcomes = rest.later_outcomes;
      cut = ap (λ more. o ∷ more) rest.cut;
      first_run = (run.0, run.1, rest.first_run);
      later_run = rest.later_run;
    }

-- one more
pub run_more : (r s t : Reg) (items : List Submitted) (submitted : Submitted)
    (outcomes : List Outcome) (outcome : Outcome)
    → Run r items outcomes s → Decides s submitted.secrets submitted.action outcome t →
    Run r (items ++ submitted ∷ []) (outcomes ++ outcome ∷ []) t
run_more r s t items submitted outcomes outcome a b = run_append r s t items (submitted ∷ [])
    outcomes (outcome ∷ []) a (t, b, refl)

-- what is decided leaves a sound registry sound
decided_sound : (r s : Reg) (secrets : List (List ℕ)) (action : Result Item Code)
    (outcome : Outcome)
    → Sound r → IfOk action IsItem → Decides r secrets action outcome s → Sound s
decided_sound r s secrets (Ok item) outcome sound formed (inl done) = subst Sound (sym done.effect)
    (stays_sound r secrets item sound formed)
decided_sound r s secrets (Ok item) outcome sound formed (inr out) = subst Sound (sym out.effect)
    sound
decided_sound r s secrets (Err code) outcome sound formed d = subst Sound (sym d.1) sound

pub run_stays_sound : (r s : Reg) (submitted : List Submitted) (outcomes : List Outcome)
    → Sound r → AreFormed submitted → Run r submitted outcomes s → Sound s
run_stays_sound r s [] [] sound formed run = subst Sound (sym run) sound
run_stays_sound r s [] (o ∷ os) sound formed run = absurd run
run_stays_sound r s (i ∷ is) [] sound formed run = absurd run
run_stays_sound r s (i ∷ is) (o ∷ os) sound formed run =
    run_stays_sound run.0 s is os (decided_sound r run.0 i.secrets i.action o sound formed.0 run.1)
    formed.1 run.2

decided_of_source : (source : List ℕ) (r s : Reg) (secrets : List (List ℕ))
    (action : Result Item Code) (outcome : Outcome)
    → IsRegistryOf source r → IfOk action (IsReadIn source) → Decides r secrets action outcome s →
    IsRegistryOf source s
decided_of_source source r s secrets (Ok item) outcome of read (inl done) =
    subst (IsRegistryOf source) (sym done.effect) (stays_of_source source r secrets item of read)
decided_of_source source r s secrets (Ok item) outcome of read (inr out) =
    subst (IsRegistryOf source) (sym out.effect) of
decided_of_source source r s secrets (Err code) outcome of read d = subst (IsRegistryOf source)
    (sym d.1) of

pub run_stays_of_source : (source : List ℕ) (r s : Reg) (submitted : List Submitted)
    (outcomes : List Outcome)
    → IsRegistryOf source r → AreReadIn source submitted → Run r submitted outcomes s →
    IsRegistryOf source s
run_stays_of_source source r s [] [] of read run = subst (IsRegistryOf source) (sym run) of
run_stays_of_source source r s [] (o ∷ os) of read run = absurd run
run_stays_of_source source r s (i ∷ is) [] of read run = absurd run
run_stays_of_source source r s (i ∷ is) (o ∷ os) of read run =
    run_stays_of_source source run.0 s is os (decided_of_source source r run.0 i.secrets i.action o
    of read.0 run.1) read.1 run.2
