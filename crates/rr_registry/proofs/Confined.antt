-- A run beside the run of the holders' own items: both keep what is held, and agree on it.
use Rattle.std.proofs.Common.{◌≡◌, ℕ, Bool, true, false, not, ◌||◌, inl, inr, List, [], ◌∷◌, Ok}
use Rattle.std.proofs.Common.{Err, refl, sym, ap, subst, ◌∙◌}
use Rattle.std.specs.Prelude.{Result, IfOk, if◌then◌else◌}
use Rattle.std.specs.FinMap.{get}
use Rattle.std.proofs.lemmas.Bool.{and_parts}
use Rattle.rr_object.specs.declared.code.Code.{Code}
use Rattle.rr_object.specs.declared.key.Key.TheVariants.{Mntner}
use Rattle.rr_auth.specs.declared.item.Item.{Item}
use Rattle.rr_auth.specs.Registries.{Reg, Sound}
use Rattle.rr_auth.specs.Verdicts.{step, verdict}
use Rattle.rr_auth.proofs.Steps.{stays_sound}
use Rattle.rr_registry.specs.Holdings.{Agree, Holding, IsHeld, is_foreign, is_holder, is_own}
use Rattle.rr_registry.specs.ConfinementLaws.{IsAlike, IsLeft}
use Rattle.rr_registry.proofs.Agreeing.{agree_back, agree_on}
use Rattle.rr_registry.proofs.Foreign.{foreign_items_leave}
use Rattle.rr_registry.proofs.Holders.{foreign_alike}
use Rattle.rr_registry.proofs.Kept.{maintainer_after}
use Rattle.rr_registry.proofs.Own.{own_items_are_alike}
use Rattle.rr_registry.specs.Confined.{IsConfined, are_foreign_or_own, is_own_action}
use Rattle.rr_registry.specs.Confined.{own_outcomes, own_submitted}
use Rattle.rr_auth.specs.Laws.{IsItem}
use Rattle.rr_registry.specs.RunLaws.{AreFormed}
use Rattle.rr_registry.specs.Runs.{Decides, IsStep, Run, Submitted, outcome_of}
use Rattle.rr_registry.specs.declared.outcome.Outcome.{Outcome}

-- two registries in which the prefix is held, which agree on it, and the first of which has the
-- mntners of the one in
-- which the run began
record Beside (h : Holding) (begun r q : Reg) : Type 0 where
  sound : Sound r
  sound_too : Sound q
  held : IsHeld h r
  held_too : IsHeld h q
  agree : Agree h r q
  maintainers : (name : List ℕ) → is_holder h name ≡ true → get r (Mntner name) ≡ get begun
      (Mntner name)

-- the first of both may change by what leaves what is held
beside_left : (h : Holding) (begun r s q : Reg) → Beside h begun r q → Sound s → IsLeft h r s →
    Beside h begun s q
beside_left h begun r s q b sound left = record {
  sound = sound;
  sound_too = b.sound_too;
  held = left.held;
  held_too = b.held_too;
  agree = agree_on h s r q (agree_back h r s left.agree) b.agree;
  maintainers = λ name e. sym (left.agree (Mntner name) e) ∙ b.maintainers name e;
}

beside_same : (h : Holding) (begun r s q : Reg) → Beside h begun r q → s ≡ r → Beside h begun s q
beside_same h begun r s q b e = subst (λ t. Beside h begun t q) (sym e) b

-- whether what is submitted is foreign is told by the registry in which the run began
foreign_here : (h : Holding) (begun r q : Reg) (secrets : List (List ℕ)) → Beside h begun r q →
    is_foreign h begun secrets ≡ true → is_foreign h r secrets ≡ true
foreign_here h begun r q secrets b e = foreign_alike h r begun secrets b.maintainers ∙ e

-- what is foreign leaves both beside each other
after_foreign : (h : Holding) (begun r s q : Reg) (secrets : List (List ℕ))
    (action : Result Item Code) (outcome : Outcome)
    → Beside h begun r q → IfOk action IsItem → is_foreign h begun secrets ≡ true →
    Decides r secrets action outcome s → Beside h begun s q
after_foreign h begun r s q secrets (Ok item) outcome b formed foreign (inl done) =
    let left = foreign_items_leave h r secrets item b.sound b.held formed
    (foreign_here h begun r q secrets b foreign) in
    beside_same h begun (step r secrets item) s q (beside_left h begun r (step r secrets item) q b
    (stays_sound r secrets item b.sound formed) left) done.effect
after_foreign h begun r s q secrets (Ok item) outcome b formed foreign (inr out) =
    beside_same h begun r s q b out.effect
after_foreign h begun r s q secrets (Err code) outcome b formed foreign d = beside_same h begun r s
    q b d.1

-- and what is held as it was
left_by_foreign : (h : Holding) (begun r s q : Reg) (secrets : List (List ℕ))
    (action : Result Item Code) (outcome : Outcome)
    → Beside h begun r q → IfOk action IsItem → is_foreign h begun secrets ≡ true →
    Decides r secrets action outcome s → Agree h r s
left_by_foreign h begun r s q secrets (Ok item) outcome b formed foreign (inl done) =
    let left = foreign_items_leave h r secrets item b.sound b.held formed
    (foreign_here h begun r q secrets b foreign) in
    subst (λ t. Agree h r t) (sym done.effect) left.agree
left_by_foreign h begun r s q secrets (Ok item) outcome b formed foreign (inr out) =
    subst (λ t. Agree h r t) (sym out.effect) (λ k e. refl)
left_by_foreign h begun r s q secrets (Err code) outcome b formed foreign d =
    subst (λ t. Agree h r t) (sym d.1) (λ k e. refl)

-- what is the holders' own is decided alike in both, and leaves them beside each other
record DecidesAlike (h : Holding) (begun s q : Reg) (secrets : List (List ℕ))
    (action : Result Item Code) (outcome : Outcome) : Type 0 where
  other : Reg
  decides : Decides q secrets action outcome other
  beside : Beside h begun s other

beside_own : (h : Holding) (begun r q : Reg) (secrets : List (List ℕ)) (item : Item) →
    Beside h begun r q → IsItem item → is_own h item ≡ true
    → IsAlike h r q secrets item → Beside h begun (step r secrets item) (step q secrets item)
beside_own h begun r q secrets item b formed own alike = record {
  sound = stays_sound r secrets item b.sound formed;
  sound_too = stays_sound q secrets item b.sound_too formed;
  held = alike.held;
  held_too = alike.held_too;
  agree = alike.agree;
  maintainers = λ name e. maintainer_after h r (verdict r secrets item) item name own
      ∙ b.maintainers name e;
}

after_own : (h : Holding) (begun r s q : Reg) (secrets : List (List ℕ)) (action : Result Item Code)
    (outcome : Outcome)
    → Beside h begun r q → IfOk action IsItem → is_own_action h action ≡ true →
    Decides r secrets action outcome s → DecidesAlike h begun s q secrets action outcome
after_own h begun r s q secrets (Ok item) outcome b formed own (inl done) =
    let alike = own_items_are_alike h r q secrets item b.sound b.sound_too b.held b.held_too
    b.agree formed own in
    record {
      other = step q secrets item;
      decides = inl (record {
        outcome_is = done.outcome_is ∙ ap outcome_of alike.verdicts;
        effect =
            refl;
      });
      beside = subst (λ t. Beside h begun t (step q secrets item)) (sym done.effect)
          (beside_own h begun r q secrets item b formed own alike);
    }
after_own h begun r s q secrets (Ok item) outcome b formed own (inr out) =
    record {
      other = q;
      decides = inr (record { outcome_is = out.outcome_is; effect = refl });
      beside = beside_same h begun r s q b out.effect;
    }
after_own h begun r s q secrets (Err code) outcome b formed own d =
    record { other = q; decides = (d.0, refl); beside = beside_same h begun r s q b d.1 }

-- a run beside that of the holders' own
record IsConfinedFrom (h : Holding) (begun r q : Reg) (submitted : List Submitted)
    (outcomes : List Outcome) (t : Reg) : Type 0 where
  alone : Reg
  run : Run q (own_submitted h begun submitted) (own_outcomes h begun submitted outcomes) alone
  agree : Agree h t alone
  held : IsHeld h t
  held_alone : IsHeld h alone
  undisturbed : own_submitted h begun submitted ≡ [] → Agree h r t

some_not_none : {A : Type 0} (x : A) (xs : List A) → x ∷ xs ≡ [] → ⊥
some_not_none x xs e = cc

-- what is foreign is no part of the holders' own run
passed_over : (h : Holding) (begun r s q : Reg) (i : Submitted) (is : List Submitted) (o : Outcome)
    (os : List Outcome) (t : Reg)
    → is_foreign h begun i.secrets ≡ true → Agree h r s → IsConfinedFrom h begun s q is os t →
    IsConfinedFrom h begun r q (i ∷ is) (o ∷ os) t
passed_over h begun r s q i is o os t foreign left c =
    let same : own_submitted h begun (i ∷ is) ≡ own_submitted h begun is =
    ap (λ b. if not b then i ∷ own_submitted h begun is else own_submitted h begun is) foreign in
    let same_outcomes : own_outcomes h begun (i ∷ is) (o ∷ os) ≡ own_outcomes h begun is os =
    ap (λ b. if b then own_outcomes h begun is os else o ∷ own_outcomes h begun is os) foreign in
    record {
      alone = c.alone;
      run = subst (λ xs. Run q xs (own_outcomes h begun (i ∷ is) (o ∷ os)) c.alone) (sym same)
          (subst (λ xs. Run q (own_submitted h begun is) xs c.alone) (sym same_outcomes) c.run);
      agree = c.agree;
      held = c.held;
      held_alone = c.held_alone;
      undisturbed = λ e. agree_on h r s t left (c.undisturbed (sym same ∙ e));
    }

-- what is not foreign is a part of it
taken_in : (h : Holding) (begun r s q p : Reg) (i : Submitted) (is : List Submitted) (o : Outcome)
    (os : List Outcome) (t : Reg)
    → is_foreign h begun i.secrets ≡ false → Decides q i.secrets i.action o p →
    IsConfinedFrom h begun s p is os t → IsConfinedFrom h begun r q (i ∷ is) (o ∷ os) t
taken_in h begun r s q p i is o os t own d c =
    let same : own_submitted h begun (i ∷ is) ≡ i ∷ own_submitted h begun is =
    ap (λ b. if not b then i ∷ own_submitted h begun is else own_submitted h begun is) own in
    let same_outcomes : own_outcomes h begun (i ∷ is) (o ∷ os) ≡ o ∷ own_outcomes h begun is os =
    ap (λ b. if b then own_outcomes h begun is os else o ∷ own_outcomes h begun is os) own in
    let run : Run q (i ∷ own_submitted h begun is) (o ∷ own_outcomes h begun is os) c.alone =
    (p, d, c.run) in
    record {
      alone = c.alone;
      run = subst (λ xs. Run q xs (own_outcomes h begun (i ∷ is) (o ∷ os)) c.alone) (sym same)
          (subst (λ xs. Run q (i ∷ own_submitted h begun is) xs c.alone) (sym same_outcomes) run);
      agree = c.agree;
      held = c.held;
      held_alone = c.held_alone;
      undisturbed = λ e. absurd (some_not_none i (own_submitted h begun is) (sym same ∙ e));
    }

own_of : (foreign own : Bool) → (foreign || own) ≡ true → foreign ≡ false → own ≡ true
own_of true own e f = cc
own_of false own e f = e

confined_from : (h : Holding) (begun r q : Reg) (submitted : List Submitted)
    (outcomes : List Outcome) (t : Reg)
    → Beside h begun r q → AreFormed submitted → are_foreign_or_own h begun submitted ≡ true →
    Run r submitted outcomes t → IsConfinedFrom h begun r q submitted outcomes t
confined_from h begun r q [] [] t b formed listed run = record {
  alone = q;
  run = refl;
  agree = subst (λ s. Agree h s q) (sym run) b.agree;
  held = subst (IsHeld h) (sym run) b.held;
  held_alone = b.held_too;
  undisturbed = λ e. subst (λ s. Agree h r s) (sym run) (λ k f. refl);
}
confined_from h begun r q [] (o ∷ os) t b formed listed run = absurd run
confined_from h begun r q (i ∷ is) [] t b formed listed run = absurd run
confined_from h begun r q (i ∷ is) (o ∷ os) t b formed listed run =
    let parts = and_parts (is_foreign h begun i.secrets || is_own_action h i.action)
    (are_foreign_or_own h begun is) listed in
    elim (is_foreign h begun i.secrets) as (λ v. is_foreign h begun i.secrets ≡ v →
    IsConfinedFrom h begun r q (i ∷ is) (o ∷ os) t) [
      | true ↦ λ foreign.
          let beside = after_foreign h begun r run.0 q i.secrets i.action o b formed.0 foreign
          run.1 in
          let left = left_by_foreign h begun r run.0 q i.secrets i.action o b formed.0 foreign
          run.1 in
          passed_over h begun r run.0 q i is o os t foreign left
          (confined_from h begun run.0 q is os t beside formed.1 parts.1 run.2)
      | false ↦ λ own.
          let alike = after_own h begun r run.0 q i.secrets i.action o b formed.0
          (own_of _ _ parts.0 own) run.1 in
          taken_in h begun r run.0 q alike.other i is o os t own alike.decides
          (confined_from h begun run.0 alike.other is os t alike.beside formed.1 parts.1 run.2)
    ] refl

-- a run from a sound registry confines what is foreign
pub runs_confine : (r s : Reg) (submitted : List Submitted) (outcomes : List Outcome) → Sound r →
    AreFormed submitted → Run r submitted outcomes s
    → (h : Holding) → IsHeld h r → are_foreign_or_own h r submitted ≡ true →
    IsConfined h r submitted outcomes s
runs_confine r s submitted outcomes sound formed run h held listed =
    let beside : Beside h r r r = record {
      sound = sound;
      sound_too = sound;
      held = held;
      held_too = held;
      agree = λ k e. refl;
      maintainers = λ name e. refl;
    } in
    let c = confined_from h r r r submitted outcomes s beside formed listed run in
    record {
      alone = c.alone;
      run = c.run;
      agree = c.agree;
      held = c.held;
      held_alone =
          c.held_alone;
      undisturbed = c.undisturbed;
    }

-- a step of a foreign item leaves what is held
pub step_leaves_others : (r : Reg) (secrets : List (List ℕ)) (item : Item) (outcome : Outcome)
    (s : Reg) → Sound r → IsItem item → IsStep r secrets item outcome s
    → (h : Holding) → IsHeld h r → is_foreign h r secrets ≡ true → IsLeft h r s
step_leaves_others r secrets item outcome s sound formed (inl done) h held foreign =
    subst (λ t. IsLeft h r t) (sym done.effect) (foreign_items_leave h r secrets item sound held
    formed foreign)
step_leaves_others r secrets item outcome s sound formed (inr out) h held foreign =
    subst (λ t. IsLeft h r t) (sym out.effect) (record { agree = λ k e. refl; held = held })
