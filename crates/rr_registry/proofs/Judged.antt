-- What holds of an item that was judged, and where memory ran out.
use Rattle.std.proofs.Common.{◌≡◌, ℕ, true, inl, inr, List, refl, sym, ap, subst, ◌∙◌}
use Rattle.std.specs.FinMap.{insert, remove}
use Rattle.rr_object.specs.declared.code.Code.TheVariants.{E90}
use Rattle.rr_object.specs.declared.key.Key.{Key}
use Rattle.rr_object.specs.KeyOrders.{IsKeyValue}
use Rattle.rr_object.specs.Objects.{Obj}
use Rattle.rr_auth.proofs.Keeping.{sound_added, sound_changed, sound_removed}
use Rattle.rr_auth.proofs.Steps.{verdicts_are_met}
use Rattle.rr_auth.specs.declared.item.Item.{Item}
use Rattle.rr_auth.specs.declared.item.Item.TheVariants.{Submit, Delete as DeleteItem}
use Rattle.rr_auth.specs.declared.verdict.Verdict.{Verdict}
use Rattle.rr_auth.specs.declared.verdict.Verdict.TheVariants.{Add, Change, Delete, Refuse}
use Rattle.rr_auth.specs.Registries.{Reg, Sound}
use Rattle.rr_auth.specs.Verdicts.{after, fits_item}
use Rattle.rr_registry.specs.Private.{IsJudged}
use Rattle.rr_registry.specs.Runs.{IsCarriedOut, IsStep, outcome_of}
use Rattle.rr_registry.specs.declared.outcome.Outcome.{Outcome}

refusal_met : (i : Item) → fits_item i (Refuse E90) ≡ true
refusal_met (Submit o) = refl
refusal_met (DeleteItem k) = refl

module _ (r : Reg) (secrets : List (List ℕ)) (judged : Verdict) where
  pub judged_is_met : (i : Item) → IsJudged r secrets i judged → fits_item i judged ≡ true
  judged_is_met i (inl is) = ap (fits_item i) is ∙ verdicts_are_met r secrets i
  judged_is_met i (inr refused) = ap (fits_item i) refused ∙ refusal_met i

  pub added_is_sound : (o : Obj) → Sound r → IsKeyValue o.key → IsJudged r secrets (Submit o)
      judged → judged ≡ Add → Sound (insert r o.key o)
  added_is_sound o sound formed (inl is) add = sound_added r secrets o sound formed (sym is ∙ add)
  added_is_sound o sound formed (inr refused) add = let wrong : Refuse E90 ≡ Add = sym refused
      ∙ add in cc

  pub changed_is_sound : (o : Obj) → Sound r → IsKeyValue o.key → IsJudged r secrets (Submit o)
      judged → judged ≡ Change → Sound (insert r o.key o)
  changed_is_sound o sound formed (inl is) change = sound_changed r secrets o sound formed
      (sym is ∙ change)
  changed_is_sound o sound formed (inr refused) change = let wrong : Refuse E90 ≡ Change =
      sym refused ∙ change in cc

  pub removed_is_sound : (k : Key) → Sound r → IsJudged r secrets (DeleteItem k) judged →
      judged ≡ Delete → Sound (remove r k)
  removed_is_sound k sound (inl is) delete = sound_removed r secrets k sound (sym is ∙ delete)
  removed_is_sound k sound (inr refused) delete = let wrong : Refuse E90 ≡ Delete = sym refused
      ∙ delete in cc

  -- what is carried out is the item's step
  pub judged_step : (i : Item) (outcome : Outcome) (then : Reg) → IsJudged r secrets i judged →
      IsCarriedOut r judged i outcome then → IsStep r secrets i outcome then
  judged_step i outcome then (inl is) done =
      subst (λ (v : Verdict). IsCarriedOut r v i outcome then) is done
  judged_step i outcome then (inr refused) (inl done) =
      inr (record {
        outcome_is = done.outcome_is ∙ ap outcome_of refused;
        effect = done.effect
            ∙ ap (λ v. after v r i) refused;
      })
  judged_step i outcome then (inr refused) (inr out) = inr out

pub ruleset carried_out = (
  added_is_sound,
  changed_is_sound,
  removed_is_sound,
  judged_is_met,
  judged_step,
)
