-- What is known of a registry, as one of its objects changes.
use Rattle.std.proofs.Common.{◌≡◌, cond, ap, subst, sym, ◌∙◌}
use Rattle.std.specs.Prelude.{None, Some}
use Rattle.std.specs.FinMap.{get, insert, remove, get-insert, get-remove}
use Rattle.std.specs.Ordering.{eq_by_cmp}
use Rattle.rr_object.proofs.KeyLaws.{keys_total}
use Rattle.rr_object.specs.declared.key.Key.{Key}
use Rattle.rr_object.specs.KeyOrders.{key_cmp}
use Rattle.rr_object.specs.Objects.{Obj}
use Rattle.rr_auth.specs.declared.known.Known.{Known}
use Rattle.rr_auth.specs.Known.{IsKnown, IsSameBut}
use Rattle.rr_auth.specs.Registries.{Reg, Sound}
use Rattle.rr_registry.specs.Private.{IsKeptRegistry}

module _ (r s : Reg) (k : Key) (old new : Known) (was : IsKeptRegistry r old)
    (forgets : (before after : Reg) → IsSameBut k before after → IsKnown before old →
    IsKnown after new) where
  -- nothing changes
  pub kept_still : s ≡ r → IsKeptRegistry s new
  kept_still is = record {
    sound = subst Sound (sym is) was.sound;
    remembered = forgets r s (λ l apart. ap (λ (t : Reg). get t l) is) was.remembered;
  }

  -- an object is put under its key
  pub kept_put : (o : Obj) → k ≡ o.key → s ≡ insert r o.key o → Sound (insert r o.key o) →
      IsKeptRegistry s new
  kept_put o own is sound = record {
    sound = subst Sound (sym is) sound;
    remembered = forgets r s
        (λ l apart. ap (λ (t : Reg). get t l) is ∙ get-insert keys_total r o.key o l
        ∙ ap (λ b. cond b (Some o) (get r l)) (ap (λ m. eq_by_cmp key_cmp l m) (sym own) ∙ apart))
        was.remembered;
  }

  -- the object of the key is taken out
  pub kept_without : s ≡ remove r k → Sound (remove r k) → IsKeptRegistry s new
  kept_without is sound = record {
    sound = subst Sound (sym is) sound;
    remembered = forgets r s
        (λ l apart. ap (λ (t : Reg). get t l) is ∙ get-remove keys_total r k l
        ∙ ap (λ b. cond b None (get r l)) apart) was.remembered;
  }
