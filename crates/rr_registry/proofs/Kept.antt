-- An own item leaves the prefix held, whatever is decided about it.
use Rattle.std.proofs.Common.{◌≡◌, ℕ, true, false, cond, List, refl, sym, ap, ◌∙◌}
use Rattle.std.specs.Prelude.{None, Some, is_some}
use Rattle.std.specs.Ordering.{eq_by_cmp}
use Rattle.std.specs.FinMap.{get, insert, remove, get-insert, get-remove}
use Rattle.std.proofs.lemmas.Bool.{and_from, and_parts, eq-eqb, false_from_ne_true, not-true}
use Rattle.std.proofs.lemmas.Bool.{true≢false}
use Rattle.rr_object.specs.declared.key.Key.{Key}
use Rattle.rr_object.specs.declared.key.Key.TheVariants.{Mntner, AutNum, Inetnum, Route}
use Rattle.rr_object.specs.KeyOrders.{key_cmp}
use Rattle.rr_object.specs.Objects.{Obj}
use Rattle.rr_auth.specs.declared.item.Item.{Item}
use Rattle.rr_auth.specs.declared.item.Item.TheVariants.{Submit, Delete as DeleteItem}
use Rattle.rr_auth.specs.declared.verdict.Verdict.{Verdict}
use Rattle.rr_auth.specs.declared.verdict.Verdict.TheVariants.{Add, Change, Unchanged, Delete}
use Rattle.rr_auth.specs.declared.verdict.Verdict.TheVariants.{Refuse}
use Rattle.rr_auth.specs.Registries.{Reg}
use Rattle.rr_auth.specs.Verdicts.{after}
use Rattle.rr_auth.proofs.Keeping.{after_insert, still_there}
use Rattle.rr_object.proofs.KeyLaws.{keys_total, same_key}
use Rattle.rr_registry.specs.Holdings.{Holding, IsHeld, is_held, is_own, is_whole, is_within}
use Rattle.rr_registry.specs.Holdings.{names_holders, space_of}
use Rattle.rr_registry.proofs.Holders.{NamesHolders, names_theirs, said_theirs}

-- what stands under a key still does where another object is put
stays_with : (r : Reg) (k l : Key) (o : Obj) → is_some (get r l) ≡ true →
    is_some (get (insert r k o) l) ≡ true
stays_with r k l o e =
    ap is_some (get-insert keys_total r k o l)
    ∙ elim (eq_by_cmp key_cmp l k) as (λ b. is_some (cond b (Some o) (get r l)) ≡ true)
    [ true ↦ refl | false ↦ e ]

-- and where one under another key is taken away
stays_without : (r : Reg) (k l : Key) → (l ≡ k → ⊥) → is_some (get r l) ≡ true →
    is_some (get (remove r k) l) ≡ true
stays_without r k l other e =
    ap is_some (get-remove keys_total r k l)
    ∙ ap (λ b. is_some (cond b None (get r l))) (false_from_ne_true (eq_by_cmp key_cmp l k)
    (λ t. other (same_key l k t)))
    ∙ e

kept_insert : (h : Holding) (r : Reg) (k : Key) (o : Obj) → IsHeld h r → NamesHolders h o →
    IsHeld h (insert r k o)
kept_insert h r k o held names = record {
  registered = λ name e. stays_with r k (Mntner name) o (held.registered name e);
  space = stays_with r k (Inetnum (space_of h)) o held.space;
  origin = held.origin;
  routed = stays_with r k (Route h.prefix held.origin) o held.routed;
  numbered = λ n e. stays_with r k (AutNum n) o (held.numbered n e);
  theirs = λ l x e f.
      after_insert (λ m y. is_held h m ≡ true → names_holders h m y ≡ true) r k o
      (λ g. said_theirs h k o names) (λ m y g i. held.theirs m y i g) l x f e;
}

-- a key that is within the prefix and not of it whole is none of those that have to stay
module _ (h : Holding) (k : Key) (within : is_within h k ≡ true) (part : is_whole h k ≡ false) where
  no_mntner : (name : List ℕ) → Mntner name ≡ k → ⊥
  no_mntner name e = true≢false (sym within ∙ ap (is_within h) (sym e))

  no_number : (n : ℕ) → AutNum n ≡ k → ⊥
  no_number n e = true≢false (sym within ∙ ap (is_within h) (sym e))

  no_space : Inetnum (space_of h) ≡ k → ⊥
  no_space e =
      true≢false
      (sym (and_from _ _ (eq-eqb (space_of h).first (space_of h).first refl)
      (eq-eqb (space_of h).last (space_of h).last refl))
      ∙ ap (is_whole h) e ∙ part)

  no_route : (n : ℕ) → Route h.prefix n ≡ k → ⊥
  no_route n e =
      true≢false
      (sym (and_from _ _ (eq-eqb h.prefix.address h.prefix.address refl)
      (eq-eqb h.prefix.length h.prefix.length refl)) ∙ ap (is_whole h) e ∙ part)

  kept_remove : (r : Reg) → IsHeld h r → IsHeld h (remove r k)
  kept_remove r held = record {
    registered = λ name e. stays_without r k (Mntner name) (no_mntner name)
        (held.registered name e);
    space = stays_without r k (Inetnum (space_of h)) no_space held.space;
    origin = held.origin;
    routed = stays_without r k (Route h.prefix held.origin) (no_route held.origin) held.routed;
    numbered = λ n e. stays_without r k (AutNum n) (no_number n) (held.numbered n e);
    theirs = λ l x e f. held.theirs l x e (still_there r k l x f).1;
  }

-- what an own object names
own_names : (h : Holding) (o : Obj) → is_own h (Submit o) ≡ true → NamesHolders h o
own_names h o own = names_theirs h o (and_parts _ _ own).1

-- an own item leaves the prefix held
pub kept_after : (h : Holding) (r : Reg) (v : Verdict) (i : Item) → IsHeld h r → is_own h i
    ≡ true → IsHeld h (after v r i)
kept_after h r Add (Submit o) held own = kept_insert h r o.key o held (own_names h o own)
kept_after h r Change (Submit o) held own = kept_insert h r o.key o held (own_names h o own)
kept_after h r Unchanged (Submit o) held own = held
kept_after h r Delete (Submit o) held own = held
kept_after h r (Refuse code) (Submit o) held own = held
kept_after h r Add (DeleteItem k) held own = held
kept_after h r Change (DeleteItem k) held own = held
kept_after h r Unchanged (DeleteItem k) held own = held
kept_after h r Delete (DeleteItem k) held own = let parts = and_parts _ _ own in
    kept_remove h k parts.0 (not-true _ parts.1) r held
kept_after h r (Refuse code) (DeleteItem k) held own = held

-- and it leaves the mntners
maintainer_with : (r : Reg) (k : Key) (o : Obj) (name : List ℕ) → (Mntner name ≡ k → ⊥) →
    get (insert r k o) (Mntner name) ≡ get r (Mntner name)
maintainer_with r k o name other =
    get-insert keys_total r k o (Mntner name)
    ∙ ap (λ b. cond b (Some o) (get r (Mntner name)))
    (false_from_ne_true (eq_by_cmp key_cmp (Mntner name) k)
    (λ t. other (same_key (Mntner name) k t)))

maintainer_without : (r : Reg) (k : Key) (name : List ℕ) → (Mntner name ≡ k → ⊥) →
    get (remove r k) (Mntner name) ≡ get r (Mntner name)
maintainer_without r k name other =
    get-remove keys_total r k (Mntner name)
    ∙ ap (λ b. cond b None (get r (Mntner name)))
    (false_from_ne_true (eq_by_cmp key_cmp (Mntner name) k)
    (λ t. other (same_key (Mntner name) k t)))

within_no_mntner : (h : Holding) (k : Key) (name : List ℕ) → is_within h k ≡ true → Mntner name
    ≡ k → ⊥
within_no_mntner h k name within e = true≢false (sym within ∙ ap (is_within h) (sym e))

pub maintainer_after : (h : Holding) (r : Reg) (v : Verdict) (i : Item) (name : List ℕ) →
    is_own h i ≡ true → get (after v r i) (Mntner name) ≡ get r (Mntner name)
maintainer_after h r Add (Submit o) name own = maintainer_with r o.key o name
    (within_no_mntner h o.key name (and_parts _ _ own).0)
maintainer_after h r Change (Submit o) name own = maintainer_with r o.key o name
    (within_no_mntner h o.key name (and_parts _ _ own).0)
maintainer_after h r Unchanged (Submit o) name own = refl
maintainer_after h r Delete (Submit o) name own = refl
maintainer_after h r (Refuse code) (Submit o) name own = refl
maintainer_after h r Add (DeleteItem k) name own = refl
maintainer_after h r Change (DeleteItem k) name own = refl
maintainer_after h r Unchanged (DeleteItem k) name own = refl
maintainer_after h r Delete (DeleteItem k) name own = maintainer_without r k name
    (within_no_mntner h k name (and_parts _ _ own).0)
maintainer_after h r (Refuse code) (DeleteItem k) name own = refl
