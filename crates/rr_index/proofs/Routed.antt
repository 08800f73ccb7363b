-- What a pass over the objects says of the routes of a prefix.
use Rattle.std.proofs.Common.{◌≡◌, ℕ, Bool, true, false, cond, refl, sym, ap, subst, ◌∙◌}
use Rattle.std.specs.Prelude.{None, Some, is_some, ◌==◌}
use Rattle.std.specs.List.{list_any}
use Rattle.std.specs.FinMap.{contains_key, get, remove, values}
use Rattle.std.proofs.lemmas.Bool.{and_from, and_parts, eq-eqb, eqb-true, true≢false}
use Rattle.rr_number.specs.Prefixes.{PrefixParts}
use Rattle.rr_object.specs.declared.key.Key.{Key}
use Rattle.rr_object.specs.declared.key.Key.TheVariants.{AsBlock, AsSet, AutNum, Inetnum, Mntner}
use Rattle.rr_object.specs.declared.key.Key.TheVariants.{Route, RouteSet}
use Rattle.rr_auth.proofs.Members.{found_in, none_passes, passing_one, stands_at}
use Rattle.rr_auth.specs.Closest.{origin_at, same_prefix}
use Rattle.rr_auth.specs.Registries.{Reg, Sound}
use Rattle.rr_index.specs.Private.{IsTold}

pub same_parts : (p q : PrefixParts) → same_prefix p q ≡ true → p ≡ q
same_parts p q e =
    let parts = and_parts (p.address == q.address) (p.length == q.length) e in
    let one_address : p.address ≡ q.address = eqb-true p.address q.address parts.0 in
    let one_length : p.length ≡ q.length = eqb-true p.length q.length parts.1 in
    λ i. record { address = one_address i; length = one_length i }

pub itself : (p : PrefixParts) → same_prefix p p ≡ true
itself p = and_from _ _ (eq-eqb p.address p.address refl) (eq-eqb p.length p.length refl)

own_origin : (p : PrefixParts) (m : ℕ) → is_some (origin_at p (Route p m)) ≡ true
own_origin p m = ap (λ b. is_some (cond b (Some m) None)) (itself p)

origin_parts : (p : PrefixParts) (k : Key) → is_some (origin_at p k) ≡ true → (m : ℕ)
    × (k ≡ Route p m)
origin_parts p (Mntner n) e = cc
origin_parts p (AsBlock s) e = cc
origin_parts p (AutNum n) e = cc
origin_parts p (Inetnum s) e = cc
origin_parts p (Route q n) e =
    elim (same_prefix q p) as (λ b. same_prefix q p ≡ b → is_some (cond b (Some n) None) ≡ true →
    (m : ℕ) × (Route q n ≡ Route p m)) [
      | true ↦ λ same f. (n, ap (λ x. Route x n) (same_parts q p same))
      | false ↦ λ other f. cc
    ] refl e
origin_parts p (AsSet n) e = cc
origin_parts p (RouteSet n) e = cc

some_route : (r : Reg) (p : PrefixParts) → Sound r → list_any (λ o. is_some (origin_at p o.key))
    (values r) ≡ true → (m : ℕ) × (contains_key r (Route p m) ≡ true)
some_route r p sound some =
    let one = passing_one (λ o. is_some (origin_at p o.key)) (values r) some in
    let key = origin_parts p one.0.key one.1.1 in
    (key.0, ap is_some (ap (λ k. get r k) (sym key.1) ∙ stands_at r one.0 sound one.1.0))

no_route : (r : Reg) (p : PrefixParts) → Sound r → list_any (λ o. is_some (origin_at p o.key))
    (values r) ≡ false → (m : ℕ) → contains_key r (Route p m) ≡ false
no_route r p sound none m =
    elim (get r (Route p m)) as (λ v. get r (Route p m) ≡ v → is_some v ≡ false) [
      | None ↦ λ e. refl
      | Some o ↦ λ e.
          absurd
          (true≢false (sym (own_origin p m) ∙ ap (λ k. is_some (origin_at p k))
          (sym (sound.keyed (Route p m) o e))
          ∙ none_passes (λ x. is_some (origin_at p x.key)) o (values r) none
          (found_in r (Route p m) o e)))
    ] refl

told_by : (s : Reg) (p : PrefixParts) (n : ℕ) (r : Reg) (told : Bool) → Sound s →
    s ≡ remove r (Route p n) → told ≡ list_any (λ o. is_some (origin_at p o.key)) (values s) →
    IsTold r (Route p n) told
told_by s p n r true sound same is =
    let one = some_route s p sound (sym is) in
    (one.0, ap (λ m. contains_key m (Route p one.0)) (sym same) ∙ one.1)
told_by s p n r false sound same is = λ m. ap (λ x. contains_key x (Route p m)) (sym same)
    ∙ no_route s p sound (sym is) m

pub told_routed : (r s : Reg) (k : Key) (p : PrefixParts) (n : ℕ) (told : Bool) → Sound s →
    s ≡ remove r k → k ≡ Route p n
    → told ≡ list_any (λ o. is_some (origin_at p o.key)) (values s) → IsTold r k told
told_routed r s k p n told sound same is count =
    subst (λ (l : Key). IsTold r l told) (sym is)
    (told_by s p n r told sound (same ∙ ap (remove r) is) count)
