-- What is known of the objects of a registry, as answers are put and forgotten and objects change.
use Rattle.std.proofs.Common.{◌≡◌, ℕ, Bool, true, false, cond, List, [], refl, sym, ap, subst, ◌∙◌}
use Rattle.std.specs.Prelude.{IfSome, Option, None, Some}
use Rattle.std.specs.BTreeMap.{BTreeMap, Updates, get as answer_at, is_at}
use Rattle.std.specs.declared.cmp.Ordering.{Ordering}
use Rattle.std.specs.FinMap.{get}
use Rattle.std.specs.List.{list_any}
use Rattle.std.specs.Map.{lookup}
use Rattle.std.specs.Option.{option_map_or}
use Rattle.std.specs.Ordering.{eq_by_cmp}
use Rattle.std.proofs.lemmas.Bool.{false_from_ne_true, true≢false}
use Rattle.rr_object.proofs.DerivedOrder.{derived_order}
use Rattle.rr_object.proofs.KeyLaws.{same_key, tied_key}
use Rattle.rr_object.specs.contracts.key.KeyOrd.TheImpl as derived
use Rattle.rr_object.specs.declared.key.Key.{Key}
use Rattle.rr_object.specs.declared.key.Key.TheVariants.{Mntner, AsBlock, AutNum, Inetnum, Route}
use Rattle.rr_object.specs.declared.key.Key.TheVariants.{AsSet, RouteSet}
use Rattle.rr_object.specs.KeyOrders.{key_cmp}
use Rattle.rr_object.specs.Objects.{Obj}
use Rattle.rr_auth.specs.declared.known.Known.{Known}
use Rattle.rr_auth.specs.Known.{AreSeen, IsKnown, IsSameBut, IsSeen}
use Rattle.rr_auth.specs.Passing.{names_pass, passes}
use Rattle.rr_auth.specs.Registries.{Reg}

abbrev Answers : Type 0
Answers = BTreeMap Key Bool

-- no answers hold anywhere
pub nothing_known : (r : Reg) (secrets : List (List ℕ)) (answers : Answers) → answers.entries
    ≡ [] → AreSeen r secrets answers
nothing_known r secrets answers none = λ k.
    subst (λ (es : List (Key × Bool)). IfSome (lookup (is_at (key_cmp k)) es) (IsSeen r secrets k))
    (sym none) tt

-- what the object that stands under a key answers is seen of that key
pub seen_of : (r : Reg) (secrets : List (List ℕ)) (k : Key) (stored : Obj) (answer : Bool) →
    get r k ≡ Some stored → answer ≡ names_pass r secrets stored.maintainers
    → IsSeen r secrets k answer
seen_of r secrets k stored answer stands told = λ o held.
    let both : Some stored ≡ Some o = sym stands ∙ held in
    let same : stored ≡ o = cc in
    told ∙ ap (λ (x : Obj). names_pass r secrets x.maintainers) same

-- the derived order of keys is their order
one_order : (derived.ghosts).cmp ≡ key_cmp
one_order = λ i a b. derived_order a b i

updated : (old new : Answers) (key : Key) (w : Option Bool) → Updates (derived.ghosts).cmp old new
    key w
    → (k : Key) → answer_at key_cmp new k ≡ cond (eq_by_cmp key_cmp key k) w
    (answer_at key_cmp old k)
updated old new key w update k =
    subst (λ (cmp : Key → Key → Ordering). answer_at cmp new k ≡ cond (is_at (cmp key) k) w
    (answer_at cmp old k)) one_order (update.0 k)

-- what is known of an object
pub answer_seen : (r : Reg) (known : Known) (secrets : List (List ℕ)) (key : Key)
    (found : Option Bool) → known.secrets.items ≡ secrets
    → found ≡ answer_at (derived.ghosts).cmp known.answers key → IsKnown r known →
    IfSome found (IsSeen r secrets key)
answer_seen r known secrets key found same is holds =
    subst (λ (s : List (List ℕ)). IfSome found (IsSeen r s key)) same
    (subst (λ (o : Option Bool). IfSome o (IsSeen r known.secrets.items key))
    (sym (is ∙ (λ i. answer_at (one_order i) known.answers key))) (holds key))

put_at : (r : Reg) (secrets : List (List ℕ)) (key k : Key) (answer b : Bool) (before : Option Bool)
    → (b ≡ true → key ≡ k) → IsSeen r secrets key answer
    → IfSome before (IsSeen r secrets k) → IfSome (cond b (Some answer) before) (IsSeen r secrets k)
put_at r secrets key k answer true before same seen were =
    subst (λ (l : Key). IsSeen r secrets l answer) (same refl) seen
put_at r secrets key k answer false before same seen were = were

-- one more answer
pub known_put : (r : Reg) (secrets : List (List ℕ)) (key : Key) (answer : Bool) (old new : Answers)
    → Updates (derived.ghosts).cmp old new key (Some answer)
    → IsSeen r secrets key answer → AreSeen r secrets old → AreSeen r secrets new
known_put r secrets key answer old new put seen were = λ k.
    subst (λ (o : Option Bool). IfSome o (IsSeen r secrets k))
    (sym (updated old new key (Some answer) put k))
    (put_at r secrets key k answer (eq_by_cmp key_cmp key k) (answer_at key_cmp old k)
    (same_key key k) seen (were k))

flipped : (k l : Key) → eq_by_cmp key_cmp k l ≡ false → eq_by_cmp key_cmp l k ≡ false
flipped k l e = false_from_ne_true _
    (λ t. true≢false (sym (tied_key k) ∙ ap (λ m. eq_by_cmp key_cmp k m) (sym (same_key l k t))
    ∙ e))

no_mntner : (k : Key) → ((n : List ℕ) → k ≡ Mntner n → ⊥) → (n : List ℕ) →
    eq_by_cmp key_cmp (Mntner n) k ≡ false
no_mntner (Mntner m) other n = absurd (other m refl)
no_mntner (AsBlock t) other n = refl
no_mntner (AutNum m) other n = refl
no_mntner (Inetnum t) other n = refl
no_mntner (Route p m) other n = refl
no_mntner (AsSet m) other n = refl
no_mntner (RouteSet m) other n = refl

module _ (k : Key) (before after : Reg) (same : IsSameBut k before after) (other : (n : List ℕ) →
    k ≡ Mntner n → ⊥) (secrets : List (List ℕ)) where
  same_names : (names : List (List ℕ)) → names_pass before secrets names ≡ names_pass after secrets
      names
  same_names names = λ i.
      list_any (λ n. option_map_or (passes secrets) (sym (same (Mntner n) (no_mntner k other n)) i)
      false) names

  taken_at : (l : Key) (b : Bool) (old : Option Bool) → (b ≡ false → eq_by_cmp key_cmp l k ≡ false)
      → IfSome old (IsSeen before secrets l) → IfSome (cond b None old) (IsSeen after secrets l)
  taken_at l true old apart were = tt
  taken_at l false None apart were = tt
  taken_at l false (Some answer) apart were = λ o held. were o (sym (same l (apart refl)) ∙ held)
      ∙ same_names o.maintainers

  -- what is known of the other objects stays known where an object that is no mntner changes
  pub known_of_others : (old new : Answers) → Updates (derived.ghosts).cmp old new k None →
      AreSeen before secrets old → AreSeen after secrets new
  known_of_others old new taken were = λ l.
      subst (λ (o : Option Bool). IfSome o (IsSeen after secrets l))
      (sym (updated old new k None taken l))
      (taken_at l (eq_by_cmp key_cmp k l) (answer_at key_cmp old l) (flipped k l) (were l))
