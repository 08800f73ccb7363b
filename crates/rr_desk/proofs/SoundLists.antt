-- A list of the objects of a sound registry, no two of one key, is that registry, and nothing is
-- the matter with it.
use Rattle.std.proofs.Common.{◌≡◌, ◌≢◌, ℕ, ◌+◌, ◌≤◌, length, Bool, true, false, cond, not, List, []}
use Rattle.std.proofs.Common.{◌∷◌, ◌++◌, refl, sym, ap, subst, ◌∙◌, arith}
use Rattle.std.specs.Prelude.{Option, None, Some, position, if◌then◌else◌}
use Rattle.std.specs.List.{AllByRecursion, list_any, position_or_len}
use Rattle.std.specs.Option.{option_map}
use Rattle.std.specs.Ordering.{eq_by_cmp}
use Rattle.std.specs.FinMap.{empty, get, insert, get-insert}
use Rattle.std.proofs.lemmas.Bool.{le-ltb}
use Rattle.std.proofs.lemmas.List.Folds.{list_any-append}
use Rattle.sqlite_trees.specs.Tree.{IsAscending}
use Rattle.sqlite_trees.proofs.ListLemmas.{all_both, all_of, all_weaker}
use Rattle.rr_object.specs.declared.key.Key.{Key}
use Rattle.rr_object.specs.KeyOrders.{key_cmp}
use Rattle.rr_object.specs.Objects.{Obj, names_of}
use Rattle.rr_auth.specs.Registries.{Reg, Sound, keys_cross, some_is_unknown, is_crossed_by_some}
use Rattle.rr_object.proofs.KeyLaws.{keys_total, same_key, tied_key}
use Rattle.rr_registry.specs.declared.load.LoadFault.{LoadFault}
use Rattle.rr_registry.specs.declared.load.LoadFault.TheVariants.{Duplicate, Overlap, Unnamed}
use Rattle.rr_registry.specs.Loading.{clash, clash_of, gathered, is_key_of_some}
use Rattle.rr_registry.specs.Loading.{load_fault, unnamed}
use Rattle.rr_store.specs.Maps.{AreApart}

-- another key finds what it found before
other_key : (r : Reg) (x : Obj) (k : Key) → k ≢ x.key → get (insert r x.key x) k ≡ get r k
other_key r x k apart =
    get-insert keys_total r x.key x k
    ∙ (elim (eq_by_cmp key_cmp k x.key) as (λ b. eq_by_cmp key_cmp k x.key ≡ b →
    cond b (Some x) (get r k) ≡ get r k)
    [ true ↦ λ t. absurd (apart (same_key k x.key t)) | false ↦ λ t. refl ] refl)

kept : (r : Reg) (os : List Obj) (k : Key) → AllByRecursion (λ x. k ≢ x.key) os →
    get (gathered r os) k ≡ get r k
kept r [] k all = refl
kept r (x ∷ os) k all = kept (insert r x.key x) os k all.1 ∙ other_key r x k all.0

-- each object of the list stands under its key
pub stands : (r : Reg) (os : List Obj) → AreApart os →
    AllByRecursion (λ o. get (gathered r os) o.key ≡ Some o) os
stands r [] apart = tt
stands r (o ∷ os) apart = (
  kept (insert r o.key o) os o.key apart.0 ∙ (get-insert keys_total r o.key o o.key
      ∙ ap (λ b. cond b (Some o) (get r o.key)) (tied_key o.key)),
  stands (insert r o.key o) os
      apart.1,
)

module _ (r : Reg) (sound : Sound r) where
  -- no two of them cross
  uncrossed : (os : List Obj) → AllByRecursion (λ o. get r o.key ≡ Some o) os →
      IsAscending (λ a b. keys_cross a.key b.key ≡ false) os
  uncrossed [] all = tt
  uncrossed (o ∷ os) all = (
    all_weaker (λ x. get r x.key ≡ Some x) (λ x. keys_cross o.key x.key ≡ false)
        (λ x there. sound.apart o.key x.key o x all.0 there) os all.1,
    uncrossed os all.1,
  )

  known : (os : List Obj) → AllByRecursion (λ o. get r o.key ≡ Some o) os →
      AllByRecursion (λ o. some_is_unknown r (names_of o) ≡ false) os
  known os all = all_weaker (λ x. get r x.key ≡ Some x) (λ x. some_is_unknown r (names_of x)
      ≡ false) (λ x there. sound.named x.key x there) os all

-- where no object passes a test, there is no place of one
past_all : (p : Obj → Bool) (os : List Obj) → AllByRecursion (λ o. p o ≡ false) os →
    length os ≤ position_or_len p os
past_all p [] all = omega arith
past_all p (o ∷ os) all =
    let rest = past_all p os all.1 in
    let this : position_or_len p (o ∷ os) ≡ 1 + position_or_len p os =
    ap (λ b. cond (not b) (1 + position_or_len p os) 0) all.0 in
    omega arith

no_place : (p : Obj → Bool) (os : List Obj) → AllByRecursion (λ o. p o ≡ false) os → position p os
    ≡ None
no_place p os all = ap (λ b. cond b (Some (position_or_len p os)) None)
    (le-ltb (position_or_len p os) (length os) (past_all p os all))

all_known : (r : Reg) (os : List Obj) → AllByRecursion (λ o. some_is_unknown r (names_of o)
    ≡ false) os → unnamed r os ≡ None
all_known r os all = ap (option_map (λ i. Unnamed (i + 1)))
    (no_place (λ o. some_is_unknown r (names_of o)) os all)

-- one more object, of another key, is no key of this
unequal : (k l : Key) → l ≢ k → eq_by_cmp key_cmp k l ≡ false
unequal k l apart =
    elim (eq_by_cmp key_cmp k l) as (λ b. eq_by_cmp key_cmp k l ≡ b → b ≡ false)
    [ true ↦ λ t. absurd (apart (sym (same_key k l t))) | false ↦ λ t. refl ] refl

one_more : (p : Obj → Bool) (before : List Obj) (o : Obj) → list_any p before ≡ false →
    p o ≡ false → list_any p (before ++ o ∷ []) ≡ false
one_more p before o none this = list_any-append p before (o ∷ []) ∙ rw (none, this) refl

no_fault : (here crossed : Bool) (n : ℕ) → here ≡ false → crossed ≡ false →
    ◌≡◌ {A = Option LoadFault}
    (if here then Some (Duplicate n) else (if crossed then Some (Overlap n) else None)) None
no_fault here crossed n h c = rw (h, c) refl

unclashed : (before os : List Obj) (n : ℕ) →
    AllByRecursion (λ o. is_key_of_some o.key before ≡ false) os →
    AllByRecursion (λ o. is_crossed_by_some o.key before ≡ false) os
    → AreApart os → IsAscending (λ a b. keys_cross a.key b.key ≡ false) os → clash before n os
    ≡ None
unclashed before [] n free uncrossed apart clear = refl
unclashed before (o ∷ os) n free uncrossed apart clear =
    let this : clash_of before n o ≡ None = no_fault (is_key_of_some o.key before)
    (is_crossed_by_some o.key before) n free.0 uncrossed.0 in
    let rest = unclashed (before ++ o ∷ []) os (n + 1)
    (all_both (λ x. is_key_of_some x.key before ≡ false) (λ x. o.key ≢ x.key)
    (λ x. is_key_of_some x.key (before ++ o ∷ []) ≡ false)
    (λ x none other. one_more (λ y. eq_by_cmp key_cmp x.key y.key) before o none
    (unequal x.key o.key other)) os free.1 apart.0)
    (all_both (λ x. is_crossed_by_some x.key before ≡ false) (λ x. keys_cross o.key x.key ≡ false)
    (λ x. is_crossed_by_some x.key (before ++ o ∷ []) ≡ false)
    (λ x none other. one_more (λ y. keys_cross y.key x.key) before o none other) os uncrossed.1
    clear.0)
    apart.1 clear.1 in
    rw (this, rest) refl

-- so nothing is the matter with the list
pub sound_list : (os : List Obj) (r : Reg) → AreApart os → Sound r → gathered empty os ≡ r →
    load_fault os ≡ None
sound_list os r apart sound same =
    let there = subst (λ m. AllByRecursion (λ o. get m o.key ≡ Some o) os) same
    (stands empty os apart) in
    let clear = unclashed [] os 1 (all_of (λ o. is_key_of_some o.key [] ≡ false) (λ o. refl) os)
    (all_of (λ o. is_crossed_by_some o.key [] ≡ false) (λ o. refl) os) apart
    (uncrossed r sound os there) in
    let named : unnamed (gathered empty os) os ≡ None = ap (λ m. unnamed m os) same ∙ all_known r
    os (known r sound os there) in
    rw (clear, named) refl
