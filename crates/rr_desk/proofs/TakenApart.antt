-- No two objects of a list that is taken have one key.
use Rattle.std.proofs.Common.{◌≡◌, ◌≢◌, ℕ, ◌+◌, Bool, true, false, ◌||◌, List, [], ◌∷◌, ◌++◌, refl}
use Rattle.std.proofs.Common.{sym, ap, ◌∙◌}
use Rattle.std.specs.Prelude.{Option, None, Some, if◌then◌else◌}
use Rattle.std.specs.List.{AllByRecursion}
use Rattle.std.specs.Option.{option_or}
use Rattle.std.specs.Ordering.{eq_by_cmp}
use Rattle.std.specs.FinMap.{empty}
use Rattle.std.proofs.lemmas.Bool.{true≢false}
use Rattle.std.proofs.lemmas.List.Folds.{list_any-append}
use Rattle.sqlite_trees.proofs.ListLemmas.{all_weaker}
use Rattle.rr_object.specs.declared.key.Key.{Key}
use Rattle.rr_object.specs.KeyOrders.{key_cmp}
use Rattle.rr_object.specs.Objects.{Obj}
use Rattle.rr_auth.specs.Registries.{Reg, is_crossed_by_some}
use Rattle.rr_object.proofs.KeyLaws.{tied_key}
use Rattle.rr_registry.specs.declared.load.LoadFault.{LoadFault}
use Rattle.rr_registry.specs.declared.load.LoadFault.TheVariants.{Duplicate, Overlap}
use Rattle.rr_registry.specs.Loading.{IsTaken, clash, clash_of, gathered}
use Rattle.rr_registry.specs.Loading.{is_key_of_some, unnamed}
use Rattle.rr_store.specs.Maps.{AreApart}

first_none : {X : Type 0} (a b : Option X) → option_or a b ≡ None → a ≡ None
first_none None b e = refl
first_none (Some x) b e = e

second_none : {X : Type 0} (a b : Option X) → option_or a b ≡ None → b ≡ None
second_none None b e = e
second_none (Some x) b e = absurd (cc)

key_free : (here crossed : Bool) (n : ℕ) → ◌≡◌ {A = Option LoadFault}
    (if here then Some (Duplicate n) else (if crossed then Some (Overlap n) else None)) None →
    here ≡ false
key_free true crossed n e = absurd (cc)
key_free false crossed n e = refl

left_false : (a b : Bool) → (a || b) ≡ false → a ≡ false
left_false true b e = e
left_false false b e = refl

-- the key of no object of a list without a clash stands before it
keys_free : (before os : List Obj) (n : ℕ) → clash before n os ≡ None →
    AllByRecursion (λ o. is_key_of_some o.key before ≡ false) os
keys_free before [] n none = tt
keys_free before (o ∷ os) n none =
    let rest = keys_free (before ++ o ∷ []) os (n + 1)
    (second_none (clash_of before n o) (clash (before ++ o ∷ []) (n + 1) os) none) in (
      key_free (is_key_of_some o.key before) (is_crossed_by_some o.key before) n
          (first_none (clash_of before n o) (clash (before ++ o ∷ []) (n + 1) os) none),
      all_weaker (λ x. is_key_of_some x.key (before ++ o ∷ []) ≡ false)
          (λ x. is_key_of_some x.key before ≡ false)
          (λ x free.
          left_false _ _
          (sym (list_any-append (λ y. eq_by_cmp key_cmp x.key y.key) before (o ∷ [])) ∙ free)) os
          rest,
    )

-- the last of the objects before it has another key
last_free : (before : List Obj) (o : Obj) (k : Key) → is_key_of_some k (before ++ o ∷ []) ≡ false →
    o.key ≢ k
last_free [] o k free same =
    true≢false
    (sym (ap (λ l. eq_by_cmp key_cmp k l || false) same ∙ ap (λ b. b || false) (tied_key k)) ∙ free)
last_free (x ∷ before) o k free same = last_free before o k
    (right_false (eq_by_cmp key_cmp k x.key) _ free) same
  where
    right_false : (a b : Bool) → (a || b) ≡ false → b ≡ false
    right_false true b e = absurd (true≢false e)
    right_false false b e = e

unclashed_apart : (before os : List Obj) (n : ℕ) → clash before n os ≡ None → AreApart os
unclashed_apart before [] n none = tt
unclashed_apart before (o ∷ os) n none =
    let later = second_none (clash_of before n o) (clash (before ++ o ∷ []) (n + 1) os) none in (
      all_weaker (λ x. is_key_of_some x.key (before ++ o ∷ []) ≡ false) (λ x. o.key ≢ x.key)
          (λ x free. last_free before o x.key free) os (keys_free (before ++ o ∷ []) os (n + 1)
          later),
      unclashed_apart (before ++ o ∷ []) os (n + 1) later,
    )

-- no two objects of a list that is taken have one key
pub taken_apart : (os : List Obj) (r : Reg) → IsTaken os r → AreApart os
taken_apart os r taken = unclashed_apart [] os 1
    (first_none (clash [] 1 os) (unnamed (gathered empty os) os) taken.faultless)
