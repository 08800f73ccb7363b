-- What stands under some key of a registry is among its objects, and the other way round.
use Rattle.std.proofs.Common.{◌≡◌, T, Bool, true, false, cond, ◌&&◌, ◌||◌, ◌⊎◌, inl, inr, List, []}
use Rattle.std.proofs.Common.{◌∷◌, refl, sym, ap, ◌∙◌}
use Rattle.std.specs.Prelude.{Option, None, Some, map}
use Rattle.std.specs.List.{list_any, list_all, cons_option, find, filter_map}
use Rattle.std.specs.Option.{option_map_or}
use Rattle.std.specs.declared.cmp.Ordering.TheVariants.{Less, Equal, Greater}
use Rattle.std.specs.Ordering.{eq_by_cmp, is_eq, is_lt}
use Rattle.std.specs.FinMap.{get, entries, entries_sorted, values, get-entries, find as find_entry}
use Rattle.std.specs.FinMap.{is_sorted}
use Rattle.std.specs.FinMap.Entries.{below_all}
use Rattle.std.proofs.lemmas.Bool.{and_from, and_parts, or_from, or_left, or_parts, or_right}
use Rattle.rr_object.specs.declared.key.Key.{Key}
use Rattle.rr_object.specs.Objects.{Obj}
use Rattle.rr_object.specs.KeyOrders.{key_cmp}
use Rattle.rr_auth.specs.Elements.{IsIn}
use Rattle.rr_auth.specs.Registries.{Reg, Sound}
use Rattle.rr_object.proofs.KeyLaws.{same_key, tied_key}

pub both_or_none : (a b : Bool) → (a ≡ true → b ≡ true) → (b ≡ true → a ≡ true) → a ≡ b
both_or_none true b f g = sym (f refl)
both_or_none false true f g = g refl
both_or_none false false f g = refl

module _ {A : Type 0} where
  -- where no element passes a test, none of them does
  pub none_passes : (p : A → Bool) (x : A) (xs : List A) → list_any p xs ≡ false → IsIn x xs →
      p x ≡ false
  none_passes p x [] e i = absurd i
  none_passes p x (y ∷ ys) e (inl q) = ap p q ∙ (or_parts (p y) (list_any p ys) e).0
  none_passes p x (y ∷ ys) e (inr i) = none_passes p x ys (or_parts (p y) (list_any p ys) e).1 i

  -- where each element fails a test, none passes
  pub all_fail : (p : A → Bool) (xs : List A) → ((x : A) → IsIn x xs → p x ≡ false) → list_any p xs
      ≡ false
  all_fail p [] h = refl
  all_fail p (y ∷ ys) h = or_from _ _ (h y (inl refl)) (all_fail p ys (λ x i. h x (inr i)))

  -- an element that passes makes some pass
  pub some_passes : (p : A → Bool) (x : A) (xs : List A) → IsIn x xs → p x ≡ true → list_any p xs
      ≡ true
  some_passes p x [] i e = absurd i
  some_passes p x (y ∷ ys) (inl q) e = or_left (p y) _ (ap p (sym q) ∙ e)
  some_passes p x (y ∷ ys) (inr i) e = or_right (p y) _ (some_passes p x ys i e)

  -- where some passes, there is such an element
  pub passing_one : (p : A → Bool) (xs : List A) → list_any p xs ≡ true → (x : A)
      × (IsIn x xs × (p x ≡ true))
  passing_one p [] e = cc
  passing_one p (y ∷ ys) e =
      elim (p y) as (λ b. p y ≡ b → (b || list_any p ys) ≡ true → (x : A)
      × (IsIn x (y ∷ ys) × (p x ≡ true))) [
        | true ↦ λ h g. (y, (inl refl, h))
        | false ↦ λ h g. let rest = passing_one p ys g in (rest.0, (inr rest.1.0, rest.1.1))
      ] refl e

  -- where all pass, each element does
  pub each_passes : (p : A → Bool) (x : A) (xs : List A) → list_all p xs ≡ true → IsIn x xs →
      p x ≡ true
  each_passes p x [] e i = absurd i
  each_passes p x (y ∷ ys) e (inl q) = ap p q ∙ (and_parts (p y) (list_all p ys) e).0
  each_passes p x (y ∷ ys) e (inr i) = each_passes p x ys (and_parts (p y) (list_all p ys) e).1 i

  -- where each element passes, all do
  pub all_pass : (p : A → Bool) (xs : List A) → ((x : A) → IsIn x xs → p x ≡ true) → list_all p xs
      ≡ true
  all_pass p [] h = refl
  all_pass p (y ∷ ys) h = and_from _ _ (h y (inl refl)) (all_pass p ys (λ x i. h x (inr i)))

  -- tests that agree on each element agree on the list
  pub same_tests : (p q : A → Bool) (xs : List A) → ((x : A) → IsIn x xs → p x ≡ q x) →
      list_any p xs ≡ list_any q xs
  same_tests p q [] h = refl
  same_tests p q (y ∷ ys) h =
      let first = h y (inl refl) in
      let rest = same_tests p q ys (λ x i. h x (inr i)) in
      λ i. first i || rest i

  -- what is found passes, and is an element
  pub found_passes : (p : A → Bool) (x : A) (xs : List A) → find p xs ≡ Some x → (p x ≡ true)
      × IsIn x xs
  found_passes p x [] e = cc
  found_passes p x (y ∷ ys) e =
      elim (p y) as (λ b. p y ≡ b → cond b (Some y) (find p ys) ≡ Some x → (p x ≡ true)
      × IsIn x (y ∷ ys)) [
        | true ↦ λ h g. let same : x ≡ y = cc in (ap p same ∙ h, inl same)
        | false ↦ λ h g. let rest = found_passes p x ys g in (rest.0, inr rest.1)
      ] refl e

  -- where nothing is found, no element passes
  pub none_found : (p : A → Bool) (xs : List A) → find p xs ≡ None → list_any p xs ≡ false
  none_found p [] e = refl
  none_found p (y ∷ ys) e =
      elim (p y) as (λ b. cond b (Some y) (find p ys) ≡ None → (b || list_any p ys) ≡ false) [
        | true ↦ λ g. cc
        | false ↦ λ g. none_found p ys g
      ] e

  -- where a value that is there passes, it is there
  pub mapped_value : (p : A → Bool) (o : Option A) → option_map_or p o false ≡ true → (x : A)
      × ((o ≡ Some x) × (p x ≡ true))
  mapped_value p None e = cc
  mapped_value p (Some x) e = (x, (refl, e))

module _ {A B : Type 0} where
  -- some value of those that a list gives passes where some element gives one that does
  pub list_any-filter_map : (p : B → Bool) (f : A → Option B) (xs : List A) →
      list_any p (filter_map f xs) ≡ list_any (λ x. option_map_or p (f x) false) xs
  list_any-filter_map p f [] = refl
  list_any-filter_map p f (x ∷ xs) =
      elim (f x) as (λ v. list_any p (cons_option v (filter_map f xs))
      ≡ (option_map_or p v false || list_any (λ y. option_map_or p (f y) false) xs)) [
        | None ↦ list_any-filter_map p f xs
        | Some v ↦ ap (λ b. p v || b) (list_any-filter_map p f xs)
      ]

entry_in : (k : Key) (o : Obj) (es : List (Key × Obj)) → find_entry key_cmp k es ≡ Some o →
    IsIn o (map (λ e. e.1) es)
entry_in k o [] f = cc
entry_in k o (e ∷ es) f =
    elim (eq_by_cmp key_cmp k e.0) as (λ b. cond b (Some e.1) (find_entry key_cmp k es) ≡ Some o →
    (o ≡ e.1) ⊎ IsIn o (map (λ e. e.1) es)) [
      | true ↦ λ g. inl cc
      | false ↦ λ g. inr (entry_in k o es g)
    ] f

-- what stands under a key is among the objects
pub found_in : (r : Reg) (k : Key) (o : Obj) → get r k ≡ Some o → IsIn o (values r)
found_in r k o f = entry_in k o (entries r) (sym (get-entries r k) ∙ f)

and_first : (a b : Bool) → T (a && b) → T a
and_first true b h = tt
and_first false b h = h

and_second : (a b : Bool) → T (a && b) → T b
and_second true b h = h
and_second false b h = absurd h

-- nothing stands in a list under a key that is below all of its keys
below_missed : (k : Key) (es : List (Key × Obj)) → T (below_all key_cmp k es) →
    find_entry key_cmp k es ≡ None
below_missed k [] h = refl
below_missed k (e ∷ es) h =
    elim (key_cmp k e.0) as (λ o. T (is_lt o && below_all key_cmp k es) → cond (is_eq o) (Some e.1)
    (find_entry key_cmp k es) ≡ None) [
      | Less ↦ λ g. below_missed k es g
      | Equal ↦ λ g. absurd g
      | Greater ↦ λ g. absurd g
    ] h

-- what is found after the first entry is found in the whole list
found_after : (e : Key × Obj) (es : List (Key × Obj)) (k : Key) (o : Obj) →
    T (below_all key_cmp e.0 es) → find_entry key_cmp k es ≡ Some o
    → find_entry key_cmp k (e ∷ es) ≡ Some o
found_after e es k o below f =
    elim (eq_by_cmp key_cmp k e.0) as (λ b. eq_by_cmp key_cmp k e.0 ≡ b →
    cond b (Some e.1) (find_entry key_cmp k es) ≡ Some o) [
      | true ↦ λ t.
          let missed : find_entry key_cmp k es ≡ None = ap (λ l. find_entry key_cmp l es)
          (same_key k e.0 t) ∙ below_missed e.0 es below in
          cc
      | false ↦ λ t. f
    ] refl

entry_of : (o : Obj) (es : List (Key × Obj)) → T (is_sorted key_cmp es) →
    IsIn o (map (λ e. e.1) es) → (k : Key) × (find_entry key_cmp k es ≡ Some o)
entry_of o [] sorted i = absurd i
entry_of o (e ∷ es) sorted (inl same) = (
  e.0,
  ap (λ b. cond b (Some e.1) (find_entry key_cmp e.0 es)) (tied_key e.0) ∙ ap (λ x. Some x)
      (sym same),
)
entry_of o (e ∷ es) sorted (inr i) =
    let rest = entry_of o es (and_second (below_all key_cmp e.0 es) _ sorted) i in
    (rest.0, found_after e es rest.0 o (and_first (below_all key_cmp e.0 es) _ sorted) rest.1)

-- what is among the objects of a sound registry stands under its own key
pub stands_at : (r : Reg) (o : Obj) → Sound r → IsIn o (values r) → get r o.key ≡ Some o
stands_at r o s i =
    let entry = entry_of o (entries r) (entries_sorted r) i in
    let there : get r entry.0 ≡ Some o = get-entries r entry.0 ∙ entry.1 in
    ap (λ k. get r k) (s.keyed entry.0 o there) ∙ there
