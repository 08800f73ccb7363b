-- The spans that a map holds: which is closest, and what the lists of them have.
use Rattle.std.proofs.Common.{◌≡◌, ◌≤◌, ◌&&◌, ◌||◌, Bool, true, false, cond, List, [], ◌∷◌, map}
use Rattle.std.proofs.Common.{Some, is_some, refl, sym, ap, ◌∙◌, arith}
use Rattle.std.proofs.lemmas.Bool.Decides.{nat_tests}
use Rattle.std.proofs.lemmas.List.Kept.{IsStrictlySortedBy-filter}
use Rattle.std.proofs.lemmas.Map.Views.{Contains-from_any, list_any-from_Contains}
use Rattle.std.specs.Cmp.{eq_by_cmp_equiv}
use Rattle.std.specs.List.{filter, list_any, Contains, AllByRecursion}
use Rattle.std.specs.List.Sorted.{IsStrictlySortedBy}
use Rattle.std.specs.Ordering.{eq_by_cmp, is_lt}
use Rattle.std.specs.declared.cmp.Ordering.TheVariants.{Less}
use Rattle.std.specs.FinMap.{get, contains_key, keys, entries, entries_sorted, is_sorted}
use Rattle.std.specs.FinMap.{contains_key-keys}
use Rattle.std.specs.FinMap.Entries.{below_all}
use Rattle.std.proofs.Math.Dec as B
use Rattle.rr_number.specs.Spans.{Ends, IsSpan, covers, crosses, size, span_cmp}
use Rattle.rr_number.proofs.SpanOrder.{span_cmp_total}
use Rattle.rr_cover.specs.SpanMaps.{SpanMap}
use Rattle.rr_cover.specs.SpanMapLaws.{ClosestIsOne, CoveringIsWhole, ListsRise}
use Rattle.rr_cover.proofs.Ties.{tied_same, is_less, and_first, and_second}

-- two covers of a span that do not cross and are equally large are equal
same_cover : (s t u : Ends) → IsSpan s → covers t s ≡ true → covers u s ≡ true → crosses t u
    ≡ false → size t ≡ size u → t ≡ u
same_cover s t u is over_t over_u apart same =
    let some : s.first ≤ s.last = is.ordered in
    let first : t.first ≡ u.first = grind (arith, nat_tests) in
    let last : t.last ≡ u.last = grind (arith, nat_tests) in
    λ i. record { first = first i; last = last i }

some_same : {T : Type 0} {x y : T} → Some x ≡ Some y → x ≡ y
some_same e = cc

pub closest_is_one : {T : Type 0} → ClosestIsOne T
closest_is_one m s t u v w apart is at_t at_u =
    let held_t : contains_key m t ≡ true = ap is_some at_t.held in
    let held_u : contains_key m u ≡ true = ap is_some at_u.held in
    let below = at_t.least u held_u at_u.above in
    let above = at_u.least t held_t at_t.above in
    let sizes : size t ≡ size u = omega (arith, below, above) in
    let same = same_cover s t u is at_t.above at_u.above (apart.apart t u held_t held_u) sizes in
    (same, some_same (sym at_t.held ∙ ap (get m) same ∙ at_u.held))

kept_case : (p : Ends → Bool) (t k : Ends) (ks : List Ends) (a b : Bool) → p k ≡ a →
    eq_by_cmp span_cmp t k ≡ b → list_any (eq_by_cmp span_cmp t) (filter p ks)
    ≡ (list_any (eq_by_cmp span_cmp t) ks && p t) → list_any (eq_by_cmp span_cmp t)
    (cond a (k ∷ filter p ks) (filter p ks)) ≡ ((b || list_any (eq_by_cmp span_cmp t) ks) && p t)
kept_case p t k ks true true passes tied rest =
    ap (λ x. x || list_any (eq_by_cmp span_cmp t) (filter p ks)) tied
    ∙ sym (ap p (tied_same t k tied) ∙ passes)
kept_case p t k ks true false passes tied rest =
    ap (λ x. x || list_any (eq_by_cmp span_cmp t) (filter p ks)) tied ∙ rest
kept_case p t k ks false true passes tied rest =
    rest ∙ ap (λ x. list_any (eq_by_cmp span_cmp t) ks && x) fails ∙ none_passes
    (list_any (eq_by_cmp span_cmp t) ks) ∙ sym fails
  where
    fails : p t ≡ false
    fails = ap p (tied_same t k tied) ∙ passes

    none_passes : (b : Bool) → (b && false) ≡ false
    none_passes true = refl
    none_passes false = refl
kept_case p t k ks false false passes tied rest = rest

-- a span is among those that pass exactly where it is in the list and passes
pub any_filter : (p : Ends → Bool) (ks : List Ends) (t : Ends) → list_any (eq_by_cmp span_cmp t)
    (filter p ks) ≡ (list_any (eq_by_cmp span_cmp t) ks && p t)
any_filter p [] t = refl
any_filter p (k ∷ ks) t = kept_case p t k ks (p k) (eq_by_cmp span_cmp t k) refl refl
    (any_filter p ks t)

both_true : (a b : Bool) → (a && b) ≡ true → (a ≡ true) × (b ≡ true)
both_true true b e = (refl, e)
both_true false b e = (e, absurd (never e))
  where
    never : false ≡ true → ⊥
    never e = cc

module _ {T : Type 0} (m : SpanMap T) (p : Ends → Bool) (t : Ends) where
  pub listed_passes : Contains (filter p (keys m)) t → (contains_key m t ≡ true) × (p t ≡ true)
  listed_passes has =
      let any = list_any-from_Contains (eq_by_cmp_equiv span_cmp_total) t (filter p (keys m)) has in
      let parts = both_true _ _ (sym (any_filter p (keys m) t) ∙ any) in
      (contains_key-keys m t ∙ parts.0, parts.1)

  pub passes_listed : (contains_key m t ≡ true) × (p t ≡ true) → Contains (filter p (keys m)) t
  passes_listed is =
      Contains-from_any tied_same t (filter p (keys m))
      (any_filter p (keys m) t ∙ ap (λ b. b && p t) (sym (contains_key-keys m t) ∙ is.0) ∙ is.1)

pub covering_is_whole : {T : Type 0} → CoveringIsWhole T
covering_is_whole m s t = (listed_passes m (λ u. covers u s) t, passes_listed m (λ u. covers u s) t)

module _ {T : Type 0} where
  below_rise : (x : Ends) (es : List (Ends × T)) → B.T (below_all span_cmp x es) →
      AllByRecursion (λ y. span_cmp x y ≡ Less) (map (λ e. e.0) es)
  below_rise x [] h = tt
  below_rise x (e ∷ es) h = (
    is_less (span_cmp x e.0) (and_first _ _ h),
    below_rise x es (and_second (is_lt (span_cmp x e.0)) _ h),
  )

  entries_rise : (es : List (Ends × T)) → B.T (is_sorted span_cmp es) → IsStrictlySortedBy span_cmp
      (map (λ e. e.0) es)
  unfolding IsStrictlySortedBy
  entries_rise [] h = tt
  entries_rise (e ∷ es) h = (
    below_rise e.0 es (and_first _ _ h),
    entries_rise es (and_second (below_all span_cmp e.0 es) _ h),
  )

  pub keys_rise : (m : SpanMap T) (p : Ends → Bool) → IsStrictlySortedBy span_cmp
      (filter p (keys m))
  keys_rise m p = IsStrictlySortedBy-filter span_cmp p (keys m)
      (entries_rise (entries m) (entries_sorted m))

pub lists_rise : {T : Type 0} → ListsRise T
lists_rise m s = keys_rise m (λ u. covers u s)
