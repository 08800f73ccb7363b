-- A map of spans by what stands at each span, and lists of spans in order by what is in them.
use Rattle.std.proofs.Common.{◌≡◌, Bool, true, false, cond, ◌&&◌, ◌||◌, List, [], ◌∷◌, map, Option}
use Rattle.std.proofs.Common.{Some, None, is_some, refl, sym, ap, subst, ◌∙◌, arith}
use Rattle.std.specs.declared.cmp.Ordering.{Ordering}
use Rattle.std.specs.declared.cmp.Ordering.TheVariants.{Less}
use Rattle.std.proofs.lemmas.Bool.Decides.{nat_tests}
use Rattle.std.proofs.lemmas.List.Kept.{Contains-dedup, Contains-from_dedup}
use Rattle.std.proofs.lemmas.List.Sorted.{Contains-permutation, IsPermutation-sym}
use Rattle.std.proofs.lemmas.Map.Views.{Contains-from_any, list_any-from_Contains}
use Rattle.std.specs.Cmp.{IsEquivalence, eq_by_cmp_equiv}
use Rattle.std.specs.FinMap.{get, contains_key, keys, insert, remove, is_sorted, get-insert}
use Rattle.std.specs.FinMap.{get-remove, contains_key-keys, same_map}
use Rattle.std.specs.FinMap.Entries.{below_all, same_entries, is_some-find}
use Rattle.std.specs.List.{Contains, dedup, filter, list_any, AllByRecursion}
use Rattle.std.specs.List.Sorted.{IsPermutation, IsStrictlySortedBy}
use Rattle.std.specs.Ordering.{eq_by_cmp, is_lt}
use Rattle.std.proofs.Math.Dec as B
use Rattle.rr_number.specs.Spans.{Ends, crosses, span_cmp}
use Rattle.rr_number.proofs.SpanOrder.{span_cmp_total, span_cmp-IsAntisymmetric}
use Rattle.rr_number.specs.contracts.span.SpanPartialEq.TheImpl as derived
use Rattle.rr_cover.specs.SpanMaps.{SpanMap, crosses_some}
use Rattle.rr_cover.proofs.Ties.{tied_same, same_tied, contradicted}
use Rattle.rr_cover.proofs.Held.{any_filter, keys_rise}

first_none : (a b : Bool) → (a || b) ≡ false → a ≡ false
first_none true b e = e
first_none false b e = refl

second_none : (a b : Bool) → (a || b) ≡ false → b ≡ false
second_none true b e = absurd (contradicted true e refl)
second_none false b e = e

pub crosses_itself : (s : Ends) → crosses s s ≡ false
crosses_itself s = grind (arith, nat_tests)

pub crosses_swapped : (s t : Ends) → crosses s t ≡ crosses t s
crosses_swapped s t = grind (arith, nat_tests)

tied_passes : (p : Ends → Bool) (t k : Ends) (ks : List Ends) (b : Bool) → eq_by_cmp span_cmp t k
    ≡ b → (list_any (eq_by_cmp span_cmp t) ks ≡ true → p t ≡ false) →
    (b || list_any (eq_by_cmp span_cmp t) ks) ≡ true → p k ≡ false → p t ≡ false
tied_passes p t k ks true is rest any none = ap p (tied_same t k is) ∙ none
tied_passes p t k ks false is rest any none = rest any

-- what no span of a list passes, a span that ties with one of them does not pass
any_passes : (p : Ends → Bool) (ks : List Ends) (t : Ends) → list_any (eq_by_cmp span_cmp t) ks
    ≡ true → list_any p ks ≡ false → p t ≡ false
any_passes p [] t tied none = absurd (contradicted false refl tied)
any_passes p (k ∷ ks) t tied none =
    tied_passes p t k ks (eq_by_cmp span_cmp t k) refl
    (λ any. any_passes p ks t any (second_none (p k) (list_any p ks) none)) tied
    (first_none (p k) (list_any p ks) none)

any_none : (p : Ends → Bool) (ks : List Ends) →
    ((t : Ends) → list_any (eq_by_cmp span_cmp t) ks ≡ true → p t ≡ false) → list_any p ks ≡ false
any_none p [] none = refl
any_none p (k ∷ ks) none =
    ap (λ b. b || list_any p ks)
    (none k (ap (λ b. b || list_any (eq_by_cmp span_cmp k) ks) (same_tied k k refl)))
    ∙ any_none p ks
    (λ t any. none t (after (eq_by_cmp span_cmp t k) (list_any (eq_by_cmp span_cmp t) ks) any))
  where
    after : (a b : Bool) → b ≡ true → (a || b) ≡ true
    after true b e = refl
    after false b e = e

module _ {T : Type 0} where
  -- what stands at each span of a map
  pub record Answers (m : SpanMap T) (looked : Ends → Option T) : Type 0 where
    pub all : (s : Ends) → get m s ≡ looked s

  pub map_inserted : (m n : SpanMap T) (old new : Ends → Option T) (k : Ends) (v : T) →
      Answers m old → Answers n new → ((s : Ends) → new s ≡ cond (eq_by_cmp span_cmp s k) (Some v)
      (old s)) → n ≡ insert m k v
  map_inserted m n old new k v is_m is_n changed =
      same_map span_cmp_total span_cmp-IsAntisymmetric n (insert m k v) (λ q.
      is_n.all q ∙ changed q ∙ ap (cond (eq_by_cmp span_cmp q k) (Some v)) (sym (is_m.all q))
      ∙ sym (get-insert span_cmp_total m k v q))

  pub map_removed : (m n : SpanMap T) (old new : Ends → Option T) (k : Ends) → Answers m old →
      Answers n new → ((s : Ends) → new s ≡ cond (eq_by_cmp span_cmp s k) None (old s)) →
      n ≡ remove m k
  map_removed m n old new k is_m is_n changed =
      same_map span_cmp_total span_cmp-IsAntisymmetric n (remove m k) (λ q.
      is_n.all q ∙ changed q ∙ ap (cond (eq_by_cmp span_cmp q k) None) (sym (is_m.all q))
      ∙ sym (get-remove span_cmp_total m k q))

  pub held_in : (m : SpanMap T) (looked : Ends → Option T) → Answers m looked → (s : Ends) →
      contains_key m s ≡ is_some (looked s)
  held_in m looked is s = ap is_some (is.all s)

  -- a span that crosses no span of the map crosses none that is held
  pub crosses_none : (m : SpanMap T) (s t : Ends) → crosses_some m s ≡ false → contains_key m t
      ≡ true → crosses t s ≡ false
  crosses_none m s t none held = any_passes (λ u. crosses u s) (keys m) t
      (sym (contains_key-keys m t) ∙ held) none

  pub crosses_found : (m : SpanMap T) (s t : Ends) → contains_key m t ≡ true → crosses t s ≡ true →
      crosses_some m s ≡ true
  crosses_found m s t held crossing = case (crosses_some m s) refl
    where
      case : (b : Bool) → crosses_some m s ≡ b → b ≡ true
      case true is = refl
      case false is =
          absurd (contradicted _ (crosses_none m s t is held) crossing)

  pub crosses_missed : (m : SpanMap T) (s : Ends) → ((t : Ends) → contains_key m t ≡ true →
      crosses t s ≡ false) → crosses_some m s ≡ false
  crosses_missed m s none = any_none (λ u. crosses u s) (keys m)
      (λ t any. none t (contains_key-keys m t ∙ any))

-- spans with nothing beside them
abbrev marked : List Ends → List (Ends × Unit {0})
marked = map (λ k. (k, tt))

marked_keys : (xs : List Ends) → map (λ e. e.0) (marked xs) ≡ xs
marked_keys [] = refl
marked_keys (x ∷ xs) = ap (λ rest. x ∷ rest) (marked_keys xs)

less_true : (r : Ordering) → r ≡ Less → B.T (is_lt r)
less_true r e = subst (λ o. B.T (is_lt o)) (sym e) tt

both : (a b : Bool) → B.T a → B.T b → B.T (a && b)
both true b x y = y
both false b x y = absurd x

marked_below : (x : Ends) (xs : List Ends) → AllByRecursion (λ y. span_cmp x y ≡ Less) xs →
    B.T (below_all span_cmp x (marked xs))
marked_below x [] h = tt
marked_below x (y ∷ xs) h = both _ _ (less_true _ h.0) (marked_below x xs h.1)

marked_sorted : (xs : List Ends) → IsStrictlySortedBy span_cmp xs →
    B.T (is_sorted span_cmp (marked xs))
unfolding IsStrictlySortedBy
marked_sorted [] h = tt
marked_sorted (x ∷ xs) h = both _ _ (marked_below x xs h.0) (marked_sorted xs h.1)

same_mark : (a b : Option (Unit {0})) → is_some a ≡ is_some b → a ≡ b
same_mark None None e = refl
same_mark None (Some y) e = absurd (contradicted false refl e)
same_mark (Some x) None e = absurd (contradicted true e refl)
same_mark (Some x) (Some y) e = refl

-- two lists in order with the same spans are one
pub same_spans : (xs ys : List Ends) → IsStrictlySortedBy span_cmp xs → IsStrictlySortedBy span_cmp
    ys → ((u : Ends) → list_any (eq_by_cmp span_cmp u) xs ≡ list_any (eq_by_cmp span_cmp u) ys) →
    xs ≡ ys
same_spans xs ys rise_x rise_y same =
    sym (marked_keys xs)
    ∙ ap (map (λ (e : Ends × Unit {0}). e.0))
    (same_entries span_cmp span_cmp_total span_cmp-IsAntisymmetric (marked xs) (marked ys)
    (marked_sorted xs rise_x) (marked_sorted ys rise_y)
    (λ q. same_mark _ _ (is_some-find span_cmp q (marked xs)
    ∙ ap (list_any (eq_by_cmp span_cmp q)) (marked_keys xs) ∙ same q
    ∙ sym (is_some-find span_cmp q (marked ys) ∙ ap (list_any (eq_by_cmp span_cmp q))
    (marked_keys ys)))))
    ∙ marked_keys ys

-- a list in order of all spans of a map that pass a test is that of the map's
pub whole_list : {T : Type 0} (m : SpanMap T) (p : Ends → Bool) (xs : List Ends) →
    IsStrictlySortedBy span_cmp xs → ((u : Ends) → list_any (eq_by_cmp span_cmp u) xs
    ≡ (contains_key m u && p u)) → xs ≡ filter p (keys m)
whole_list m p xs rise all =
    same_spans xs (filter p (keys m)) rise (keys_rise m p)
    (λ u. all u ∙ ap (λ b. b && p u) (contains_key-keys m u) ∙ sym (any_filter p (keys m) u))

-- the derived equality of spans
abbrev pub span_eq : Ends → Ends → Bool
span_eq = (derived.ghosts).eq

pub span_eq_ties : (s t : Ends) → span_eq s t ≡ eq_by_cmp span_cmp s t
span_eq_ties s t = grind (arith, nat_tests)

same_bool : (a b : Bool) → (a ≡ true → b ≡ true) → (b ≡ true → a ≡ true) → a ≡ b
same_bool true b to from = sym (to refl)
same_bool false true to from = from refl
same_bool false false to from = refl

-- what a sort and then a removal of repeats leave has the same spans
pub sorted_kept : (xs ys zs : List Ends) → IsPermutation xs ys → zs ≡ dedup span_eq ys →
    (u : Ends) → list_any (eq_by_cmp span_cmp u) zs ≡ list_any (eq_by_cmp span_cmp u) xs
sorted_kept xs ys zs moved is u =
    let laws = eq_by_cmp_equiv span_cmp_total in
    same_bool _ _ (λ any.
    list_any-from_Contains laws u xs (Contains-permutation ys xs u (IsPermutation-sym xs ys moved)
    (Contains-from_dedup span_eq ys u (subst (λ (l : List Ends). Contains l u) is
    (Contains-from_any tied_same u zs any))))) (λ any.
    list_any-from_Contains laws u zs (subst (λ (l : List Ends). Contains l u) (sym is)
    (Contains-dedup eq_laws (λ s t e. tied_same s t (sym (span_eq_ties s t) ∙ e)) ys u
    (Contains-permutation xs ys u moved (Contains-from_any tied_same u xs any)))))
  where
    laws_of : IsEquivalence (eq_by_cmp span_cmp)
    laws_of = eq_by_cmp_equiv span_cmp_total

    eq_laws : IsEquivalence span_eq
    eq_laws = record {
      refl = λ s. span_eq_ties s s ∙ laws_of.refl s;
      symm = λ s t. span_eq_ties s t ∙ laws_of.symm s t ∙ sym (span_eq_ties t s);
      congr = λ s t v same. span_eq_ties s v ∙ laws_of.congr s t v (sym (span_eq_ties s t) ∙ same)
          ∙ sym (span_eq_ties t v);
    }
