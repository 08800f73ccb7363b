-- The values of a finite map, as one is put in and taken out.
use Rattle.std.proofs.Common.{◌≡◌, Bool, true, false, cond, not, ◌&&◌, T, List, [], ◌∷◌, map, Some}
use Rattle.std.proofs.Common.{None, refl, sym, ap, subst, ◌∙◌, Ordering, Less, Equal, Greater}
use Rattle.std.proofs.Common.{IsPermutation}
use Rattle.std.specs.List.{AllByRecursion}
use Rattle.std.specs.Ordering.{eq_by_cmp, is_eq, is_lt}
use Rattle.std.specs.Cmp.{IsTotalOrder, Equal-is, tied_itself, eq_by_cmp_equiv}
use Rattle.std.specs.FinMap.{FinMap, IsAntisymmetric, get, insert, remove, values, entries}
use Rattle.std.specs.FinMap.{entries_sorted, entries-insert, get-entries, get-remove, is_sorted}
use Rattle.std.specs.FinMap.{find}
use Rattle.std.specs.FinMap.Entries.{below_all, by_order, find-where_key, is_sorted-where_key, put}
use Rattle.std.specs.FinMap.Entries.{same_entries, where_key}
use Rattle.std.proofs.lemmas.List.Sorted.{IsPermutation-refl, IsPermutation-cons}
use Rattle.std.proofs.lemmas.List.Sorted.{IsPermutation-trans, IsPermutation-middle}
use Rattle.sqlite_trees.proofs.ListLemmas.{IsPermutation-same}

pub first_part : (a b : Bool) → T (a && b) → T a
first_part true b h = tt
first_part false b h = absurd h

pub second_part : (a b : Bool) → T (a && b) → T b
second_part true b h = h
second_part false b h = absurd h

pub is_less : (o : Ordering) → T (is_lt o) → o ≡ Less
is_less Less h = refl
is_less Equal h = absurd h
is_less Greater h = absurd h

lesser : (o : Ordering) → o ≡ Less → T (is_lt o)
lesser o e = subst (λ r. T (is_lt r)) (sym e) tt

turned : {A : Type 0} (b : Bool) (x y : A) → cond (not b) x y ≡ cond b y x
turned true x y = refl
turned false x y = refl

module _ {K X : Type 0} {R : K → K → Ordering} (order : IsTotalOrder R) where
  -- what is below all stays so from an entry on
  below_less : (x y : K) (es : List (K × X)) → R x y ≡ Less → T (below_all R y es) →
      T (below_all R x es)
  below_less x y [] p h = tt
  below_less x y (e ∷ es) p h =
      let head = lesser _ (order.trans x y e.0 p (is_less _ (first_part _ _ h))) in
      let tail = below_less x y es p (second_part (is_lt (R y e.0)) _ h) in
      elim (is_lt (R x e.0)) as (λ b. T b → T (b && below_all R x es)) [
        | true ↦ λ _. tail
        | false ↦
            λ none. absurd none
      ] head

  below_tied : (x y : K) (es : List (K × X)) → R x y ≡ Equal → T (below_all R y es) →
      T (below_all R x es)
  below_tied x y [] p h = tt
  below_tied x y (e ∷ es) p h =
      let head = subst (λ r. T (is_lt r)) (sym (order.congr x y e.0 p)) (first_part _ _ h) in
      let tail = below_tied x y es p (second_part (is_lt (R y e.0)) _ h) in
      elim (is_lt (R x e.0)) as (λ b. T b → T (b && below_all R x es)) [
        | true ↦ λ _. tail
        | false ↦
            λ none. absurd none
      ] head

  abbrev others : K → List (K × X) → List (K × X)
  others k = where_key R (λ x. not (eq_by_cmp R k x))

  -- no entry above a key has it
  none_tied : (k : K) (es : List (K × X)) → T (below_all R k es) → others k es ≡ es
  none_tied k [] h = refl
  none_tied k (e ∷ es) h =
      let less = is_less _ (first_part _ _ h) in
      (λ i. cond (not (is_eq (less i))) (e ∷ others k es) (others k es)) ∙ ap (λ l. e ∷ l)
      (none_tied k es (second_part (is_lt (R k e.0)) _ h))

  none_found : (k : K) (es : List (K × X)) → T (below_all R k es) → find R k es ≡ None
  none_found k [] h = refl
  none_found k (e ∷ es) h =
      let less = is_less _ (first_part _ _ h) in
      (λ i. cond (is_eq (less i)) (Some e.1) (find R k es)) ∙ none_found k es
      (second_part (is_lt (R k e.0)) _ h)

  put_permutes : (k : K) (v : X) (es : List (K × X)) → T (is_sorted R es) →
      IsPermutation (v ∷ map (λ e. e.1) (others k es)) (map (λ e. e.1) (put R k v es))
  put_permutes k v [] h = IsPermutation-refl _
  put_permutes k v (e ∷ es) h =
      let above = first_part (below_all R e.0 es) _ h in
      let left = others k es in
      elim (R k e.0) as (λ r. R k e.0 ≡ r →
      IsPermutation (v ∷ map (λ x. x.1) (cond (not (is_eq r)) (e ∷ left) left))
      (map (λ x. x.1) (by_order r ((k, v) ∷ e ∷ es) ((e.0, v) ∷ es) (e ∷ put R k v es)))) [
        | Less ↦ λ p. IsPermutation-same _ _ (ap (λ l. v ∷ e.1 ∷ map (λ x. x.1) l)
            (none_tied k es (below_less k e.0 es p above)))
        | Equal ↦ λ p. IsPermutation-same _ _
            (ap (λ l. v ∷ map (λ x. x.1) l) (none_tied k es (below_tied k e.0 es p above)))
        | Greater ↦ λ p. IsPermutation-trans _ _ _
            (IsPermutation-middle (v ∷ []) e.1 (map (λ x. x.1) left))
            (IsPermutation-cons e.1 _ _
            (put_permutes k v es (second_part (below_all R e.0 es) _ h)))
      ] refl

  -- what holds of all that is found holds of each entry
  pub each_entry : (P : K → X → Type 0) (es : List (K × X)) → T (is_sorted R es) →
      ((k : K) (v : X) → find R k es ≡ Some v → P k v) → AllByRecursion (λ e. P e.0 e.1) es
  each_entry P [] h found = tt
  each_entry P (e ∷ es) h found =
      let above = first_part (below_all R e.0 es) _ h in (
        found e.0 e.1 (ap (λ r. cond (is_eq r) (Some e.1) (find R e.0 es)) (tied_itself order e.0)),
        each_entry P es (second_part (below_all R e.0 es) _ h) (λ k v is. found k v (
            elim (eq_by_cmp R k e.0) as (λ b. eq_by_cmp R k e.0 ≡ b → cond b (Some e.1)
            (find R k es) ≡ Some v) [
              | true ↦ λ t.
                  absurd
                  (let none = none_found k es (below_tied k e.0 es ((Equal-is (R k e.0)).0 t)
                  above) in cc)
              | false ↦ λ t. is
            ] refl)),
      )

  module _ (exact : IsAntisymmetric R) where
    -- the entries of a map without a key
    pub entries_without : (m : FinMap R X) (k : K) → entries (remove m k) ≡ others k (entries m)
    entries_without m k =
        same_entries R order exact _ _ (entries_sorted (remove m k))
        (is_sorted-where_key R _ (entries m) (entries_sorted m)) (λ q.
        sym (get-entries (remove m k) q) ∙ get-remove order m k q
        ∙ ap (cond (eq_by_cmp R q k) None) (get-entries m q)
        ∙ ap (λ b. cond b None (find R q (entries m))) ((eq_by_cmp_equiv order).symm q k)
        ∙ sym (turned (eq_by_cmp R k q) _ _)
        ∙ sym (find-where_key R (λ x. not (eq_by_cmp R k x)) q
        (λ x t. ap (λ y. not (eq_by_cmp R k y)) (sym (exact q x t))) (entries m)))

    -- a value that is put in stands before those of the other keys, but for the order
    pub values_with : (m : FinMap R X) (k : K) (v : X) → IsPermutation (v ∷ values (remove m k))
        (values (insert m k v))
    values_with m k v =
        subst (λ es. IsPermutation (v ∷ map (λ e. e.1) es) (values (insert m k v)))
        (sym (entries_without m k))
        (subst (λ es. IsPermutation (v ∷ map (λ e. e.1) (others k (entries m)))
        (map (λ e. e.1) es)) (sym (entries-insert order m k v))
        (put_permutes k v (entries m) (entries_sorted m)))

  -- nothing is taken out where the key is not found
  none_without : (k : K) (es : List (K × X)) → find R k es ≡ None → others k es ≡ es
  none_without k [] h = refl
  none_without k (e ∷ es) h =
      elim (eq_by_cmp R k e.0) as (λ b. eq_by_cmp R k e.0 ≡ b → cond b (Some e.1) (find R k es)
      ≡ None → cond (not b) (e ∷ others k es) (others k es) ≡ e ∷ es)
      [ true ↦ λ t is. absurd (cc) | false ↦ λ t is. ap (λ l. e ∷ l) (none_without k es is) ] refl h

  -- a value of a new key stands before the others, but for the order
  pub values_with_new : IsAntisymmetric R → (m : FinMap R X) (k : K) (v : X) → get m k ≡ None →
      IsPermutation (v ∷ values m) (values (insert m k v))
  values_with_new exact m k v none =
      subst (λ es. IsPermutation (v ∷ map (λ e. e.1) es) (values (insert m k v)))
      (entries_without exact m k ∙ none_without k (entries m) (sym (get-entries m k) ∙ none))
      (values_with exact m k v)
