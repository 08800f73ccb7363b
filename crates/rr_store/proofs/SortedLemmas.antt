-- A list has one order in which it is sorted, where only equal items tie.
use Rattle.std.proofs.Common.{◌≡◌, suc, Bool, true, false, not, List, [], ◌∷◌, ◌++◌, map, filter}
use Rattle.std.proofs.Common.{refl, sym, ap, subst, ◌∙◌, arith, add-one, Ordering, Less, Equal}
use Rattle.std.proofs.Common.{Greater, is_lt, is_gt, IsPermutation, IsSorted}
use Rattle.std.specs.List.{AllByRecursion}
use Rattle.std.specs.Cmp.{IsTotalOrder}
use Rattle.std.specs.Ordering.{ordering_reverse}
use Rattle.std.proofs.lemmas.Cmp.{tied_itself, upto}
use Rattle.std.proofs.lemmas.List.Sorted.{IsPermutation-sym, IsPermutation-trans, IsPermutation-map}
use Rattle.std.proofs.lemmas.List.Sorted.{IsPermutation-filter_both, length_permutation}
use Rattle.sqlite_trees.specs.Tree.{IsAscending}
use Rattle.sqlite_trees.proofs.ListLemmas.{all_weaker, all-permutation, IsPermutation-filter}
use Rattle.sqlite_trees.proofs.ListLemmas.{pull_back}
use Rattle.sqlite.proofs.Callers.{one_permutation}

module _ {X : Type 0} where
  items_plain : (xs : List X) → map (λ (p : X × Bool). p.0) (map (λ x. (x, false)) xs) ≡ xs
  items_plain [] = refl
  items_plain (x ∷ xs) = ap (λ l. x ∷ l) (items_plain xs)

  none_marked : (xs : List X) → filter (λ (p : X × Bool). p.1) (map (λ x. (x, false)) xs) ≡ []
  none_marked [] = refl
  none_marked (x ∷ xs) = none_marked xs

  all_unmarked : (xs : List X) → filter (λ (p : X × Bool). not p.1) (map (λ x. (x, false)) xs)
      ≡ map (λ x. (x, false)) xs
  all_unmarked [] = refl
  all_unmarked (x ∷ xs) = ap (λ l. (x, false) ∷ l) (all_unmarked xs)

  module _ (x : X) (us vs : List X) where
    from : List (X × Bool)
    from = (x, true) ∷ map (λ u. (u, false)) us

    module _ (to : List (X × Bool)) (y : X) (b : Bool)
        (same : IsPermutation from ((y, b) ∷ to)) where
      one_marked : filter (λ (p : X × Bool). p.1) ((y, b) ∷ to) ≡ (x, true) ∷ []
      unfolding from
      one_marked = one_permutation (x, true) _
          (subst (λ l. IsPermutation ((x, true) ∷ l)
          (filter (λ (p : X × Bool). p.1) ((y, b) ∷ to))) (none_marked us)
          (IsPermutation-filter (λ (p : X × Bool). p.1) _ _ same))

      others : IsPermutation us
          (map (λ (p : X × Bool). p.0) (filter (λ (p : X × Bool). not p.1) ((y, b) ∷ to)))
      unfolding from
      others =
          subst
          (λ l.
          IsPermutation l
          (map (λ (p : X × Bool). p.0) (filter (λ (p : X × Bool). not p.1) ((y, b) ∷ to))))
          (ap (map (λ (p : X × Bool). p.0)) (all_unmarked us) ∙ items_plain us)
          (IsPermutation-map (λ (p : X × Bool). p.0) _ _
          (IsPermutation-filter (λ (p : X × Bool). not p.1) _ _ same))

      parted : IsPermutation (map (λ (p : X × Bool). p.0) to)
          (map (λ (p : X × Bool). p.0) (filter (λ (p : X × Bool). p.1) to ++ filter
          (λ (p : X × Bool). not p.1) to))
      parted = IsPermutation-map (λ (p : X × Bool). p.0) _ _
          (IsPermutation-filter_both (λ (p : X × Bool). p.1) (λ (p : X × Bool). not p.1)
          (λ p. refl) to)

    after : (to : List (X × Bool)) (y : X) (b : Bool) → IsPermutation from ((y, b) ∷ to) →
        x ∷ vs ≡ y ∷ map (λ (p : X × Bool). p.0) to → IsPermutation us vs
    after to y true same e =
        let none : filter (λ (p : X × Bool). p.1) to ≡ [] = let one = one_marked to y true same in
        cc in
        let tail : vs ≡ map (λ (p : X × Bool). p.0) to = cc in
        let all = subst (λ l. IsPermutation (map (λ (p : X × Bool). p.0) to)
        (map (λ (p : X × Bool). p.0) (l ++ filter (λ (p : X × Bool). not p.1) to))) none
        (parted to y true same) in
        subst (IsPermutation us) (sym tail) (IsPermutation-trans _ _ _ (others to y true same)
        (IsPermutation-sym _ _ all))
    after to y false same e =
        let one : filter (λ (p : X × Bool). p.1) to ≡ (x, true) ∷ [] = one_marked to y false same in
        let head : y ≡ x = cc in
        let tail : vs ≡ map (λ (p : X × Bool). p.0) to = cc in
        let all = subst (λ l. IsPermutation (map (λ (p : X × Bool). p.0) to)
        (map (λ (p : X × Bool). p.0) (l ++ filter (λ (p : X × Bool). not p.1) to))) one
        (parted to y false same) in
        let us_are =
        subst
        (λ z.
        IsPermutation us
        (z ∷ map (λ (p : X × Bool). p.0) (filter (λ (p : X × Bool). not p.1) to))) head
        (others to y false same) in
        subst (IsPermutation us) (sym tail)
        (IsPermutation-trans _ _ _ us_are (IsPermutation-sym _ _ all))

    first_of : (to : List (X × Bool)) → IsPermutation from to →
        x ∷ vs ≡ map (λ (p : X × Bool). p.0) to → IsPermutation us vs
    first_of [] same e = cc
    first_of (p ∷ to) same e = after to p.0 p.1 same e

    -- one item less on both sides
    pub cancel : IsPermutation (x ∷ us) (x ∷ vs) → IsPermutation us vs
    unfolding from
    cancel same =
        let back = pull_back (λ (p : X × Bool). p.0) (x ∷ us) (x ∷ vs) same
        ((x, true) ∷ map (λ u. (u, false)) us) (ap (λ l. x ∷ l) (sym (items_plain us))) in
        first_of back.0 back.1 back.2

turned : (o : Ordering) → is_lt o ≡ false → is_gt (ordering_reverse o) ≡ false
turned Less h = h
turned Equal h = refl
turned Greater h = refl

tied : (o : Ordering) → is_gt o ≡ false → is_gt (ordering_reverse o) ≡ false → o ≡ Equal
tied Less h k = absurd (cc)
tied Equal h k = refl
tied Greater h k = absurd (cc)

module _ {X : Type 0} (cmp : X → X → Ordering) (total : IsTotalOrder cmp) where
  abbrev pub AtMost : X → X → Type 0
  AtMost a b = is_gt (cmp a b) ≡ false

  below_all : (x : X) (ys : List X) → IsSorted cmp (x ∷ ys) → IsAscending AtMost ys →
      AllByRecursion (AtMost x) ys
  below_all x [] sorted up = tt
  below_all x (y ∷ ys) sorted up =
      let first : AtMost x y = ap is_gt (total.antisymm x y) ∙ turned _
      (sorted 0 x (omega arith) (omega arith)) in
      (first, all_weaker (AtMost y) (AtMost x) (λ z. upto total x y z first) ys up.0)

  pub rises : (xs : List X) → IsSorted cmp xs → IsAscending AtMost xs
  rises [] sorted = tt
  rises (x ∷ xs) sorted =
      let tail : IsSorted cmp xs = λ k d p q.
      rw add-one (rw add-one at (sorted (suc k) d (omega arith) (omega arith))) in
      let up = rises xs tail in
      (below_all x xs sorted up, up)

  module _ (P : X → Type 0) (told : (a b : X) → P a → P b → cmp a b ≡ Equal → a ≡ b) where
    same_items : (xs ys : List X) → AllByRecursion P xs → IsPermutation xs ys →
        IsAscending AtMost xs → IsAscending AtMost ys → xs ≡ ys
    same_items [] [] all same up vp = refl
    same_items [] (y ∷ ys) all same up vp = absurd (omega (arith, length_permutation _ _ same))
    same_items (x ∷ xs) [] all same up vp = absurd (omega (arith, length_permutation _ _ same))
    same_items (x ∷ xs) (y ∷ ys) all same up vp =
        let back = IsPermutation-sym _ _ same in
        let here : (z : X) → AtMost z z = λ z. ap is_gt (tied_itself total z) in
        let y_x : AtMost y x =
        (all-permutation (AtMost y) (y ∷ ys) (x ∷ xs) back (here y, vp.0)).0 in
        let x_y : AtMost x y =
        (all-permutation (AtMost x) (x ∷ xs) (y ∷ ys) same (here x, up.0)).0 in
        let tie : cmp x y ≡ Equal = tied (cmp x y) x_y (sym (ap is_gt (total.antisymm y x))
        ∙ y_x) in
        let head : x ≡ y = told x y all.0 (all-permutation P (x ∷ xs) (y ∷ ys) same all).0 tie in
        let rest : IsPermutation xs ys =
        cancel x xs ys (subst (λ z. IsPermutation (x ∷ xs) (z ∷ ys)) (sym head) same) in
        (λ i. head i ∷ same_items xs ys all.1 rest up.1 vp.1 i)

    pub sorted_once : (xs ys : List X) → AllByRecursion P xs → IsPermutation xs ys →
        IsSorted cmp xs → IsSorted cmp ys → xs ≡ ys
    sorted_once xs ys all same one two = same_items xs ys all same (rises xs one) (rises ys two)
