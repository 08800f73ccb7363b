-- Objects whose keys rise from one to the next are in order.
use Rattle.std.proofs.Common.{◌≡◌, ◌≢◌, false, List, [], ◌∷◌, IsTrue, Ordering, Less, Equal}
use Rattle.std.proofs.Common.{Greater, is_gt, refl, sym, ap, subst, IsPermutation, IsSorted}
use Rattle.std.specs.Prelude.{⊤}
use Rattle.std.specs.Cmp.{IsStrictWeakOrder, IsTotalOrder}
use Rattle.std.specs.Ordering.{is_lt}
use Rattle.std.specs.List.{AllByRecursion}
use Rattle.std.proofs.lemmas.List.Sorted.{IsPermutation-cons, IsPermutation-middle}
use Rattle.std.proofs.lemmas.List.Sorted.{IsPermutation-refl, IsPermutation-trans, ranks_by}
use Rattle.sqlite_trees.specs.Tree.{IsAscending}
use Rattle.sqlite_trees.proofs.ListLemmas.{all_weaker, all-permutation, along_permutation}
use Rattle.rr_object.specs.Objects.{Obj}
use Rattle.rr_object.specs.KeyOrders.{key_cmp}
use Rattle.rr_object.proofs.KeyLaws.{keys_exact, keys_total}
use Rattle.rr_store.specs.Maps.{AreApart, AreInOrder}
use Rattle.rr_store.specs.ReadingParts.{by_key, is_below}
use Rattle.rr_store.proofs.SortedLemmas.{rises}

less : (o : Ordering) → IsTrue (is_lt o) → o ≡ Less
less Less h = refl
less Equal h = absurd (cc)
less Greater h = absurd (cc)

-- each key is below the next
abbrev pub AreChained : List Obj → Type 0
AreChained [] = ⊤
AreChained (object ∷ objects) = IsTrue (is_below object objects) × AreChained objects

pub chain_rises : (objects : List Obj) → AreChained objects → AreInOrder objects
chain_rises [] chained = tt
chain_rises (x ∷ []) chained = (tt, tt)
chain_rises (x ∷ y ∷ ys) chained =
    let up = chain_rises (y ∷ ys) chained.1 in
    let first : key_cmp x.key y.key ≡ Less = less _ chained.0 in (
      (
        first,
        all_weaker (λ z. key_cmp y.key z.key ≡ Less) (λ z. key_cmp x.key z.key ≡ Less)
            (λ z h. keys_total.trans x.key y.key z.key first h) ys up.0,
      ),
      up,
    )

pub head_below : (object : Obj) (objects : List Obj) → AreInOrder (object ∷ objects) →
    IsTrue (is_below object objects)
head_below x [] up = refl
head_below x (y ∷ ys) up = ap is_lt up.0.0

-- a step along the list
pub step_down : (objects rest later : List Obj) (first : Obj) → rest ≡ first ∷ later →
    IsTrue (is_below first later) → (AreChained rest → AreChained objects)
    × (AreInOrder objects → AreInOrder rest)
    → (AreChained later → AreChained objects) × (AreInOrder objects → AreInOrder later)
step_down objects rest later first is below h =
    let both = subst (λ (l : List Obj). (AreChained l → AreChained objects)
    × (AreInOrder objects → AreInOrder l)) is h in
    ((λ chained. both.0 (below, chained)), λ up. (both.1 up).1)

abbrev pub StaysApart : List Obj → List Obj → Type 0
StaysApart xs ys = IsPermutation xs ys × (AreApart xs → AreApart ys)

-- objects whose keys differ have such keys in any order
pub apart_permutes : (xs ys : List Obj) → IsPermutation xs ys → StaysApart xs ys
apart_permutes = along_permutation StaysApart
    (λ xs. (IsPermutation-refl xs, λ up. up))
    (λ x xs ys h. (
      IsPermutation-cons x xs ys h.0,
      λ up.
          (all-permutation (λ y. x.key ≢ y.key) xs ys h.0 up.0, h.1 up.1),
    ))
    (λ x y xs. (
      IsPermutation-middle (x ∷ []) y xs,
      λ up.
          ((λ same. up.0.0 (sym same), up.1.0), (up.0.1, up.1.1)),
    ))
    (λ xs ys zs h k. (IsPermutation-trans xs ys zs h.0 k.0, λ up. k.1 (h.1 up)))

by_key_total : IsTotalOrder by_key
by_key_total = record {
  antisymm = λ a b. keys_total.antisymm a.key b.key;
  trans = λ a b c. keys_total.trans a.key b.key c.key;
  congr = λ a b c. keys_total.congr a.key b.key c.key;
}

-- a sort by keys compares these
pub key_order : IsStrictWeakOrder (λ (a b : Obj). is_lt (by_key a b))
key_order = ranks_by keys_total (λ (o : Obj). o.key)

below : (o : Ordering) → is_gt o ≡ false → (o ≡ Equal → ⊥) → o ≡ Less
below Less h k = refl
below Equal h k = absurd (k refl)
below Greater h k = absurd (cc)

all_below : (o : Obj) (os : List Obj) → AllByRecursion (λ x. is_gt (by_key o x) ≡ false) os →
    AllByRecursion (λ x. o.key ≢ x.key) os → AllByRecursion (λ x. key_cmp o.key x.key ≡ Less) os
all_below o [] up apart = tt
all_below o (x ∷ os) up apart = (
  below (key_cmp o.key x.key) up.0 (λ tie. apart.0 (keys_exact o.key x.key tie)),
  all_below o os up.1 apart.1,
)

rising : (os : List Obj) → IsAscending (λ a b. is_gt (by_key a b) ≡ false) os → AreApart os →
    AreInOrder os
rising [] up apart = tt
rising (o ∷ os) up apart = (all_below o os up.0 apart.0, rising os up.1 apart.1)

-- objects that are sorted by their keys, no two the same, are in order
pub sorted_in_order : (objects : List Obj) → IsSorted by_key objects → AreApart objects →
    AreInOrder objects
sorted_in_order objects sorted apart = rising objects (rises by_key by_key_total objects sorted)
    apart
