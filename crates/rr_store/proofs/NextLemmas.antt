-- Rows with numbers of their own, in order: each number is above the last.
use Rattle.std.proofs.Common.{◌≡◌, ◌≢◌, suc, ℤ, true, false, List, [], ◌∷◌, ◌++◌, Option, Some}
use Rattle.std.proofs.Common.{None, refl, sym, ap, subst, ◌∙◌, arith, add-one, append_assoc}
use Rattle.std.proofs.Common.{Ordering, Less, Equal, Greater, is_lt, IsSorted}
use Rattle.std.specs.Prelude.{◌<ℤ◌}
use Rattle.std.specs.Cmp.{int_ranks}
use Rattle.std.specs.List.{AllByRecursion}
use Rattle.std.specs.Ordering.{MatchOrdering, int_cmp, ordering_then}
use Rattle.sqlite_value.specs.declared.value.Value.{Value}
use Rattle.sqlite_value.specs.declared.value.Value.TheVariants.{Null, Int, Real, Text, Blob}
use Rattle.sqlite_value.specs.Order.{Row, value_cmp}
use Rattle.sqlite_value.proofs.OrderLemmas.{value_cmp-Int}
use Rattle.sqlite_trees.specs.Tree.{rowid, IsAscending}
use Rattle.sqlite_trees.specs.View.{is_int}
use Rattle.rr_store.specs.Contents.{AreNumbered, IsPast, by_one}

-- a number is that of the last row, if there is one
abbrev pub IsLast : Option ℤ → List Row → Type 0
IsLast None rows = Unit {0}
IsLast (Some last) rows = (front : List Row) × (row : Row) × (rows ≡ front ++ row ∷ [])
    × (rowid row ≡ Int last)

int_of : (v : Value) → is_int v ≡ true → (n : ℤ) × (v ≡ Int n)
int_of Null h = absurd (cc)
int_of (Int n) h = (n, refl)
int_of (Real x) h = absurd (cc)
int_of (Text t) h = absurd (cc)
int_of (Blob b) h = absurd (cc)

at_row : (front : List Row) (row : Row) (rest : List Row) →
    AllByRecursion (λ r. is_int (rowid r) ≡ true) (front ++ row ∷ rest) → is_int (rowid row) ≡ true
at_row [] row rest h = h.0
at_row (x ∷ front) row rest h = at_row front row rest h.1

apart_next : (front : List Row) (a b : Row) (rest : List Row) →
    IsAscending (λ a b. rowid a ≢ rowid b) (front ++ a ∷ b ∷ rest) → rowid a ≢ rowid b
apart_next [] a b rest h = h.0.0
apart_next (x ∷ front) a b rest h = apart_next front a b rest h.1

sorted_next : (front : List Row) (a b : Row) (rest : List Row) →
    IsSorted by_one (front ++ a ∷ b ∷ rest) → is_lt (by_one b a) ≡ false
sorted_next [] a b rest h = h 0 a (omega arith) (omega arith)
sorted_next (x ∷ front) a b rest h = sorted_next front a b rest
    (λ k d p q. rw add-one (rw add-one at (h (suc k) d (omega arith) (omega arith))))

past : (o : Ordering) (l n : ℤ) → MatchOrdering o (n <ℤ l) (n ≡ l) (l <ℤ n) →
    is_lt (ordering_then o Equal) ≡ false → l ≢ n → l <ℤ n
past Less l n h low apart = absurd (cc)
past Equal l n h low apart = absurd (apart (sym h))
past Greater l n h low apart = h

past_row : (a b : Row) (l n : ℤ) → rowid a ≡ Int l → rowid b ≡ Int n → is_lt (by_one b a) ≡ false →
    rowid a ≢ rowid b → l <ℤ n
past_row a b l n is_a is_b low apart =
    let compared : ordering_then (int_cmp n l) Equal ≡ by_one b a =
    sym ((λ i. ordering_then (value_cmp (is_b i) (is_a i)) Equal)
    ∙ ap (λ o. ordering_then o Equal) (value_cmp-Int n l)) in
    past (int_cmp n l) l n (int_ranks n l) (ap is_lt compared ∙ low)
    (λ same. apart (is_a ∙ (ap Int same ∙ sym is_b)))

module _ (rest before : List Row) (row : Row) where
  after_last : (last : Option ℤ) (n : ℤ) → IsLast last before → rowid row ≡ Int n →
      AreNumbered (before ++ row ∷ rest) → IsSorted by_one (before ++ row ∷ rest) → IsPast last n
  after_last None n was is keyed sorted = tt
  after_last (Some l) n was is keyed sorted =
      let whole : before ++ row ∷ rest ≡ was.0 ++ was.1 ∷ row ∷ rest = ap (λ xs. xs ++ row ∷ rest)
      was.2 ∙ append_assoc was.0 (was.1 ∷ []) (row ∷ rest) in
      past_row was.1 row l n was.3 is
      (sorted_next was.0 was.1 row rest (subst (IsSorted by_one) whole sorted))
      (apart_next was.0 was.1 row rest (subst (IsAscending (λ a b. rowid a ≢ rowid b)) whole
      keyed.apart))

  -- so where none is above the last, they have no such numbers
  pub none_next : (last : Option ℤ) → IsLast last before →
      ((n : ℤ) → rowid row ≡ Int n → IsPast last n → ⊥) →
      AreNumbered ((before ++ row ∷ []) ++ rest) → IsSorted by_one ((before ++ row ∷ []) ++ rest) →
      ⊥
  none_next last was none keyed sorted =
      let whole = append_assoc before (row ∷ []) rest in
      let keyed' = subst AreNumbered whole keyed in
      let it = int_of (rowid row) (at_row before row rest keyed'.numbered) in
      none it.0 it.1 (after_last last it.0 was it.1 keyed' (subst (IsSorted by_one) whole sorted))
