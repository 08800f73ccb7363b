-- Rows that are put in and taken out by their numbers.
use Rattle.std.proofs.Common.{◌≡◌, ◌≢◌, ℤ, Bool, true, false, not, ◌||◌, cond, List, [], ◌∷◌, map}
use Rattle.std.proofs.Common.{filter, refl, sym, ap, ◌∙◌, Ordering, Less, Equal, Greater}
use Rattle.std.proofs.Common.{IsPermutation}
use Rattle.std.specs.Ordering.{is_eq, match_ordering, ordering_reverse}
use Rattle.std.specs.List.{AllByRecursion, list_any}
use Rattle.std.specs.FinMap.{int_cmp-IsAntisymmetric}
use Rattle.std.proofs.lemmas.Bool.{or_parts, or_from, or_left, false_from_ne_true, both_ways}
use Rattle.std.proofs.lemmas.List.Sorted.{IsPermutation-refl, IsPermutation-cons}
use Rattle.std.proofs.lemmas.List.Sorted.{IsPermutation-trans, IsPermutation-middle}
use Rattle.sqlite_value.specs.declared.value.Value.{Value}
use Rattle.sqlite_value.specs.declared.value.Value.TheVariants.{Null, Int, Real, Text, Blob}
use Rattle.sqlite_value.specs.Order.{Row, value_cmp}
use Rattle.sqlite_value.proofs.OrderLemmas.{value_cmp_total, value_cmp-Int}
use Rattle.sqlite_trees.specs.Tree.{rowid, put_row, has_rowid, without_rowid, IsAscending}
use Rattle.sqlite_trees.specs.View.{is_int}
use Rattle.sqlite_trees.proofs.ListLemmas.{all-permutation, all-filter, ascending-filter}
use Rattle.sqlite_trees.proofs.ListLemmas.{along_permutation, filter_same}
use Rattle.sqlite_rules.specs.Edit.{id_in, is_taken, without_all}
use Rattle.rr_store.specs.Contents.{AreNumbered}

-- ---- equal numbers

equal_itself : (o : Ordering) → o ≡ ordering_reverse o → o ≡ Equal
equal_itself Less h = absurd (cc)
equal_itself Equal h = refl
equal_itself Greater h = absurd (cc)

pub value_cmp-itself : (v : Value) → value_cmp v v ≡ Equal
value_cmp-itself v = equal_itself _ (value_cmp_total.antisymm v v)

int_of : (v : Value) → is_int v ≡ true → (n : ℤ) × (v ≡ Int n)
int_of Null h = absurd (cc)
int_of (Int n) h = (n, refl)
int_of (Real x) h = absurd (cc)
int_of (Text t) h = absurd (cc)
int_of (Blob b) h = absurd (cc)

is_Equal : (o : Ordering) → is_eq o ≡ true → o ≡ Equal
is_Equal Less h = absurd (cc)
is_Equal Equal h = refl
is_Equal Greater h = absurd (cc)

-- a row has its own number
own_id : (row : Row) → is_int (rowid row) ≡ true → has_rowid (id_in (rowid row)) row ≡ true
own_id row h =
    let it = int_of (rowid row) h in
    rw it.1 (ap is_eq (value_cmp-itself (Int it.0)))

-- and not that of a row apart from it
other_id : (a b : Row) → is_int (rowid a) ≡ true → is_int (rowid b) ≡ true → rowid a ≢ rowid b →
    has_rowid (id_in (rowid b)) a ≡ false
other_id a b p q apart =
    let one = int_of (rowid a) p in
    let two = int_of (rowid b) q in
    false_from_ne_true _
    (λ same.
    apart
    (one.1 ∙ ap Int (int_cmp-IsAntisymmetric one.0 two.0 (sym (value_cmp-Int one.0 two.0)
    ∙ is_Equal _ (rw (one.1, two.1) at same))) ∙ sym two.1))

-- ---- a row is put in

module _ (new : Row) where
  untaken : Row → Type 0
  untaken r = is_eq (value_cmp (rowid r) (rowid new)) ≡ false

  pub put_permutes : (rows : List Row) → is_taken rows new ≡ false → IsPermutation (new ∷ rows)
      (put_row new rows)
  put_permutes [] free = IsPermutation-refl (new ∷ [])
  put_permutes (r ∷ rows) free =
      let apart : (is_eq (value_cmp (rowid r) (rowid new)) ≡ false) × (is_taken rows new ≡ false) =
      or_parts _ _ free in
      let later : IsPermutation (new ∷ rows) (put_row new rows) = put_permutes rows apart.1 in
      elim (value_cmp (rowid r) (rowid new)) as (λ o. is_eq o ≡ false →
      IsPermutation (new ∷ r ∷ rows) (match_ordering o (r ∷ put_row new rows) (new ∷ rows)
      (new ∷ r ∷ rows))) [
        | Less ↦ λ e. IsPermutation-trans _ _ _ (IsPermutation-middle (new ∷ []) r rows)
            (IsPermutation-cons r _ _ later)
        | Equal ↦ λ e. absurd (cc)
        | Greater ↦ λ e. IsPermutation-refl _
      ] apart.0

  apart_from : (rows : List Row) → is_taken rows new ≡ false →
      AllByRecursion (λ r. (rowid new ≢ rowid r) × (rowid r ≢ rowid new)) rows
  apart_from [] free = tt
  apart_from (r ∷ rows) free =
      let apart : (is_eq (value_cmp (rowid r) (rowid new)) ≡ false) × (is_taken rows new ≡ false) =
      or_parts _ _ free in
      let differ : rowid r ≢ rowid new = λ same.
      both_ways (is_eq (value_cmp (rowid r) (rowid new))) apart.0
      (ap (λ v. is_eq (value_cmp v (rowid new))) same ∙ ap is_eq
      (value_cmp-itself (rowid new))) in
      ((λ same. differ (sym same), differ), apart_from rows apart.1)

  put_ascends : (rows : List Row) → is_taken rows new ≡ false →
      IsAscending (λ a b. rowid a ≢ rowid b) rows → IsAscending (λ a b. rowid a ≢ rowid b)
      (put_row new rows)
  put_ascends [] free up = (tt, tt)
  put_ascends (r ∷ rows) free up =
      let free_of = apart_from (r ∷ rows) free in
      let apart : (is_eq (value_cmp (rowid r) (rowid new)) ≡ false) × (is_taken rows new ≡ false) =
      or_parts _ _ free in
      let later = put_ascends rows apart.1 up.1 in
      let first : AllByRecursion (λ b. rowid r ≢ rowid b) (put_row new rows) =
      all-permutation _ (new ∷ rows) _ (put_permutes rows apart.1) (free_of.0.1, up.0) in
      elim (value_cmp (rowid r) (rowid new)) as (λ o. is_eq o ≡ false →
      IsAscending (λ a b. rowid a ≢ rowid b) (match_ordering o (r ∷ put_row new rows)
      (new ∷ rows) (new ∷ r ∷ rows))) [
        | Less ↦ λ e. (first, later)
        | Equal ↦ λ e. absurd (cc)
        | Greater ↦ λ e. ((free_of.0.0, fore rows free_of.1), up)
      ] apart.0
    where
      fore : (rest : List Row) → AllByRecursion (λ r. (rowid new ≢ rowid r)
          × (rowid r ≢ rowid new)) rest → AllByRecursion (λ r. rowid new ≢ rowid r) rest
      fore [] h = tt
      fore (x ∷ rest) h = (h.0.0, fore rest h.1)

  pub put_keyed : (rows : List Row) → is_taken rows new ≡ false → is_int (rowid new) ≡ true →
      AreNumbered rows → AreNumbered (put_row new rows)
  put_keyed rows free number keyed = record {
    apart = put_ascends rows free keyed.apart;
    numbered = all-permutation _ (new ∷ rows) _ (put_permutes rows free) (number, keyed.numbered);
  }

-- ---- rows are taken out

filter_twice : {X : Type 0} (p q : X → Bool) (xs : List X) → filter (λ x. not (q x))
    (filter (λ x. not (p x)) xs) ≡ filter (λ x. not (p x || q x)) xs
filter_twice p q [] = refl
filter_twice {X} p q (x ∷ xs) =
    elim (p x) as (λ b. filter (λ y. not (q y)) (cond (not b) (x ∷ filter (λ y. not (p y)) xs)
    (filter (λ y. not (p y)) xs)) ≡ cond (not (b || q x))
    (x ∷ filter (λ y. not (p y || q y)) xs) (filter (λ y. not (p y || q y)) xs)) [
      | true ↦ filter_twice p q xs
      | false ↦ ap (λ (l : List X). cond (not (q x)) (x ∷ l) l) (filter_twice p q xs)
    ]

filter_none_out : {X : Type 0} (xs : List X) → filter (λ x. true) xs ≡ xs
filter_none_out [] = refl
filter_none_out (x ∷ xs) = ap (λ l. x ∷ l) (filter_none_out xs)

without_each : (ids : List ℤ) (rows : List Row) → without_all rows ids
    ≡ filter (λ r. not (list_any (λ id. has_rowid id r) ids)) rows
without_each [] rows = sym (filter_none_out rows)
without_each (id ∷ ids) rows = without_each ids (without_rowid id rows) ∙ filter_twice
    (has_rowid id) (λ r. list_any (λ i. has_rowid i r) ids) rows

or_turned : (a b c : Bool) → (a || (b || c)) ≡ (b || (a || c))
or_turned true true c = refl
or_turned true false c = refl
or_turned false b c = refl

any_permutes : {X : Type 0} (p : X → Bool) (xs ys : List X) → IsPermutation xs ys → list_any p xs
    ≡ list_any p ys
any_permutes p = along_permutation (λ xs ys. list_any p xs ≡ list_any p ys) (λ xs. refl)
    (λ x xs ys h. ap (λ b. p x || b) h) (λ x y xs. or_turned (p x) (p y) (list_any p xs))
    (λ xs ys zs h k. h ∙ k)

abbrev ids_that : (Row → Bool) → List Row → List ℤ
ids_that p rows = map (λ r. id_in (rowid r)) (filter p rows)

-- a row apart from all others has the number of none
none_has : (p : Row → Bool) (row : Row) (rows : List Row) → is_int (rowid row) ≡ true →
    AllByRecursion (λ r. is_int (rowid r) ≡ true) rows → AllByRecursion (λ r. rowid row ≢ rowid r)
    rows
    → list_any (λ id. has_rowid id row) (ids_that p rows) ≡ false
none_has p row [] number numbers apart = refl
none_has p row (r ∷ rows) number numbers apart =
    let later = none_has p row rows number numbers.1 apart.1 in
    elim (p r) as (λ b. list_any (λ id. has_rowid id row)
    (map (λ x. id_in (rowid x)) (cond b (r ∷ filter p rows) (filter p rows))) ≡ false)
    [ true ↦ or_from _ _ (other_id row r number numbers.0 apart.0) later | false ↦ later ]

-- a row has one of the numbers of those that pass exactly where it passes
are_those : (p : Row → Bool) (rows : List Row) → AreNumbered rows →
    AllByRecursion (λ r. list_any (λ id. has_rowid id r) (ids_that p rows) ≡ p r) rows
are_those p [] keyed = tt
are_those p (x ∷ rows) keyed =
    let rest : AreNumbered rows = record { apart = keyed.apart.1; numbered = keyed.numbered.1 } in
    let later = are_those p rows rest in
    let none = none_has p x rows keyed.numbered.0 keyed.numbered.1 keyed.apart.0 in
    elim (p x) as
    (λ b.
    (list_any (λ id. has_rowid id x)
    (map (λ y. id_in (rowid y)) (cond b (x ∷ filter p rows) (filter p rows))) ≡ b)
    × AllByRecursion
    (λ r. list_any (λ id. has_rowid id r)
    (map (λ y. id_in (rowid y)) (cond b (x ∷ filter p rows) (filter p rows))) ≡ p r) rows) [
      | true ↦ (
        or_left (has_rowid (id_in (rowid x)) x) _ (own_id x keyed.numbered.0),
        others rows keyed.apart.0 keyed.numbered.1 later,
      )
      | false ↦ (none, later)
    ]
  where
    others : (rest : List Row) → AllByRecursion (λ b. rowid x ≢ rowid b) rest →
        AllByRecursion (λ r. is_int (rowid r) ≡ true) rest →
        AllByRecursion (λ r. list_any (λ id. has_rowid id r) (ids_that p rows) ≡ p r) rest
        → AllByRecursion (λ r. list_any (λ id. has_rowid id r) (id_in (rowid x) ∷ ids_that p rows)
        ≡ p r) rest
    others [] apart numbers h = tt
    others (r ∷ rest) apart numbers h = (
      rw (other_id r x numbers.0 keyed.numbered.0 (λ same. apart.0 (sym same))) h.0,
      others rest apart.1 numbers.1 h.1,
    )

-- the rows with the numbers of those that pass are those that pass
pub without_those : (p : Row → Bool) (rows : List Row) (ids : List ℤ) → AreNumbered rows →
    IsPermutation (map (λ r. id_in (rowid r)) (filter p rows)) ids
    → without_all rows ids ≡ filter (λ r. not (p r)) rows
without_those p rows ids keyed same =
    without_each ids rows ∙ filter_same _ (λ r. not (p r)) rows (each rows (are_those p rows keyed))
  where
    each : (rest : List Row) →
        AllByRecursion (λ r. list_any (λ id. has_rowid id r) (ids_that p rows) ≡ p r) rest →
        AllByRecursion (λ r. not (list_any (λ id. has_rowid id r) ids) ≡ not (p r)) rest
    each [] h = tt
    each (r ∷ rest) h = (
      ap not (sym (any_permutes (λ id. has_rowid id r) _ ids same) ∙ h.0),
      each rest h.1,
    )

pub filter_keyed : (p : Row → Bool) (rows : List Row) → AreNumbered rows →
    AreNumbered (filter p rows)
filter_keyed p rows keyed = record {
  apart = ascending-filter _ p rows keyed.apart;
  numbered =
      all-filter _ p rows keyed.numbered;
}
