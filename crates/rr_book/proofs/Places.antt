-- Where an object is put into a list.
use Rattle.std.proofs.Common.{◌≡◌, ℕ, zero, suc, ◌+◌, ◌<◌, ◌≤◌, Bool, true, false, cond, not, List}
use Rattle.std.proofs.Common.{[], ◌∷◌, T, ◌&&◌, get_or, map, length, refl, sym, ap, subst, ◌∙◌}
use Rattle.std.proofs.Common.{arith, one-add}
use Rattle.std.specs.Prelude.{Option, None, Some, filter, find, insert, remove, slice_set}
use Rattle.std.specs.Prelude.{slice_get}
use Rattle.std.specs.List.Sorted.{IsPartitionPoint, IsPartitionedBy}
use Rattle.std.specs.FinMap.{is_sorted}
use Rattle.std.specs.FinMap.Entries.{below_all}
use Rattle.std.specs.Option.{option_and_then, option_map_or}
use Rattle.rr_object.proofs.KeyLaws.{keys_exact, keys_total}
use Rattle.rr_object.specs.Keys.{is_mntner_of}
use Rattle.rr_object.specs.declared.key.Key.TheVariants.{Mntner}
use Rattle.rr_book.proofs.Order.{by_name, mntner_key}
use Rattle.std.specs.declared.cmp.Ordering.{Ordering}
use Rattle.std.specs.declared.cmp.Ordering.TheVariants.{Less, Equal, Greater}
use Rattle.std.specs.Ordering.{eq_by_cmp, is_gt, is_eq, is_lt, ordering_reverse}
use Rattle.std.specs.FinMap.Entries.{by_order}
use Rattle.rr_object.specs.declared.key.Key.{Key}
use Rattle.rr_object.specs.Objects.{Obj}
use Rattle.rr_object.specs.KeyOrders.{key_cmp}
use Rattle.rr_book.specs.Books.{entry, is_in_order, put_in}
use Rattle.rr_book.specs.Private.{place_of, stands_at}

-- one place further
later_stands : (k : Key) (x : Obj) (xs : List Obj) (n : ℕ) → stands_at k (x ∷ xs) (1 + n)
    ≡ stands_at k xs n
later_stands k x xs n = rw one-add

later_set : (x o : Obj) (xs : List Obj) (n : ℕ) → slice_set (x ∷ xs) (1 + n) o ≡ x ∷ slice_set xs n
    o
later_set x o xs n = rw one-add

later_insert : (x o : Obj) (xs : List Obj) (n : ℕ) → insert (x ∷ xs) (1 + n) o ≡ x ∷ insert xs n o
later_insert x o xs n = rw one-add

put_at : Obj → List Obj → ℕ → List Obj
put_at o os i = cond (stands_at o.key os i) (slice_set os i o) (insert os i o)

later_put : (x o : Obj) (xs : List Obj) (n : ℕ) → put_at o (x ∷ xs) (1 + n) ≡ x ∷ put_at o xs n
unfolding put_at
later_put x o xs n =
    elim (stands_at o.key xs n) as (λ b. stands_at o.key xs n ≡ b →
    cond (stands_at o.key (x ∷ xs) (1 + n)) (slice_set (x ∷ xs) (1 + n) o)
    (insert (x ∷ xs) (1 + n) o) ≡ x ∷ cond b (slice_set xs n o) (insert xs n o)) [
      | true ↦ λ e. ap (λ b. cond b (slice_set (x ∷ xs) (1 + n) o) (insert (x ∷ xs) (1 + n) o))
          (later_stands o.key x xs n ∙ e) ∙ later_set x o xs n
      | false ↦ λ e. ap (λ b. cond b (slice_set (x ∷ xs) (1 + n) o) (insert (x ∷ xs) (1 + n) o))
          (later_stands o.key x xs n ∙ e) ∙ later_insert x o xs n
    ] refl

put_at_place : (o : Obj) (os : List Obj) → put_in o os ≡ put_at o os (place_of o.key os)
unfolding put_at
put_at_place o [] = refl
put_at_place o (x ∷ xs) =
    elim (key_cmp o.key x.key) as (λ r. key_cmp o.key x.key ≡ r
    → by_order r (o ∷ x ∷ xs) (o ∷ xs) (x ∷ put_in o xs) ≡ put_at o (x ∷ xs)
    (cond (not (not (is_gt r))) (1 + place_of o.key xs) 0)) [
      | Less ↦ λ e. sym (ap (λ r. cond (is_eq r) (o ∷ xs) (o ∷ x ∷ xs)) e)
      | Equal ↦ λ e. sym (ap (λ r. cond (is_eq r) (o ∷ xs) (o ∷ x ∷ xs)) e)
      | Greater ↦ λ e. ap (λ ys. x ∷ ys) (put_at_place o xs)
          ∙ sym (later_put x o xs (place_of o.key xs))
    ] refl

-- an object is put over the one that stands at its place under its key, or else in before that
-- place
pub put_in_place : (o : Obj) (os : List Obj)
    → put_in o os ≡ cond (stands_at o.key os (place_of o.key os))
    (slice_set os (place_of o.key os) o) (insert os (place_of o.key os) o)
unfolding put_at
put_in_place o os = put_at_place o os

-- the first place is within the list
pub place_within : (k : Key) (os : List Obj) → place_of k os ≤ length os
place_within k [] = omega arith
place_within k (x ∷ xs) =
    let later : place_of k xs ≤ length xs = place_within k xs in
    elim (not (not (is_gt (key_cmp k x.key)))) as (λ b. cond b (1 + place_of k xs) 0 ≤ suc
    (length xs)) [ true ↦ omega arith | false ↦ omega arith ]

-- a place at which an object stands is within the list
pub stands_within : (k : Key) (os : List Obj) (i : ℕ) → stands_at k os i ≡ true → i < length os
stands_within k [] i e = cc
stands_within k (x ∷ xs) zero e = omega arith
stands_within k (x ∷ xs) (suc i) e = let later : i < length xs = stands_within k xs i e in
    omega arith

pub T_parts : (a b : Bool) → T (a && b) → T a × T b
T_parts true b h = (tt, h)
T_parts false b h = absurd h

pub is_Less : (r : Ordering) → T (is_lt r) → r ≡ Less
is_Less Less h = refl
is_Less Equal h = absurd h
is_Less Greater h = absurd h

is_Greater : (r : Ordering) → is_gt r ≡ true → r ≡ Greater
is_Greater Less e = cc
is_Greater Equal e = cc
is_Greater Greater e = refl

both : (a b : Bool) → a ≡ true → T b → T (a && b)
both true b e h = h
both false b e h = cc

-- a key is below those of objects in order after it
below : (k : Key) (os : List Obj) → T (below_all key_cmp k (map entry os)) → (i : ℕ) (d : Obj) →
    i < length os → key_cmp k (get_or os i d).key ≡ Less
below k [] h i d inside = absurd (omega arith)
below k (x ∷ xs) h zero d inside =
    is_Less _ (T_parts (is_lt (key_cmp k x.key)) (below_all key_cmp k (map entry xs)) h).0
below k (x ∷ xs) h (suc i) d inside =
    below k xs (T_parts (is_lt (key_cmp k x.key)) (below_all key_cmp k (map entry xs)) h).1 i d
    (omega arith)

-- a key that is above another is above those below that
above : (k l m : Key) → key_cmp l m ≡ Less → key_cmp k m ≡ Greater → key_cmp k l ≡ Greater
above k l m low high =
    keys_total.antisymm k l ∙ ap ordering_reverse
    (keys_total.trans l m k low (keys_total.antisymm m k ∙ ap ordering_reverse high))

-- of objects in order those below a key come first
parted : (k : Key) (os : List Obj) → T (is_sorted key_cmp (map entry os)) →
    IsPartitionedBy (λ o. is_gt (key_cmp k o.key)) os
parted k [] h i j d low inside e = absurd (omega arith)
parted k (x ∷ xs) h zero zero d low inside e = e
parted k (x ∷ xs) h zero (suc j) d low inside e =
    ap is_gt
    (above k x.key (get_or xs j d).key
    (below x.key xs (T_parts (below_all key_cmp x.key (map entry xs))
    (is_sorted key_cmp (map entry xs)) h).0 j d (omega arith)) (is_Greater _ e))
parted k (x ∷ xs) h (suc i) zero d low inside e = absurd (omega arith)
parted k (x ∷ xs) h (suc i) (suc j) d low inside e =
    parted k xs (T_parts (below_all key_cmp x.key (map entry xs))
    (is_sorted key_cmp (map entry xs)) h).1 i j d (omega arith) (omega arith) e

pub in_order_parted : (k : Key) (os : List Obj) → is_in_order os ≡ true →
    IsPartitionedBy (λ o. is_gt (key_cmp k o.key)) os
in_order_parted k os e = parted k os (subst T (sym e) tt)

-- where a list is parted by a test is its first place that fails it
pub place_of_part : (k : Key) (os : List Obj) (i : ℕ) → i ≤ length os →
    IsPartitionPoint (λ o. is_gt (key_cmp k o.key) ≡ true) (λ o. is_gt (key_cmp k o.key) ≡ false)
    os i → i ≡ place_of k os
place_of_part k [] i inside point = omega arith
place_of_part k (x ∷ xs) zero inside point =
    sym (ap (λ b. cond (not (not b)) (1 + place_of k xs) 0)
    (point.1 0 x (omega arith) (omega arith)))
place_of_part k (x ∷ xs) (suc i) inside point =
    let later : i ≡ place_of k xs = place_of_part k xs i (omega arith) (
      λ j d low high. point.0 (suc j) d (omega arith) (omega arith),
      λ j d low high.
          point.1 (suc j) d (omega arith) (omega arith),
    ) in
    let here : cond (not (not (is_gt (key_cmp k x.key)))) (1 + place_of k xs) 0 ≡ 1 + place_of k xs
    = ap (λ b. cond (not (not b)) (1 + place_of k xs) 0)
    (point.0 0 x (omega arith) (omega arith)) in
    omega (arith, later, here)

-- none of the objects after a key is of it
none_after : (k : Key) (os : List Obj) → T (below_all key_cmp k (map entry os)) →
    find (λ o. eq_by_cmp key_cmp k o.key) os ≡ None
none_after k [] h = refl
none_after k (x ∷ xs) h =
    let parts = T_parts (is_lt (key_cmp k x.key)) (below_all key_cmp k (map entry xs)) h in
    ap (λ r. cond (is_eq r) (Some x) (find (λ o. eq_by_cmp key_cmp k o.key) xs))
    (is_Less _ parts.0) ∙ none_after k xs parts.1

none_from : (k l : Key) (os : List Obj) → key_cmp k l ≡ Less →
    T (below_all key_cmp l (map entry os)) → T (below_all key_cmp k (map entry os))
none_from k l [] low h = tt
none_from k l (x ∷ xs) low h =
    let parts = T_parts (is_lt (key_cmp l x.key)) (below_all key_cmp l (map entry xs)) h in
    both (is_lt (key_cmp k x.key)) (below_all key_cmp k (map entry xs))
    (ap is_lt (keys_total.trans k l x.key low (is_Less _ parts.0)))
    (none_from k l xs low parts.1)

-- the object of a key stands at its place, if there is one
abbrev pub at_place : Key → List Obj → Option Obj
at_place k os = option_and_then (λ o. cond (eq_by_cmp key_cmp k o.key) (Some o) None)
    (slice_get os (place_of k os))

later_get : (x : Obj) (xs : List Obj) (n : ℕ) → slice_get (x ∷ xs) (1 + n) ≡ slice_get xs n
later_get x xs n = rw one-add

search_place : (k : Key) (os : List Obj) → T (is_sorted key_cmp (map entry os)) →
    find (λ o. eq_by_cmp key_cmp k o.key) os ≡ at_place k os
search_place k [] h = refl
search_place k (x ∷ xs) h =
    let parts = T_parts (below_all key_cmp x.key (map entry xs)) (is_sorted key_cmp (map entry xs))
    h in
    elim (key_cmp k x.key) as (λ r. key_cmp k x.key ≡ r → cond (is_eq r) (Some x)
    (find (λ o. eq_by_cmp key_cmp k o.key) xs)
    ≡ option_and_then (λ o. cond (eq_by_cmp key_cmp k o.key) (Some o) None)
    (slice_get (x ∷ xs) (cond (not (not (is_gt r))) (1 + place_of k xs) 0))) [
      | Less ↦ λ e. none_after k xs (none_from k x.key xs e parts.0)
          ∙ sym (ap (λ r. cond (is_eq r) (Some x) None) e)
      | Equal ↦ λ e. sym (ap (λ r. cond (is_eq r) (Some x) None) e)
      | Greater ↦ λ e. search_place k xs parts.1
          ∙ ap (option_and_then (λ o. cond (eq_by_cmp key_cmp k o.key) (Some o) None))
          (sym (later_get x xs (place_of k xs)))
    ] refl

pub found_at_place : (k : Key) (os : List Obj) → is_in_order os ≡ true →
    find (λ o. eq_by_cmp key_cmp k o.key) os ≡ at_place k os
found_at_place k os e = search_place k os (subst T (sym e) tt)

-- a key does not stand at its place where nothing does, or another key
pub found_nowhere : (k : Key) (os : List Obj) → is_in_order os ≡ true →
    slice_get os (place_of k os) ≡ None → find (λ o. eq_by_cmp key_cmp k o.key) os ≡ None
found_nowhere k os e none = found_at_place k os e
    ∙ ap (option_and_then (λ o. cond (eq_by_cmp key_cmp k o.key) (Some o) None)) none

pub found_there : (k : Key) (os : List Obj) (o : Obj) (b : Bool) → is_in_order os ≡ true →
    slice_get os (place_of k os) ≡ Some o → b ≡ eq_by_cmp key_cmp k o.key →
    find (λ x. eq_by_cmp key_cmp k x.key) os ≡ cond b (Some o) None
found_there k os o b e there is =
    found_at_place k os e
    ∙ ap (option_and_then (λ x. cond (eq_by_cmp key_cmp k x.key) (Some x) None)) there
    ∙ ap (λ c. cond c (Some o) None) (sym is)

-- the same of mntners, which are known by their names
pub mntner_nowhere : (n : List ℕ) (os : List Obj) → is_in_order os ≡ true →
    slice_get os (place_of (Mntner n) os) ≡ None → find (λ o. is_mntner_of n o.key) os ≡ None
mntner_nowhere n os e none = sym (by_name n os) ∙ found_nowhere (Mntner n) os e none

pub mntner_there : (n : List ℕ) (os : List Obj) (o : Obj) (b : Bool) → is_in_order os ≡ true →
    slice_get os (place_of (Mntner n) os) ≡ Some o → b ≡ is_mntner_of n o.key →
    find (λ x. is_mntner_of n x.key) os ≡ cond b (Some o) None
mntner_there n os o b e there is = sym (by_name n os) ∙ found_there (Mntner n) os o b e there
    (is ∙ sym (mntner_key n o.key))

-- an object of a key stands at its place, if there is one
standing : (k : Key) (o : Option Obj) → option_map_or (λ x. eq_by_cmp key_cmp k x.key) o false
    ≡ true → option_and_then (λ x. cond (eq_by_cmp key_cmp k x.key) (Some x) None) o ≡ o
standing k None e = cc
standing k (Some x) e = ap (λ b. cond b (Some x) None) e

none_standing : (k : Key) (o : Option Obj) → option_map_or (λ x. eq_by_cmp key_cmp k x.key) o false
    ≡ false → option_and_then (λ x. cond (eq_by_cmp key_cmp k x.key) (Some x) None) o ≡ None
none_standing k None e = refl
none_standing k (Some x) e = ap (λ b. cond b (Some x) None) e

pub found_standing : (k : Key) (os : List Obj) (i : ℕ) → is_in_order os ≡ true →
    i ≡ place_of k os → stands_at k os i ≡ true → find (λ o. eq_by_cmp key_cmp k o.key) os
    ≡ slice_get os i
found_standing k os i e at stands =
    let there : stands_at k os (place_of k os) ≡ true = subst (λ j. stands_at k os j ≡ true) at
    stands in
    found_at_place k os e ∙ standing k (slice_get os (place_of k os)) there ∙ ap (slice_get os)
    (sym at)

pub found_not_standing : (k : Key) (os : List Obj) (i : ℕ) → is_in_order os ≡ true →
    i ≡ place_of k os → stands_at k os i ≡ false → find (λ o. eq_by_cmp key_cmp k o.key) os ≡ None
found_not_standing k os i e at stands =
    let there : stands_at k os (place_of k os) ≡ false = subst (λ j. stands_at k os j ≡ false) at
    stands in
    found_at_place k os e ∙ none_standing k (slice_get os (place_of k os)) there

-- objects after a key are others
others_after : (k : Key) (os : List Obj) → T (below_all key_cmp k (map entry os)) →
    filter (λ o. not (eq_by_cmp key_cmp k o.key)) os ≡ os
others_after k [] h = refl
others_after k (x ∷ xs) h =
    let parts = T_parts (is_lt (key_cmp k x.key)) (below_all key_cmp k (map entry xs)) h in
    ap (λ r. cond (not (is_eq r)) (x ∷ filter (λ o. not (eq_by_cmp key_cmp k o.key)) xs)
    (filter (λ o. not (eq_by_cmp key_cmp k o.key)) xs)) (is_Less _ parts.0)
    ∙ ap (λ ys. x ∷ ys) (others_after k xs parts.1)

later_remove : (x : Obj) (xs : List Obj) (n : ℕ) → remove (x ∷ xs) (1 + n) ≡ x ∷ remove xs n
later_remove x xs n = rw one-add

taken_at : Key → List Obj → ℕ → List Obj
taken_at k os i = cond (stands_at k os i) (remove os i) os

later_taken : (k : Key) (x : Obj) (xs : List Obj) (n : ℕ) → taken_at k (x ∷ xs) (1 + n) ≡ x
    ∷ taken_at k xs n
unfolding taken_at
later_taken k x xs n =
    elim (stands_at k xs n) as (λ b. stands_at k xs n ≡ b → cond (stands_at k (x ∷ xs) (1 + n))
    (remove (x ∷ xs) (1 + n)) (x ∷ xs) ≡ x ∷ cond b (remove xs n) xs) [
      | true ↦ λ e. ap (λ b. cond b (remove (x ∷ xs) (1 + n)) (x ∷ xs)) (later_stands k x xs n ∙ e)
          ∙ later_remove x xs n
      | false ↦ λ e. ap (λ b. cond b (remove (x ∷ xs) (1 + n)) (x ∷ xs)) (later_stands k x xs n ∙ e)
    ] refl

others_taken : (k : Key) (os : List Obj) → T (is_sorted key_cmp (map entry os)) →
    filter (λ o. not (eq_by_cmp key_cmp k o.key)) os ≡ taken_at k os (place_of k os)
unfolding taken_at
others_taken k [] h = refl
others_taken k (x ∷ xs) h =
    let parts = T_parts (below_all key_cmp x.key (map entry xs)) (is_sorted key_cmp (map entry xs))
    h in
    let rest = filter (λ o. not (eq_by_cmp key_cmp k o.key)) xs in
    elim (key_cmp k x.key) as (λ r. key_cmp k x.key ≡ r → cond (not (is_eq r)) (x ∷ rest) rest
    ≡ taken_at k (x ∷ xs) (cond (not (not (is_gt r))) (1 + place_of k xs) 0)) [
      | Less ↦ λ e. ap (λ ys. x ∷ ys) (others_after k xs (none_from k x.key xs e parts.0))
          ∙ sym (ap (λ r. cond (is_eq r) xs (x ∷ xs)) e)
      | Equal ↦ λ e. others_after k xs (subst (λ (l : Key). T (below_all key_cmp l (map entry xs)))
          (sym (keys_exact k x.key e)) parts.0) ∙ sym (ap (λ r. cond (is_eq r) xs (x ∷ xs)) e)
      | Greater ↦ λ e. ap (λ ys. x ∷ ys) (others_taken k xs parts.1)
          ∙ sym (later_taken k x xs (place_of k xs))
    ] refl

-- the others are what is left where the object at the place of a key is taken out, if it has the
-- key
pub others_left : (k : Key) (os : List Obj) (i : ℕ) (b : Bool) → is_in_order os ≡ true →
    i ≡ place_of k os → stands_at k os i ≡ b → filter (λ o. not (eq_by_cmp key_cmp k o.key)) os
    ≡ cond b (remove os i) os
unfolding taken_at
others_left k os i b e at stands =
    others_taken k os (subst T (sym e) tt) ∙ ap (taken_at k os) (sym at)
    ∙ ap (λ c. cond c (remove os i) os) stands
