-- How often the objects of a registry name each maintainer, as objects come and go.
-- Counts are sums, so an object changes each by how often it names that maintainer. It is long
-- because counting up and down are loops with invariants, and a mntner's own name does not count.
-- Sums and differences are set out for arithmetic by hand. `NamingIndex`, `Indexes`,
-- `IndexedBook::change` and `names_maintainer` need it.
use Rattle.std.proofs.Common.{◌≡◌, ◌+◌, ℕ, zero, suc, Bool, true, false, cond, not, List, [], ◌∷◌}
use Rattle.std.proofs.Common.{◌++◌, length, take, append_assoc, length-append, arith, refl, sym, ap}
use Rattle.std.proofs.Common.{subst, ◌∙◌}
use Rattle.std.specs.Prelude.{◌-◌, ◌&&◌, ◌||◌, Option, None, Some, nat_lt, unwrap_or}
use Rattle.std.specs.BTreeMap.{BTreeMap, get as count_under, is_at}
use Rattle.std.specs.Cmp.Lexicographic.{slice_cmp}
use Rattle.std.specs.FinMap.{empty, get, insert, remove, values}
use Rattle.std.specs.List.{count_by, list_any, sum_by}
use Rattle.std.specs.Map.{lookup}
use Rattle.std.specs.Option.{option_map_or}
use Rattle.std.specs.Ordering.{nat_cmp}
use Rattle.std.specs.Str.{bytes_eq}
use Rattle.std.proofs.lemmas.Bool.{true≢false}
use Rattle.std.proofs.lemmas.Bool.Decides.{nat_tests}
use Rattle.std.proofs.lemmas.List.{append-nil}
use Rattle.std.proofs.lemmas.List.Sums.{sum_by-append}
use Rattle.std.proofs.lemmas.Map.Text.{is_eq-slice_cmp}
use Rattle.std.proofs.lemmas.Slice.Eq.{bytes_eq-Decides}
use Rattle.std.proofs.Math.Seq.{take-append_seam}
use Rattle.rr_auth.specs.Registries.{Reg, is_mntner_of, is_other_naming}
use Rattle.rr_book.proofs.Order.{empty_book, values_of_book}
use Rattle.rr_index.proofs.Counts.{insert_total, remove_total, sum_cons}
use Rattle.rr_index.specs.NamingIndexes.{HasNamings, count_at, namings, namings_by}
use Rattle.rr_object.specs.declared.key.Key.{Key}
use Rattle.rr_object.specs.Objects.{Obj, names_of}

abbrev pub Counts : Type 0
Counts = BTreeMap (List ℕ) ℕ

-- the map has this count under the name, and what it had under each other
abbrev pub ChangesAt : List ℕ → Option ℕ → Counts → Counts → Type 0
ChangesAt name count old new = (other : List ℕ) → count_under (slice_cmp nat_cmp) new other
    ≡ cond (is_at (slice_cmp nat_cmp name) other) count (count_under (slice_cmp nat_cmp) old other)

count_changed : (old new : Counts) (name : List ℕ) (count : Option ℕ) → ChangesAt name count old new
    → (other : List ℕ) → count_at new other ≡ cond (bytes_eq name other) (unwrap_or count 0)
    (count_at old other)
count_changed old new name count change other =
    ap (λ o. unwrap_or o 0)
    (change other ∙ ap (λ b. cond b count (count_under (slice_cmp nat_cmp) old other))
    (is_eq-slice_cmp name other))
    ∙ elim (bytes_eq name other) as
    (λ b. unwrap_or (cond b count (count_under (slice_cmp nat_cmp) old other)) 0
    ≡ cond b (unwrap_or count 0) (count_at old other)) [ true ↦ refl | false ↦ refl ]

same_count : (old : Counts) (name other : List ℕ) → bytes_eq name other ≡ true → count_at old name
    ≡ count_at old other
same_count old name other e = ap (λ n. count_at old n) ((bytes_eq-Decides name other).0 e)

plus_none : (a : ℕ) → a ≡ a + 0
plus_none a = omega arith

less_none : (a : ℕ) → a ≡ a - 0
less_none a = omega arith

-- one more under a name
pub one_up : (old new : Counts) (name : List ℕ) (count : ℕ) → ChangesAt name (Some count) old new →
    count ≡ count_at old name + 1
    → (other : List ℕ) → count_at new other ≡ count_at old other + cond (bytes_eq name other) 1 0
one_up old new name count change is other =
    count_changed old new name (Some count) change other
    ∙ elim (bytes_eq name other) as (λ b. bytes_eq name other ≡ b →
    cond b count (count_at old other) ≡ count_at old other + cond b 1 0) [
      | true ↦ λ e. is ∙ ap (λ a. a + 1) (same_count old name other e)
      | false ↦ λ e. plus_none (count_at old other)
    ] refl

-- one less under a name
pub one_down : (old new : Counts) (name : List ℕ) (count : ℕ) → ChangesAt name (Some count) old new
    → count ≡ count_at old name - 1
    → (other : List ℕ) → count_at new other ≡ count_at old other - cond (bytes_eq name other) 1 0
one_down old new name count change is other =
    count_changed old new name (Some count) change other
    ∙ elim (bytes_eq name other) as (λ b. bytes_eq name other ≡ b →
    cond b count (count_at old other) ≡ count_at old other - cond b 1 0) [
      | true ↦ λ e. is ∙ ap (λ a. a - 1) (same_count old name other e)
      | false ↦ λ e. less_none (count_at old other)
    ] refl

-- the same under a name
pub same_under : (old new : Counts) (name : List ℕ) (count : Option ℕ) → ChangesAt name count old
    new → unwrap_or count 0 ≡ count_at old name
    → (other : List ℕ) → count_at new other ≡ count_at old other
same_under old new name count change is other =
    count_changed old new name count change other
    ∙ elim (bytes_eq name other) as (λ b. bytes_eq name other ≡ b → cond b (unwrap_or count 0)
    (count_at old other) ≡ count_at old other) [
      | true ↦ λ e. is ∙ same_count old name other e
      | false ↦ λ e. refl
    ] refl

-- the first under a name
pub first_up : (old mid new : Counts) (name given : List ℕ) → mid ≡ old →
    None ≡ count_under (slice_cmp nat_cmp) old name → given ≡ name → ChangesAt given (Some 1) mid
    new
    → (other : List ℕ) → count_at new other ≡ count_at old other + cond (bytes_eq name other) 1 0
first_up old mid new name given begun none same change =
    one_up old new name 1
    (λ other.
    subst (λ (n : List ℕ). ChangesAt n (Some 1) mid new) same change other
    ∙ ap (λ (m : Counts). cond (is_at (slice_cmp nat_cmp name) other) (Some 1)
    (count_under (slice_cmp nat_cmp) m other)) begun)
    (ap (λ (o : Option ℕ). unwrap_or o 0 + 1) none)

-- a name that is not counted has none to lose
pub none_down : (old new : Counts) (name : List ℕ) → new ≡ old →
    None ≡ count_under (slice_cmp nat_cmp) old name
    → (other : List ℕ) → count_at new other ≡ count_at old other - cond (bytes_eq name other) 1 0
none_down old new name same none other =
    ap (λ (m : Counts). count_at m other) same
    ∙ elim (bytes_eq name other) as (λ b. bytes_eq name other ≡ b → count_at old other ≡ count_at
    old other - cond b 1 0) [
      | true ↦ λ e.
          let nothing : count_at old other ≡ 0 = sym (same_count old name other e)
          ∙ ap (λ (o : Option ℕ). unwrap_or o 0) (sym none) in
          omega arith
      | false ↦ λ e. less_none (count_at old other)
    ] refl

-- no names are counted of no objects
pub namings_none : (counts : Counts) → counts.entries ≡ [] → HasNamings empty counts
namings_none counts none = λ name.
    ap (λ (es : List (List ℕ × ℕ)). unwrap_or (lookup (is_at (slice_cmp nat_cmp name)) es) 0) none
    ∙ sym (ap (sum_by (namings_by name)) (ap values (sym empty_book) ∙ values_of_book [] refl))

back_to : (new mid was m s : ℕ) → new ≡ mid - m → mid ≡ was + m → was ≡ s → new ≡ s
back_to new mid was m s a b c = omega arith

more_by : (new was m now w s : ℕ) → now + w ≡ s + m → new ≡ was + m → was ≡ s → w ≡ 0 → new ≡ now
more_by new was m now w s a b c d = omega arith

less_by : (new was m now s : ℕ) → now + m ≡ s → new ≡ was - m → was ≡ s → new ≡ now
less_by new was m now s a b c = omega arith

moved_by : (new mid was m l now w s : ℕ) → now + w ≡ s + m → mid ≡ was + m → new ≡ mid - l →
    was ≡ s → w ≡ l → new ≡ now
moved_by new mid was m l now w s a b c d e = omega arith

module _ (r : Reg) (old : Counts) (has : HasNamings r old) where
  -- what was counted of an object was taken back
  pub namings_back : (o : Obj) (mid new : Counts) →
      ((n : List ℕ) → count_at mid n ≡ count_at old n + namings_by n o)
      → ((n : List ℕ) → count_at new n ≡ count_at mid n - namings_by n o) → HasNamings r new
  namings_back o mid new add take = λ n. back_to _ _ _ _ _ (take n) (add n) (has n)

  -- nothing was changed
  pub namings_same : (new : Counts) → ((n : List ℕ) → count_at new n ≡ count_at old n) →
      HasNamings r new
  namings_same new same = λ n. same n ∙ has n

  -- an object was put where none stood
  pub namings_added : (o : Obj) (new : Counts) → get r o.key ≡ None →
      ((n : List ℕ) → count_at new n ≡ count_at old n + namings_by n o)
      → HasNamings (insert r o.key o) new
  namings_added o new free add = λ n.
      more_by _ _ (namings_by n o) _ _ _ (insert_total (namings_by n) r o.key o) (add n) (has n)
      (ap (λ v. option_map_or (namings_by n) v 0) free)

  -- an object was taken out
  pub namings_gone : (o : Obj) (new : Counts) → get r o.key ≡ Some o →
      ((n : List ℕ) → count_at new n ≡ count_at old n - namings_by n o)
      → HasNamings (remove r o.key) new
  namings_gone o new stood take = λ n. less_by _ _ (namings_by n o) _ _
      (remove_total (namings_by n) r o.key o stood) (take n) (has n)

  -- an object was put in place of another
  pub namings_changed : (o x : Obj) (mid new : Counts) → get r o.key ≡ Some x →
      ((n : List ℕ) → count_at mid n ≡ count_at old n + namings_by n o)
      → ((n : List ℕ) → count_at new n ≡ count_at mid n - namings_by n x) →
      HasNamings (insert r o.key o) new
  namings_changed o x mid new stood add take = λ n.
      moved_by _ _ _ (namings_by n o) (namings_by n x) _ _ _
      (insert_total (namings_by n) r o.key o) (add n) (take n) (has n)
      (ap (λ v. option_map_or (namings_by n) v 0) stood)

positive_sum : (a b : ℕ) → nat_lt 0 (a + b) ≡ (nat_lt 0 a || nat_lt 0 b)
positive_sum a b = grind (arith, nat_tests)

counted_any : {X : Type 0} (p : X → Bool) (xs : List X) → nat_lt 0 (count_by p xs) ≡ list_any p xs
counted_any p [] = refl
counted_any p (x ∷ xs) =
    ap (nat_lt 0) (sum_cons (λ y. cond (p y) 1 0) x xs)
    ∙ positive_sum (cond (p x) 1 0) (count_by p xs)
    ∙ ap (λ b. nat_lt 0 (cond (p x) 1 0) || b) (counted_any p xs)
    ∙ elim (p x) as (λ b. (nat_lt 0 (cond b 1 0) || list_any p xs) ≡ (b || list_any p xs))
    [ true ↦ refl | false ↦ refl ]

named_one : (name : List ℕ) (o : Obj) → nat_lt 0 (namings_by name o) ≡ is_other_naming name o
named_one name o =
    elim (is_mntner_of name o.key) as
    (λ b. nat_lt 0 (cond b 0 (count_by (λ n. bytes_eq n name) (names_of o)))
    ≡ (not b && list_any (λ n. bytes_eq n name) (names_of o))) [
      | true ↦ refl
      | false ↦ counted_any (λ n. bytes_eq n name) (names_of o)
    ]

-- a maintainer is named where it is counted
pub named_told : (name : List ℕ) (os : List Obj) → nat_lt 0 (sum_by (namings_by name) os)
    ≡ list_any (is_other_naming name) os
named_told name [] = refl
named_told name (o ∷ os) =
    ap (nat_lt 0) (sum_cons (namings_by name) o os)
    ∙ positive_sum (namings_by name o) (sum_by (namings_by name) os)
    ∙ (λ i. named_one name o i || named_told name os i)

either_way : (b : Bool) (a : ℕ) → cond b a a ≡ a
either_way true a = refl
either_way false a = refl

namings_nil : (n : List ℕ) (key : Key) → namings n key [] ≡ 0
namings_nil n key = either_way (is_mntner_of n key) 0

namings_append : (n : List ℕ) (key : Key) (xs ys : List (List ℕ)) → namings n key (xs ++ ys)
    ≡ namings n key xs + namings n key ys
namings_append n key xs ys =
    elim (is_mntner_of n key) as (λ b. cond b 0 (count_by (λ m. bytes_eq m n) (xs ++ ys))
    ≡ cond b 0 (count_by (λ m. bytes_eq m n) xs) + cond b 0 (count_by (λ m. bytes_eq m n) ys)) [
      | true ↦ refl
      | false ↦ sum_by-append (λ m. cond (bytes_eq m n) 1 0) xs ys
    ]

namings_cons : (n : List ℕ) (key : Key) (x : List ℕ) (xs : List (List ℕ)) → namings n key (x ∷ xs)
    ≡ namings n key (x ∷ []) + namings n key xs
namings_cons n key x xs = namings_append n key (x ∷ []) xs

own_case : (own same : Bool) → (same ≡ true → own ≡ true) → cond own 0 (0 + cond same 1 0) ≡ 0
own_case true same h = refl
own_case false true h = absurd (true≢false (sym (h refl)))
own_case false false h = refl

other_case : (own same : Bool) → (same ≡ true → own ≡ false) → cond same 1 0 ≡ cond own 0
    (0 + cond same 1 0)
other_case true true h = absurd (true≢false (h refl))
other_case true false h = refl
other_case false true h = refl
other_case false false h = refl

same_name : (n name : List ℕ) (key : Key) (own : Bool) → is_mntner_of name key ≡ own →
    bytes_eq name n ≡ true → is_mntner_of n key ≡ own
same_name n name key own is e = ap (λ m. is_mntner_of m key) (sym ((bytes_eq-Decides name n).0 e))
    ∙ is

own_none : (n name : List ℕ) (key : Key) → is_mntner_of name key ≡ true → namings n key (name ∷ [])
    ≡ 0
own_none n name key own = own_case (is_mntner_of n key) (bytes_eq name n)
    (same_name n name key true own)

other_one : (n name : List ℕ) (key : Key) → is_mntner_of name key ≡ false → cond (bytes_eq name n)
    1 0 ≡ namings n key (name ∷ [])
other_one n name key other = other_case (is_mntner_of n key) (bytes_eq name n)
    (same_name n name key false other)

-- a mntner's own name does not count
pub own_up : (old : Counts) (name : List ℕ) (key : Key) → is_mntner_of name key ≡ true →
    (n : List ℕ) → count_at old n ≡ count_at old n + namings n key (name ∷ [])
own_up old name key own n = plus_none (count_at old n) ∙ ap (λ a. count_at old n + a)
    (sym (own_none n name key own))

pub own_down : (old : Counts) (name : List ℕ) (key : Key) → is_mntner_of name key ≡ true →
    (n : List ℕ) → count_at old n ≡ count_at old n - namings n key (name ∷ [])
own_down old name key own n = less_none (count_at old n) ∙ ap (λ a. count_at old n - a)
    (sym (own_none n name key own))

-- any other does
pub other_up : (old new : Counts) (name : List ℕ) (key : Key) → is_mntner_of name key ≡ false
    → ((n : List ℕ) → count_at new n ≡ count_at old n + cond (bytes_eq name n) 1 0) →
    (n : List ℕ) → count_at new n ≡ count_at old n + namings n key (name ∷ [])
other_up old new name key other up n = up n ∙ ap (λ a. count_at old n + a)
    (other_one n name key other)

pub other_down : (old new : Counts) (name : List ℕ) (key : Key) → is_mntner_of name key ≡ false
    → ((n : List ℕ) → count_at new n ≡ count_at old n - cond (bytes_eq name n) 1 0) →
    (n : List ℕ) → count_at new n ≡ count_at old n - namings n key (name ∷ [])
other_down old new name key other down n = down n ∙ ap (λ a. count_at old n - a)
    (other_one n name key other)

-- the first names of an object were counted, as many as this
pub record CountsSo (all rest : List (List ℕ)) (key : Key) (counted : ℕ) (old now : Counts) :
    Type 0 where
  pub done : List (List ℕ)
  pub whole : done ++ rest ≡ all
  pub many : length done ≡ counted
  pub counts : (n : List ℕ) → count_at now n ≡ count_at old n + namings n key done

pub counts_begin : (all rest : List (List ℕ)) (key : Key) (old : Counts) → rest ≡ all →
    CountsSo all rest key 0 old old
counts_begin all rest key old is = record {
  done = [];
  whole = is;
  many = refl;
  counts = λ n. plus_none (count_at old n) ∙ ap (λ a. count_at old n + a) (sym (namings_nil n key));
}

sum_on : (new mid was d w all : ℕ) → new ≡ mid + w → mid ≡ was + d → all ≡ d + w → new ≡ was + all
sum_on new mid was d w all a b c = omega arith

one_more : (a b c : ℕ) → a ≡ b + 1 → b ≡ c → a ≡ c + 1
one_more a b c e f = omega arith

pub counts_on : (all left rest : List (List ℕ)) (key : Key) (counted more : ℕ) (name : List ℕ)
    (old mid new : Counts) → CountsSo all left key counted old mid → left ≡ name ∷ rest →
    more ≡ counted + 1
    → ((n : List ℕ) → count_at new n ≡ count_at mid n + namings n key (name ∷ [])) →
    CountsSo all rest key more old new
counts_on all left rest key counted more name old mid new so step next up = record {
  done = so.done ++ name ∷ [];
  whole = append_assoc so.done (name ∷ []) rest ∙ ap (λ xs. so.done ++ xs) (sym step) ∙ so.whole;
  many = one_more _ _ _ (length-append so.done (name ∷ [])) so.many ∙ sym next;
  counts = λ n. sum_on _ _ _ _ _ _ (up n) (so.counts n) (namings_append n key so.done (name ∷ []));
}

pub counts_all : (all rest : List (List ℕ)) (key : Key) (counted : ℕ) (old now : Counts) →
    CountsSo all rest key counted old now → rest ≡ []
    → (n : List ℕ) → count_at now n ≡ count_at old n + namings n key all
counts_all all rest key counted old now so none n =
    so.counts n ∙ ap (λ xs. count_at old n + namings n key xs)
    (sym (append-nil so.done) ∙ ap (λ xs. so.done ++ xs) (sym none) ∙ so.whole)

pub counts_first : (all rest : List (List ℕ)) (key : Key) (counted : ℕ) (old now : Counts) →
    CountsSo all rest key counted old now
    → (n : List ℕ) → count_at now n ≡ count_at old n + namings n key (take counted all)
counts_first all rest key counted old now so n =
    so.counts n
    ∙ ap (λ xs. count_at old n + namings n key xs) (sym (take-append_seam so.done rest)
    ∙ ap (take (length so.done)) so.whole ∙ ap (λ k. take k all) so.many)

-- what is left of the names is to be taken back
abbrev pub TakesSo : List (List ℕ) → List (List ℕ) → Key → Counts → Counts → Type 0
TakesSo all rest key old now = (n : List ℕ) → count_at now n - namings n key rest ≡ count_at old n
    - namings n key all

less_on : (new mid w l t z : ℕ) → new ≡ mid - w → l ≡ w + t → mid - l ≡ z → new - t ≡ z
less_on new mid w l t z a b c = omega arith

pub takes_on : (all left rest : List (List ℕ)) (key : Key) (name : List ℕ) (old mid new : Counts) →
    TakesSo all left key old mid → left ≡ name ∷ rest
    → ((n : List ℕ) → count_at new n ≡ count_at mid n - namings n key (name ∷ [])) →
    TakesSo all rest key old new
takes_on all left rest key name old mid new so step down = λ n.
    less_on _ _ _ _ _ _ (down n) (ap (namings n key) step ∙ namings_cons n key name rest) (so n)

pub takes_all : (all rest : List (List ℕ)) (key : Key) (old now : Counts) → TakesSo all rest key
    old now → rest ≡ []
    → (n : List ℕ) → count_at now n ≡ count_at old n - namings n key all
takes_all all rest key old now so none n =
    less_none (count_at now n) ∙ ap (λ a. count_at now n - a)
    (sym (ap (namings n key) none ∙ namings_nil n key)) ∙ so n

-- the first of some names
pub prefix_on : (left : ℕ) (name : List ℕ) (rest : List (List ℕ)) → (left ≡ 0 → ⊥) →
    take left (name ∷ rest) ≡ name ∷ take (left - 1) rest
prefix_on zero name rest some = absurd (some refl)
prefix_on (suc m) name rest some = let e : suc m - 1 ≡ m = omega arith in
    ap (λ k. name ∷ take k rest) (sym e)

pub prefix_none : (left : ℕ) (rest : List (List ℕ)) → left ≡ 0 → take left rest ≡ []
prefix_none left rest e = ap (λ k. take k rest) e

pub prefix_empty : (left : ℕ) (rest : List (List ℕ)) → rest ≡ [] → take left rest ≡ []
prefix_empty zero rest e = refl
prefix_empty (suc m) rest e = ap (take (suc m)) e

put_back_one : (new mid was m : ℕ) → new ≡ mid - m → mid ≡ was + m → new ≡ was
put_back_one new mid was m a b = omega arith

-- what was counted in vain was taken back
pub counts_back : (names : List (List ℕ)) (key : Key) (old mid new : Counts) →
    ((n : List ℕ) → count_at mid n ≡ count_at old n + namings n key names)
    → ((n : List ℕ) → count_at new n ≡ count_at mid n - namings n key names) → (n : List ℕ) →
    count_at new n ≡ count_at old n
counts_back names key old mid new add less n = put_back_one _ _ _ _ (less n) (add n)
