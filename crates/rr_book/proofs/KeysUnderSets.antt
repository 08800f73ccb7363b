-- The keys under the names of sets, and the objects that they lead to. It is long because adding
-- and taking back are loops over names, each with its Boolean table. `SetIndex` needs it.
use Rattle.std.proofs.Common.{◌≡◌, ◌<◌, ◌+◌, ◌&&◌, ◌||◌, length, map, take, T, ℕ, zero, suc, Bool}
use Rattle.std.proofs.Common.{true, false, cond, not, List, [], ◌∷◌, get_or, IsTrue, Option, None}
use Rattle.std.proofs.Common.{Some, refl, sym, ap, subst, ◌∙◌}
use Rattle.std.specs.Prelude.{Result, Ok, Err, OnErr, filter, find}
use Rattle.std.specs.BTreeMap.{BTreeMap, get as keys_at, is_at}
use Rattle.std.specs.BTreeSet.{BTreeSet, contains, Updates}
use Rattle.std.specs.Cmp.Lexicographic.{slice_cmp}
use Rattle.std.specs.FinMap.{get, insert, remove, get-insert, get-remove, is_sorted}
use Rattle.std.specs.FinMap.Entries.{below_all}
use Rattle.std.specs.Cmp.{eq_by_cmp_equiv}
use Rattle.std.specs.List.{list_any}
use Rattle.std.specs.Option.{option_map_or}
use Rattle.std.specs.declared.cmp.Ordering.{Ordering}
use Rattle.std.specs.Ordering.{eq_by_cmp, is_eq, is_lt, nat_cmp}
use Rattle.std.specs.Str.{bytes_eq}
use Rattle.std.proofs.lemmas.Bool.{true≢false}
use Rattle.std.proofs.lemmas.List.Folds.{list_any_more}
use Rattle.std.proofs.lemmas.Map.Text.{is_eq-slice_cmp}
use Rattle.std.proofs.lemmas.Slice.Eq.{bytes_eq-Decides}
use Rattle.rr_object.proofs.KeyLaws.{keys_total, same_key}
use Rattle.rr_auth.specs.Registries.{Sound}
use Rattle.rr_object.proofs.DerivedOrder.{derived_order}
use Rattle.rr_object.specs.contracts.key.KeyOrd.TheImpl as derived
use Rattle.rr_object.specs.declared.key.Key.{Key}
use Rattle.rr_object.specs.KeyOrders.{key_cmp}
use Rattle.rr_object.specs.Objects.{Obj}
use Rattle.rr_book.proofs.Order.{book_others, book_put, get_of_book, others_are_book, put_is_book}
use Rattle.rr_book.proofs.Places.{T_parts, is_Less}
use Rattle.rr_book.specs.Books.{IsBook, book_of, entry, put_in}
use Rattle.rr_book.specs.SetIndexes.{IsIndexed, is_meant, stands_under}
use Rattle.rr_book.specs.SetLists.{names_set}

abbrev Sets : Type 0
Sets = BTreeMap (List ℕ) (BTreeSet Key)

-- the map has these keys under the name, and what it had under each other
abbrev pub ChangesAt : List ℕ → Option (BTreeSet Key) → Sets → Sets → Type 0
ChangesAt name keys old new = (other : List ℕ) → keys_at (slice_cmp nat_cmp) new other
    ≡ cond (is_at (slice_cmp nat_cmp name) other) keys (keys_at (slice_cmp nat_cmp) old other)

abbrev among : Option (BTreeSet Key) → Key → Bool
among keys key = option_map_or (λ ks. contains key_cmp ks key) keys false

changed_under : (old new : Sets) (name : List ℕ) (keys : Option (BTreeSet Key)) →
    ChangesAt name keys old new
    → (other : List ℕ) (k : Key) → stands_under new other k ≡ cond (bytes_eq name other)
    (among keys k) (stands_under old other k)
changed_under old new name keys change other k =
    ap (λ o. among o k)
    (change other ∙ ap (λ b. cond b keys (keys_at (slice_cmp nat_cmp) old other))
    (is_eq-slice_cmp name other))
    ∙ elim (bytes_eq name other) as
    (λ b. among (cond b keys (keys_at (slice_cmp nat_cmp) old other)) k ≡ cond b (among keys k)
    (stands_under old other k)) [ true ↦ refl | false ↦ refl ]

or_last : (a b : Bool) → cond a true b ≡ (b || a)
or_last true true = refl
or_last true false = refl
or_last false true = refl
or_last false false = refl

or_none : (b : Bool) → b ≡ (b || false)
or_none true = refl
or_none false = refl

and_not : (a b : Bool) → cond a false b ≡ (b && not a)
and_not true true = refl
and_not true false = refl
and_not false true = refl
and_not false false = refl

and_all : (b : Bool) → b ≡ (b && true)
and_all true = refl
and_all false = refl

-- one more key under a set
pub added_under : (old new : Sets) (name : List ℕ) (key : Key) (keys : BTreeSet Key) →
    ChangesAt name (Some keys) old new
    → ((k : Key) → contains key_cmp keys k ≡ cond (eq_by_cmp key_cmp key k) true
    (stands_under old name k))
    → (other : List ℕ) (k : Key) → stands_under new other k
    ≡ (stands_under old other k || (bytes_eq name other && eq_by_cmp key_cmp key k))
added_under old new name key keys change is other k =
    changed_under old new name (Some keys) change other k
    ∙ elim (bytes_eq name other) as (λ b. bytes_eq name other ≡ b →
    cond b (contains key_cmp keys k) (stands_under old other k)
    ≡ (stands_under old other k || (b && eq_by_cmp key_cmp key k))) [
      | true ↦ λ e. is k ∙ ap (λ n. cond (eq_by_cmp key_cmp key k) true (stands_under old n k))
          ((bytes_eq-Decides name other).0 e) ∙ or_last (eq_by_cmp key_cmp key k)
          (stands_under old other k)
      | false ↦ λ e. or_none (stands_under old other k)
    ] refl

-- one key less under a set
pub taken_under : (old new : Sets) (name : List ℕ) (key : Key) (keys : BTreeSet Key) →
    ChangesAt name (Some keys) old new
    → ((k : Key) → contains key_cmp keys k ≡ cond (eq_by_cmp key_cmp key k) false
    (stands_under old name k))
    → (other : List ℕ) (k : Key) → stands_under new other k
    ≡ (stands_under old other k && not (bytes_eq name other && eq_by_cmp key_cmp key k))
taken_under old new name key keys change is other k =
    changed_under old new name (Some keys) change other k
    ∙ elim (bytes_eq name other) as (λ b. bytes_eq name other ≡ b →
    cond b (contains key_cmp keys k) (stands_under old other k)
    ≡ (stands_under old other k && not (b && eq_by_cmp key_cmp key k))) [
      | true ↦ λ e. is k ∙ ap (λ n. cond (eq_by_cmp key_cmp key k) false (stands_under old n k))
          ((bytes_eq-Decides name other).0 e) ∙ and_not (eq_by_cmp key_cmp key k)
          (stands_under old other k)
      | false ↦ λ e. and_all (stands_under old other k)
    ] refl

-- the same keys under a set
pub same_under : (old new : Sets) (name : List ℕ) (before after : BTreeSet Key) →
    ChangesAt name (Some after) old new
    → Some before ≡ keys_at (slice_cmp nat_cmp) old name → after.keys ≡ before.keys →
    (other : List ℕ) (k : Key) → stands_under new other k ≡ stands_under old other k
same_under old new name before after change there same other k =
    changed_under old new name (Some after) change other k
    ∙ elim (bytes_eq name other) as (λ b. bytes_eq name other ≡ b →
    cond b (contains key_cmp after k) (stands_under old other k) ≡ stands_under old other k) [
      | true ↦ λ e. ap (list_any (λ x. is_at (key_cmp k) x)) same ∙ ap (λ o. among o k) there
          ∙ ap (λ n. stands_under old n k) ((bytes_eq-Decides name other).0 e)
      | false ↦ λ e. refl
    ] refl

-- what an update of a set of keys does, by their order
pub updated_keys : (before after : BTreeSet Key) (key : Key) (b : Bool) →
    Updates (derived.ghosts).cmp before after key b
    → (k : Key) → contains key_cmp after k ≡ cond (eq_by_cmp key_cmp key k) b
    (contains key_cmp before k)
updated_keys before after key b update k =
    subst (λ (cmp : Key → Key → Ordering). contains cmp after k ≡ cond (is_at (cmp key) k) b
    (contains cmp before k)) (λ i x y. derived_order x y i) (update.0 k)

-- the first key under a set
pub first_under : (old mid new : Sets) (name given : List ℕ) (key copy : Key)
    (none_yet keys : BTreeSet Key) → mid ≡ old → None ≡ keys_at (slice_cmp nat_cmp) old name →
    given ≡ name → copy ≡ key
    → ChangesAt given (Some keys) mid new → none_yet.keys ≡ [] → Updates (derived.ghosts).cmp
    none_yet keys copy true
    → (other : List ℕ) (k : Key) → stands_under new other k
    ≡ (stands_under old other k || (bytes_eq name other && eq_by_cmp key_cmp key k))
first_under old mid new name given key copy none_yet keys begun none same_name same_key change
    empty update =
    added_under old new name key keys
    (λ other. subst (λ (n : List ℕ). ChangesAt n (Some keys) mid new) same_name change other
    ∙ ap (λ (m : Sets). cond (is_at (slice_cmp nat_cmp name) other) (Some keys)
    (keys_at (slice_cmp nat_cmp) m other)) begun)
    (λ k. updated_keys none_yet keys key true
    (subst (λ (l : Key). Updates (derived.ghosts).cmp none_yet keys l true) same_key update) k
    ∙ ap (cond (eq_by_cmp key_cmp key k) true) (ap (list_any (λ x. is_at (key_cmp k) x)) empty
    ∙ ap (λ o. among o k) none))

-- no key under a set
pub none_under : (old new : Sets) (name : List ℕ) → ChangesAt name None old new
    → ((k : Key) → stands_under old name k ≡ false)
    → (other : List ℕ) (k : Key) → stands_under new other k ≡ stands_under old other k
none_under old new name change none other k =
    changed_under old new name None change other k
    ∙ elim (bytes_eq name other) as (λ b. bytes_eq name other ≡ b →
    cond b false (stands_under old other k) ≡ stands_under old other k) [
      | true ↦ λ e. sym (none k) ∙ ap (λ n. stands_under old n k)
          ((bytes_eq-Decides name other).0 e)
      | false ↦ λ e. refl
    ] refl

-- what is so whatever the answer is so where it is an error
pub on_err : {X E : Type 0} {P : Type 0} (r : Result X E) → P → OnErr r P
on_err (Ok x) p = tt
on_err (Err e) p = p

less : (s e a d b : Bool) → (b ≡ true → d ≡ false) →
    ((s && not (e && (a && not d))) && not (b && e)) ≡ (s && not (e && ((a || b) && not d)))
less false e a d b h = refl
less true false a d true h = refl
less true false a d false h = refl
less true true true true false h = refl
less true true true false false h = refl
less true true false true false h = refl
less true true false false false h = refl
less true true true false true h = refl
less true true false false true h = refl
less true true true true true h = absurd (true≢false (h refl))
less true true false true true h = absurd (true≢false (h refl))

no_less : (a d b : Bool) → (b ≡ true → d ≡ true) → (a && not d) ≡ ((a || b) && not d)
no_less true d b h = refl
no_less false d false h = refl
no_less false true true h = refl
no_less false false true h = absurd (true≢false (sym (h refl)))

-- whether one of the first names is the name
abbrev in_head : List (List ℕ) → ℕ → List ℕ → Bool
in_head names i n = list_any (λ own. bytes_eq own n) (take i names)

before_more : (names : List (List ℕ)) (i : ℕ) (name n : List ℕ) → i < length names →
    name ≡ get_or names i name → in_head names (i + 1) n ≡ (in_head names i n || bytes_eq name n)
before_more names i name n inside is =
    list_any_more (λ own. bytes_eq own n) names i name inside
    ∙ ap (λ m. in_head names i n || bytes_eq m n) (sym is)

more : (s e a d b : Bool) → (b ≡ true → d ≡ false) → ((s || (e && (a && not d))) || (b && e))
    ≡ (s || (e && ((a || b) && not d)))
more true e a d b h = refl
more false false a d true h = refl
more false false a d false h = refl
more false true true true false h = refl
more false true true false false h = refl
more false true false d false h = refl
more false true true false true h = refl
more false true false false true h = refl
more false true true true true h = absurd (true≢false (h refl))
more false true false true true h = absurd (true≢false (h refl))

-- the key was put under those of the first names that are not left out
abbrev pub AddsFront : (List ℕ → Bool) → List (List ℕ) → Key → ℕ → Sets → Sets → Type 0
AddsFront out names key i old new = (n : List ℕ) (k : Key) → stands_under new n k
    ≡ (stands_under old n k || (eq_by_cmp key_cmp key k && (in_head names i n && not (out n))))

pub added_more : (out : List ℕ → Bool) (names : List (List ℕ)) (key : Key) (i : ℕ) (name : List ℕ)
    (old mid new : Sets) → i < length names → name ≡ get_or names i name → out name ≡ false
    → AddsFront out names key i old mid
    →
    ((n : List ℕ) (k : Key) → stands_under new n k
    ≡ (stands_under mid n k || (bytes_eq name n && eq_by_cmp key_cmp key k)))
    → AddsFront out names key (i + 1) old new
added_more out names key i name old mid new inside is goes before step n k =
    step n k
    ∙ ap (λ b. b || (bytes_eq name n && eq_by_cmp key_cmp key k)) (before n k)
    ∙ more (stands_under old n k) (eq_by_cmp key_cmp key k) (in_head names i n) (out n)
    (bytes_eq name n) (λ same. ap out (sym ((bytes_eq-Decides name n).0 same)) ∙ goes)
    ∙ ap (λ b. stands_under old n k || (eq_by_cmp key_cmp key k && (b && not (out n))))
    (sym (before_more names i name n inside is))

pub passed_more : (out : List ℕ → Bool) (names : List (List ℕ)) (key : Key) (i : ℕ) (name : List ℕ)
    (old new : Sets) → i < length names → name ≡ get_or names i name → out name ≡ true
    → AddsFront out names key i old new → AddsFront out names key (i + 1) old new
passed_more out names key i name old new inside is stay before n k =
    before n k
    ∙ ap (λ b. stands_under old n k || (eq_by_cmp key_cmp key k && b))
    (no_less (in_head names i n) (out n) (bytes_eq name n)
    (λ same. ap out (sym ((bytes_eq-Decides name n).0 same)) ∙ stay)
    ∙ ap (λ b. b && not (out n)) (sym (before_more names i name n inside is)))

grown : (i : ℕ) (names : List (List ℕ)) (n : List ℕ) → in_head names i n ≡ true →
    list_any (λ own. bytes_eq own n) names ≡ true
grown zero names n is = cc
grown (suc i) [] n is = cc
grown (suc i) (x ∷ xs) n is =
    elim (bytes_eq x n) as (λ b. (b || in_head xs i n) ≡ true →
    (b || list_any (λ own. bytes_eq own n) xs) ≡ true) [
      | true ↦ λ e. refl
      | false ↦ λ e.
          grown i xs n e
    ] is

or_grown : (s e a b d : Bool) → (a ≡ true → b ≡ true) → (s || (e && (a && d))) ≡ true →
    (s || (e && (b && d))) ≡ true
or_grown true e a b d h is = refl
or_grown false false a b d h is = is
or_grown false true true b d h is = ap (λ c. c && d) (h refl) ∙ is
or_grown false true false b d h is = cc

-- what stands under sets where an addition breaks off
pub some_of_all : (out : List ℕ → Bool) (names : List (List ℕ)) (key : Key) (i : ℕ)
    (old mid new : Sets) → AddsFront out names key i old mid →
    ((n : List ℕ) (k : Key) → stands_under new n k ≡ stands_under mid n k)
    → (n : List ℕ) (k : Key) → IsTrue (stands_under new n k) →
    IsTrue
    (stands_under old n k ||
    (eq_by_cmp key_cmp key k && (list_any (λ own. bytes_eq own n) names && not (out n))))
some_of_all out names key i old mid new before same n k is =
    or_grown (stands_under old n k) (eq_by_cmp key_cmp key k) (in_head names i n)
    (list_any (λ own. bytes_eq own n) names) (not (out n)) (grown i names n)
    (sym (before n k) ∙ sym (same n k) ∙ is)

-- one more of the names is in the set of them
pub set_more : (names : List (List ℕ)) (i : ℕ) (name : List ℕ) (old new : BTreeSet (List ℕ)) →
    i < length names → name ≡ get_or names i name → Updates (slice_cmp nat_cmp) old new name true
    → ((n : List ℕ) → contains (slice_cmp nat_cmp) old n ≡ in_head names i n) → (n : List ℕ) →
    contains (slice_cmp nat_cmp) new n ≡ in_head names (i + 1) n
set_more names i name old new inside is update before n =
    update.0 n
    ∙ ap (λ b. cond b true (contains (slice_cmp nat_cmp) old n)) (is_eq-slice_cmp name n)
    ∙ or_last (bytes_eq name n) (contains (slice_cmp nat_cmp) old n)
    ∙ ap (λ b. b || bytes_eq name n) (before n)
    ∙ sym (before_more names i name n inside is)

-- the key was taken from under those of the first names that have not to stay
abbrev pub TakesPrefix : (List ℕ → Bool) → List (List ℕ) → Key → ℕ → Sets → Sets → Type 0
TakesPrefix stays names key i old new = (n : List ℕ) (k : Key) → stands_under new n k
    ≡
    (stands_under old n k && not (eq_by_cmp key_cmp key k && (in_head names i n && not (stays n))))

pub taken_more : (stays : List ℕ → Bool) (names : List (List ℕ)) (key : Key) (i : ℕ)
    (name : List ℕ) (old mid new : Sets) → i < length names → name ≡ get_or names i name →
    stays name ≡ false
    → TakesPrefix stays names key i old mid
    →
    ((n : List ℕ) (k : Key) → stands_under new n k
    ≡ (stands_under mid n k && not (bytes_eq name n && eq_by_cmp key_cmp key k)))
    → TakesPrefix stays names key (i + 1) old new
taken_more stays names key i name old mid new inside is goes before step n k =
    step n k
    ∙ ap (λ b. b && not (bytes_eq name n && eq_by_cmp key_cmp key k)) (before n k)
    ∙ less (stands_under old n k) (eq_by_cmp key_cmp key k) (in_head names i n) (stays n)
    (bytes_eq name n) (λ same. ap stays (sym ((bytes_eq-Decides name n).0 same)) ∙ goes)
    ∙ ap (λ b. stands_under old n k && not (eq_by_cmp key_cmp key k && (b && not (stays n))))
    (sym (before_more names i name n inside is))

pub left_more : (stays : List ℕ → Bool) (names : List (List ℕ)) (key : Key) (i : ℕ) (name : List ℕ)
    (old new : Sets) → i < length names → name ≡ get_or names i name → stays name ≡ true
    → TakesPrefix stays names key i old new → TakesPrefix stays names key (i + 1) old new
left_more stays names key i name old new inside is stay before n k =
    before n k
    ∙ ap (λ b. stands_under old n k && not (eq_by_cmp key_cmp key k && b))
    (no_less (in_head names i n) (stays n) (bytes_eq name n)
    (λ same. ap stays (sym ((bytes_eq-Decides name n).0 same)) ∙ stay)
    ∙ ap (λ b. b && not (stays n)) (sym (before_more names i name n inside is)))

eq_swap : (a b : Key) → eq_by_cmp key_cmp a b ≡ eq_by_cmp key_cmp b a
eq_swap a b = (eq_by_cmp_equiv keys_total).symm a b

-- what is found under a key has it
pub found_has_key : (key : Key) (o : Obj) (os : List Obj) → find (λ x. eq_by_cmp key_cmp key x.key)
    os ≡ Some o → key ≡ o.key
found_has_key key o [] at = cc
found_has_key key o (x ∷ xs) at =
    elim (eq_by_cmp key_cmp key x.key) as (λ b. eq_by_cmp key_cmp key x.key ≡ b →
    cond b (Some x) (find (λ y. eq_by_cmp key_cmp key y.key) xs) ≡ Some o → key ≡ o.key) [
      | true ↦ λ e is. let this : x ≡ o = cc in same_key key x.key e ∙ ap (λ (y : Obj). y.key) this
      | false ↦ λ e is. found_has_key key o xs is
    ] refl at

module _ (os : List Obj) (old : Sets) (indexed : IsIndexed os old) where
  -- what stands under a set, by the object of the key
  at_key : (n : List ℕ) (key k : Key) → eq_by_cmp key_cmp key k ≡ true → stands_under old n k
      ≡ option_map_or (names_set n) (find (λ x. eq_by_cmp key_cmp key x.key) os) false
  at_key n key k same =
      indexed.referrers n k
      ∙ ap (λ l. option_map_or (names_set n) (get (book_of os) l) false) (sym (same_key key k same))
      ∙ ap (λ o. option_map_or (names_set n) o false) (get_of_book os key indexed.book.ordered)

  not_left : (a b : Bool) → (a && not b) ≡ true → b ≡ false
  not_left true true e = cc
  not_left true false e = refl
  not_left false b e = cc

  -- the key of an object does not stand under the sets that it names and the one that stood there
  -- does not
  pub fresh : (o : Obj) (before : List ℕ → Bool) →
      ((n : List ℕ) → before n ≡ option_map_or (names_set n)
      (find (λ x. eq_by_cmp key_cmp o.key x.key) os) false)
      → (n : List ℕ) (k : Key) → IsTrue (is_meant o before n k) → stands_under old n k ≡ false
  fresh o before is n k meant =
      elim (eq_by_cmp key_cmp o.key k) as (λ e. eq_by_cmp key_cmp o.key k ≡ e →
      (e && (names_set n o && not (before n))) ≡ true → stands_under old n k ≡ false) [
        | true ↦ λ same m. at_key n o.key k same ∙ sym (is n) ∙ not_left (names_set n o) (before n)
            m
        | false ↦ λ other m. cc
      ] refl meant

  undone : (s w : Bool) → (w ≡ true → s ≡ false) → ((s || w) && not w) ≡ s
  undone s true h = elim s as (λ b. b ≡ false → ((b || true) && false) ≡ b) [
    | true ↦ λ e. sym e
    | false ↦ λ e. refl
  ] (h refl)
  undone true false h = refl
  undone false false h = refl

  -- the object could not be put, and its key was taken back
  pub indexed_undone : (o : Obj) (before : List ℕ → Bool) (mid new : Sets) →
      ((n : List ℕ) → before n ≡ option_map_or (names_set n)
      (find (λ x. eq_by_cmp key_cmp o.key x.key) os) false)
      → ((n : List ℕ) (k : Key) → stands_under mid n k
      ≡ (stands_under old n k || is_meant o before n k))
      → ((n : List ℕ) (k : Key) → stands_under new n k
      ≡ (stands_under mid n k && not (is_meant o before n k)))
      → IsIndexed os new
  indexed_undone o before mid new is add take = record {
    book = indexed.book;
    referrers = λ n k.
        take n k ∙ ap (λ b. b && not (is_meant o before n k)) (add n k)
        ∙ undone (stands_under old n k) (is_meant o before n k) (fresh o before is n k)
        ∙ indexed.referrers n k;
  }

  -- nothing was changed
  pub indexed_same : (new : Sets) → ((n : List ℕ) (k : Key) → stands_under new n k ≡ stands_under
      old n k) → IsIndexed os new
  indexed_same new same = record {
    book = indexed.book;
    referrers = λ n k. same n k ∙ indexed.referrers n k;
  }

  changed_one : (was now : Bool) → ((was || (now && not was)) && not (was && not now)) ≡ now
  changed_one true true = refl
  changed_one true false = refl
  changed_one false true = refl
  changed_one false false = refl

  changed : (e s was now : Bool) → (e ≡ true → s ≡ was) →
      ((s || (e && (now && not was))) && not (e && (was && not now))) ≡ cond e now s
  changed true s was now h = ap (λ b. (b || (now && not was)) && not (was && not now)) (h refl)
      ∙ changed_one was now
  changed false true was now h = refl
  changed false false was now h = refl

  first : (e s now : Bool) → (e ≡ true → s ≡ false) → (s || (e && (now && true))) ≡ cond e now s
  first true s true h = ap (λ b. b || true) (h refl)
  first true s false h = ap (λ b. b || false) (h refl)
  first false true now h = refl
  first false false now h = refl

  after_put : (o : Obj) (n : List ℕ) (k : Key) → cond (eq_by_cmp key_cmp o.key k) (names_set n o)
      (stands_under old n k) ≡ option_map_or (names_set n) (get (insert (book_of os) o.key o) k)
      false
  after_put o n k =
      ap (cond (eq_by_cmp key_cmp o.key k) (names_set n o)) (indexed.referrers n k)
      ∙ elim (eq_by_cmp key_cmp o.key k) as
      (λ e. cond e (names_set n o) (option_map_or (names_set n) (get (book_of os) k) false)
      ≡ option_map_or (names_set n) (cond e (Some o) (get (book_of os) k)) false)
      [ true ↦ refl | false ↦ refl ]
      ∙ ap (λ b. option_map_or (names_set n) (cond b (Some o) (get (book_of os) k)) false)
      (eq_swap o.key k)
      ∙ ap (λ x. option_map_or (names_set n) x false)
      (sym (get-insert keys_total (book_of os) o.key o k))

  put_so : (after : List Obj) (o : Obj) (new : Sets) → Sound (insert (book_of os) o.key o) →
      after ≡ put_in o os
      → ((n : List ℕ) (k : Key) → stands_under new n k ≡ cond (eq_by_cmp key_cmp o.key k)
      (names_set n o) (stands_under old n k)) → IsIndexed after new
  put_so after o new sound is now =
      subst (λ (xs : List Obj). IsIndexed xs new) (sym is) (record {
        book = put_is_book o os indexed.book sound;
        referrers = λ n k. now n k ∙ after_put o n k
            ∙ ap (λ r. option_map_or (names_set n) (get r k) false)
            (sym (book_put o os indexed.book.ordered));
      })

  -- an object was put in place of another
  pub indexed_change : (after : List Obj) (o x : Obj) (before now : List ℕ → Bool) (mid new : Sets)
      → Sound (insert (book_of os) o.key o) → after ≡ put_in o os
      → Some x ≡ find (λ y. eq_by_cmp key_cmp o.key y.key) os
      →
      ((n : List ℕ) → before n ≡ option_map_or (names_set n)
      (find (λ y. eq_by_cmp key_cmp o.key y.key) os) false)
      → ((n : List ℕ) → now n ≡ names_set n o)
      → ((n : List ℕ) (k : Key) → stands_under mid n k
      ≡ (stands_under old n k || is_meant o before n k))
      → ((n : List ℕ) (k : Key) → stands_under new n k
      ≡ (stands_under mid n k && not (is_meant x now n k)))
      → IsIndexed after new
  indexed_change after o x before now mid new sound is stood told_before told_now add take =
      put_so after o new sound is (λ n k.
      let own : x.key ≡ o.key = sym (found_has_key o.key x os (sym stood)) in
      let b : before n ≡ names_set n x = told_before n
      ∙ ap (λ y. option_map_or (names_set n) y false) (sym stood) in
      take n k
      ∙ ap (λ c. c && not (is_meant x now n k)) (add n k)
      ∙ (λ i. (stands_under old n k || (eq_by_cmp key_cmp o.key k && (names_set n o && not (b i))))
      && not (eq_by_cmp key_cmp (own i) k && (names_set n x && not (told_now n i))))
      ∙ changed (eq_by_cmp key_cmp o.key k) (stands_under old n k) (names_set n x) (names_set n o)
      (λ same. at_key n o.key k same ∙ ap (λ y. option_map_or (names_set n) y false) (sym stood)))

  -- an object was put where none stood
  pub indexed_first : (after : List Obj) (o : Obj) (before : List ℕ → Bool) (new : Sets) →
      Sound (insert (book_of os) o.key o) → after ≡ put_in o os
      → None ≡ find (λ y. eq_by_cmp key_cmp o.key y.key) os
      →
      ((n : List ℕ) → before n ≡ option_map_or (names_set n)
      (find (λ y. eq_by_cmp key_cmp o.key y.key) os) false)
      → ((n : List ℕ) (k : Key) → stands_under new n k
      ≡ (stands_under old n k || is_meant o before n k))
      → IsIndexed after new
  indexed_first after o before new sound is none told_before add = put_so after o new sound is
      (λ n k.
      let b : before n ≡ false = told_before n ∙ ap (λ y. option_map_or (names_set n) y false)
      (sym none) in
      add n k
      ∙ ap (λ c. stands_under old n k || (eq_by_cmp key_cmp o.key k && (names_set n o && not c))) b
      ∙ first (eq_by_cmp key_cmp o.key k) (stands_under old n k) (names_set n o)
      (λ same. at_key n o.key k same ∙ ap (λ y. option_map_or (names_set n) y false) (sym none)))

  gone : (e s was : Bool) → (e ≡ true → s ≡ was) → (s && not (e && (was && true))) ≡ cond e false s
  gone true s true h = ap (λ b. b && false) (h refl)
  gone true s false h = ap (λ b. b && true) (h refl)
  gone false true was h = refl
  gone false false was h = refl

  never : (e s : Bool) → (e ≡ true → s ≡ false) → s ≡ cond e false s
  never true s h = h refl
  never false s h = refl

  after_removal : (key : Key) (n : List ℕ) (k : Key) → cond (eq_by_cmp key_cmp key k) false
      (stands_under old n k) ≡ option_map_or (names_set n) (get (remove (book_of os) key) k) false
  after_removal key n k =
      ap (cond (eq_by_cmp key_cmp key k) false) (indexed.referrers n k)
      ∙ elim (eq_by_cmp key_cmp key k) as
      (λ e. cond e false (option_map_or (names_set n) (get (book_of os) k) false)
      ≡ option_map_or (names_set n) (cond e None (get (book_of os) k)) false)
      [ true ↦ refl | false ↦ refl ]
      ∙ ap (λ b. option_map_or (names_set n) (cond b None (get (book_of os) k)) false)
      (eq_swap key k)
      ∙ ap (λ x. option_map_or (names_set n) x false)
      (sym (get-remove keys_total (book_of os) key k))

  removed_so : (after : List Obj) (key : Key) (new : Sets) → Sound (remove (book_of os) key) →
      after ≡ filter (λ o. not (eq_by_cmp key_cmp key o.key)) os
      → ((n : List ℕ) (k : Key) → stands_under new n k ≡ cond (eq_by_cmp key_cmp key k) false
      (stands_under old n k)) → IsIndexed after new
  removed_so after key new sound is now =
      subst (λ (xs : List Obj). IsIndexed xs new) (sym is) (record {
        book = others_are_book key os indexed.book sound;
        referrers = λ n k. now n k ∙ after_removal key n k
            ∙ ap (λ r. option_map_or (names_set n) (get r k) false)
            (sym (book_others key os indexed.book.ordered));
      })

  -- the object of a key was taken out
  pub indexed_removal : (after : List Obj) (key : Key) (x : Obj) (new : Sets) →
      Sound (remove (book_of os) key) → after ≡ filter (λ o. not (eq_by_cmp key_cmp key o.key)) os
      → Some x ≡ find (λ y. eq_by_cmp key_cmp key y.key) os
      → ((n : List ℕ) (k : Key) → stands_under new n k
      ≡ (stands_under old n k && not (is_meant x (λ other. false) n k)))
      → IsIndexed after new
  indexed_removal after key x new sound is stood take = removed_so after key new sound is (λ n k.
      let own : x.key ≡ key = sym (found_has_key key x os (sym stood)) in
      take n k
      ∙ ap (λ l. stands_under old n k && not (eq_by_cmp key_cmp l k && (names_set n x && true))) own
      ∙ gone (eq_by_cmp key_cmp key k) (stands_under old n k) (names_set n x)
      (λ same. at_key n key k same ∙ ap (λ y. option_map_or (names_set n) y false) (sym stood)))

  -- there was none to take out
  pub indexed_none : (after : List Obj) (key : Key) → Sound (remove (book_of os) key) →
      after ≡ filter (λ o. not (eq_by_cmp key_cmp key o.key)) os
      → None ≡ find (λ y. eq_by_cmp key_cmp key y.key) os → IsIndexed after old
  indexed_none after key sound is none = removed_so after key old sound is (λ n k.
      never (eq_by_cmp key_cmp key k) (stands_under old n k) (λ same. at_key n key k same
      ∙ ap (λ y. option_map_or (names_set n) y false) (sym none)))

and_false : (b : Bool) → (b && false) ≡ false
and_false true = refl
and_false false = refl

none_of : (n : List ℕ) (k : Key) (os : List Obj) → T (below_all key_cmp k (map entry os)) →
    list_any (λ o. names_set n o && eq_by_cmp key_cmp o.key k) os ≡ false
none_of n k [] h = refl
none_of n k (x ∷ xs) h =
    let parts = T_parts (is_lt (key_cmp k x.key)) (below_all key_cmp k (map entry xs)) h in
    let other : eq_by_cmp key_cmp x.key k ≡ false = eq_swap x.key k ∙ ap is_eq
    (is_Less _ parts.0) in
    ap (λ b. (names_set n x && b) || list_any (λ o. names_set n o && eq_by_cmp key_cmp o.key k) xs)
    other
    ∙ ap (λ b. b || list_any (λ o. names_set n o && eq_by_cmp key_cmp o.key k) xs)
    (and_false (names_set n x))
    ∙ none_of n k xs parts.1

all_or_first : (n : List ℕ) (k : Key) (os : List Obj) → T (is_sorted key_cmp (map entry os)) →
    list_any (λ o. names_set n o && eq_by_cmp key_cmp o.key k) os ≡ option_map_or (names_set n)
    (find (λ o. eq_by_cmp key_cmp k o.key) os) false
all_or_first n k [] h = refl
all_or_first n k (x ∷ xs) h =
    let parts = T_parts (below_all key_cmp x.key (map entry xs)) (is_sorted key_cmp (map entry xs))
    h in
    let rest = list_any (λ o. names_set n o && eq_by_cmp key_cmp o.key k) xs in
    ap (λ b. (names_set n x && b) || rest) (eq_swap x.key k)
    ∙ elim (eq_by_cmp key_cmp k x.key) as (λ e. eq_by_cmp key_cmp k x.key ≡ e →
    ((names_set n x && e) || rest) ≡ option_map_or (names_set n)
    (cond e (Some x) (find (λ o. eq_by_cmp key_cmp k o.key) xs)) false) [
      | true ↦ λ e. ap (λ b. (names_set n x && true) || b)
          (none_of n k xs (subst (λ (l : Key). T (below_all key_cmp l (map entry xs)))
          (sym (same_key k x.key e)) parts.0)) ∙ sym (or_none (names_set n x && true))
          ∙ sym (and_all (names_set n x))
      | false ↦ λ e. ap (λ b. b || rest) (and_false (names_set n x)) ∙ all_or_first n k xs parts.1
    ] refl

-- objects in order are indexed by their keys under the sets that they name
pub indexed_by_all : (os : List Obj) (sets : Sets) → IsBook os
    → ((name : List ℕ) (key : Key) → stands_under sets name key ≡ list_any
    (λ o. names_set name o && eq_by_cmp key_cmp o.key key) os)
    → IsIndexed os sets
indexed_by_all os sets book is = record {
  book = book;
  referrers = λ n k. is n k ∙ all_or_first n k os (subst T (sym book.ordered) tt)
      ∙ ap (λ o. option_map_or (names_set n) o false) (sym (get_of_book os k book.ordered));
}
