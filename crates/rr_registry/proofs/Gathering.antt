-- Objects that are put in one after the other, and when the whole is sound.
use Rattle.std.proofs.Common.{◌≡◌, ℕ, suc, ◌+◌, ◌≤◌, length, Bool, true, false, cond, not, ◌||◌}
use Rattle.std.proofs.Common.{◌⊎◌, inl, inr, List, [], ◌∷◌, ◌++◌, refl, sym, ap, subst, ◌∙◌, arith}
use Rattle.std.specs.Prelude.{Option, None, Some, is_some, is_none, find, position, nat_lt}
use Rattle.std.specs.Prelude.{if◌then◌else◌}
use Rattle.std.specs.List.{list_any, position_or_len}
use Rattle.std.proofs.lemmas.Bool.{true≢false, lt-ltb, le-ltb, ltb-false}
use Rattle.std.specs.Option.{option_map, option_or}
use Rattle.std.specs.Ordering.{eq_by_cmp, is_eq}
use Rattle.std.specs.declared.cmp.Ordering.TheVariants.{Less, Equal, Greater}
use Rattle.std.specs.FinMap.Entries.{by_order}
use Rattle.std.proofs.lemmas.List.Folds.{list_any-append}
use Rattle.std.specs.FinMap.{empty, get, insert, values, get-insert, get-empty}
use Rattle.rr_object.specs.declared.key.Key.{Key}
use Rattle.rr_object.specs.declared.key.Key.TheVariants.{Mntner}
use Rattle.rr_object.specs.Objects.{Obj, names_of}
use Rattle.rr_object.specs.KeyOrders.{IsKeyValue, key_cmp}
use Rattle.rr_auth.specs.Conditions.{crosses_registered}
use Rattle.rr_object.specs.Keys.{is_mntner_of}
use Rattle.rr_auth.specs.Registries.{Reg, maintainer, some_is_unknown, keys_cross}
use Rattle.rr_auth.specs.Registries.{is_crossed_by_some}
use Rattle.rr_object.proofs.KeyLaws.{keys_total}
use Rattle.rr_auth.proofs.Crossing.{keys_cross_back, crosses_itself}
use Rattle.rr_auth.specs.Elements.{IsIn}
use Rattle.rr_auth.proofs.Members.{found_in, none_passes}
use Rattle.rr_auth.proofs.Keeping.{after_insert}
use Rattle.rr_book.specs.Books.{book_of, put_in, IsBook}
use Rattle.rr_registry.specs.Loading.{gathered, clash, clash_of, is_key_of_some}
use Rattle.rr_registry.specs.Loading.{load_fault, unnamed}
use Rattle.rr_registry.specs.Private.{IsApart, IsTakenIn, IsGathered}
use Rattle.rr_registry.specs.declared.load.LoadFault.{LoadFault}
use Rattle.rr_registry.specs.declared.load.LoadFault.TheVariants.{Duplicate, Overlap, Unnamed}
use Rattle.rr_book.proofs.Order.{book_put, by_name, empty_book, get_of_book, in_order_put}
use Rattle.rr_book.proofs.Order.{values_of_book}

-- no objects are apart
nothing : {A : Type 0} (x : A) → None ≡ Some x → ⊥
nothing x e = cc

-- one more object, whose key crosses none, leaves objects apart
pub put_apart : (o : Obj) (os : List Obj) → IsApart os → IsKeyValue o.key →
    crosses_registered (book_of os) o.key ≡ false → IsApart (put_in o os)
put_apart o os a formed free =
    let r = book_of os in
    let same = book_put o os a.ordered in
    let outside : (l : Key) (x : Obj) → get r l ≡ Some x → keys_cross l o.key ≡ false =
    λ l x f. ap (λ m. keys_cross m o.key) (sym (a.keyed l x f)) ∙ none_passes
    (λ y. keys_cross y.key o.key) x (values r) free (found_in r l x f) in
    record {
      ordered = in_order_put o os a.ordered;
      keyed = λ k x f. after_insert (λ l y. y.key ≡ l) r o.key o refl a.keyed k x
          (sym (ap (λ m. get m k) same) ∙ f);
      formed = λ k x f. after_insert (λ l y. IsKeyValue l) r o.key o formed a.formed k x
          (sym (ap (λ m. get m k) same) ∙ f);
      apart = λ k l x y f g.
          after_insert (λ m u. keys_cross m l ≡ false) r o.key o
          (after_insert (λ b v. keys_cross o.key b ≡ false) r o.key o (crosses_itself o.key)
          (λ b v h. keys_cross_back o.key b ∙ outside b v h) l y (sym (ap (λ m. get m l) same) ∙ g))
          (λ m u h. after_insert (λ b v. keys_cross m b ≡ false) r o.key o (outside m u h)
          (λ b v i. a.apart m b u v h i) l y (sym (ap (λ w. get w l) same) ∙ g))
          k x (sym (ap (λ m. get m k) same) ∙ f);
    }

-- a key that is there, or stands in a list, stands in what is gathered
or_swap : (a b c : Bool) → ((a || b) || c) ≡ (b || (a || c))
or_swap true true c = refl
or_swap true false c = refl
or_swap false b c = refl

some_cond : {A : Type 0} (b : Bool) (x : A) (o : Option A) → is_some (cond b (Some x) o)
    ≡ (b || is_some o)
some_cond true x o = refl
some_cond false x o = refl

stands_gathered : (r : Reg) (os : List Obj) (k : Key)
    → is_some (get (gathered r os) k)
    ≡ (is_some (get r k) || is_some (find (λ o. eq_by_cmp key_cmp k o.key) os))
stands_gathered r [] k = sym (or_none (is_some (get r k)))
  where
    or_none : (b : Bool) → (b || false) ≡ b
    or_none true = refl
    or_none false = refl
stands_gathered r (o ∷ os) k =
    let b = eq_by_cmp key_cmp k o.key in
    let rest = is_some (find (λ x. eq_by_cmp key_cmp k x.key) os) in
    stands_gathered (insert r o.key o) os k
    ∙ ap (λ s. s || rest) (ap is_some (get-insert keys_total r o.key o k) ∙ some_cond b o (get r k))
    ∙ or_swap b (is_some (get r k)) rest
    ∙ ap (λ s. is_some (get r k) || s)
    (sym (some_cond b o (find (λ x. eq_by_cmp key_cmp k x.key) os)))

-- what is gathered was there, or is of the list
gathered_from : (r : Reg) (os : List Obj) (k : Key) (o : Obj) → get (gathered r os) k ≡ Some o →
    (get r k ≡ Some o) ⊎ IsIn o os
gathered_from r [] k o f = inl f
gathered_from r (x ∷ xs) k o f =
    elim (gathered_from (insert r x.key x) xs k o f) as (λ _. (get r k ≡ Some o)
    ⊎ ((o ≡ x) ⊎ IsIn o xs)) [
      | inl g ↦ from_insert (eq_by_cmp key_cmp k x.key) (sym (get-insert keys_total r x.key x k)
          ∙ g)
      | inr i ↦ inr (inr i)
    ]
  where
    from_insert : (b : Bool) → cond b (Some x) (get r k) ≡ Some o → (get r k ≡ Some o)
        ⊎ ((o ≡ x) ⊎ IsIn o xs)
    from_insert true e = inr (inl cc)
    from_insert false e = inl e

-- where the first object that passes a test stands past the end, none passes it
any_before : (p : Obj → Bool) (os : List Obj) → nat_lt (position_or_len p os) (length os) ≡ false →
    list_any p os ≡ false
any_before p [] e = refl
any_before p (x ∷ xs) e =
    elim (p x) as (λ b. nat_lt (cond (not b) (1 + position_or_len p xs) 0) (suc (length xs))
    ≡ false → (b || list_any p xs) ≡ false) [
      | true ↦ λ f. absurd (true≢false (sym (lt-ltb 0 (suc (length xs)) (omega arith)) ∙ f))
      | false ↦ λ f. any_before p xs (le-ltb (position_or_len p xs) (length xs)
          (let past : suc (length xs) ≤ 1 + position_or_len p xs = ltb-false _ _ f in omega arith))
    ] e

not_below : (p : Obj → Bool) (os : List Obj) → position p os ≡ None → nat_lt (position_or_len p os)
    (length os) ≡ false
not_below p os e =
    elim (nat_lt (position_or_len p os) (length os)) as (λ b. cond b (Some (position_or_len p os))
    None ≡ None → b ≡ false) [
      | true ↦ λ f. cc
      | false ↦ λ f. refl
    ] e

-- where no object of a list passes a test for a place, none does
no_place : (p : Obj → Bool) (os : List Obj) → position p os ≡ None → list_any p os ≡ false
no_place p os e = any_before p os (not_below p os e)

of_list : (os : List Obj) (k : Key) (o : Obj) → (get {R = key_cmp} empty k ≡ Some o) ⊎ IsIn o os →
    IsIn o os
of_list os k o (inl f) = absurd (nothing o (sym (get-empty key_cmp k) ∙ f))
of_list os k o (inr i) = i

unmapped : (p : Option ℕ) → option_map (λ i. Unnamed (i + 1)) p ≡ None → p ≡ None
unmapped None e = refl
unmapped (Some i) e = cc

-- a list whose objects are apart and name nobody unknown is a book
pub gathered_is_book : (os grown : List Obj) → IsGathered os grown → unnamed (gathered empty os) os
    ≡ None → IsBook grown
gathered_is_book os grown g e =
    let r = gathered empty os in
    let whole = g.whole in
    record {
      ordered = g.apart.ordered;
      sound = record {
        keyed = g.apart.keyed;
        formed = g.apart.formed;
        named = λ k o f.
            subst (λ m. some_is_unknown m (names_of o) ≡ false) (sym whole)
            (none_passes (λ x. some_is_unknown r (names_of x)) o os
            (no_place (λ x. some_is_unknown r (names_of x)) os (unmapped _ e))
            (of_list os k o (gathered_from empty os k o (sym (ap (λ m. get m k) whole) ∙ f))));
        apart = g.apart.apart;
      };
    }

-- what is found passes, and what passes is found
found_any : (p : Obj → Bool) (os : List Obj) → is_some (find p os) ≡ list_any p os
found_any p [] = refl
found_any p (x ∷ xs) = some_cond (p x) x (find p xs) ∙ ap (λ b. p x || b) (found_any p xs)

-- a name that is of no mntner in a list is of none in what is gathered
known_in_list : (os : List Obj) (n : List ℕ) → is_none (maintainer (gathered empty os) n)
    ≡ not (list_any (λ x. is_mntner_of n x.key) os)
known_in_list os n =
    ap not (stands_gathered empty os (Mntner n)
    ∙ ap (λ s. is_some s || is_some (find (λ o. eq_by_cmp key_cmp (Mntner n) o.key) os))
    (get-empty key_cmp (Mntner n))
    ∙ ap is_some (by_name n os) ∙ found_any (λ x. is_mntner_of n x.key) os)

all_known : (os : List Obj) (ns : List (List ℕ)) → some_is_unknown (gathered empty os) ns
    ≡ list_any (λ n. not (list_any (λ x. is_mntner_of n x.key) os)) ns
all_known os [] = refl
all_known os (n ∷ ns) = λ i. known_in_list os n i || all_known os ns i

same_position : (p q : Obj → Bool) → ((o : Obj) → p o ≡ q o) → (os : List Obj) → position p os
    ≡ position q os
same_position p q h os = ap (λ f. position f os) (λ i o. h o i)

-- an object that is put into a list that does not have its key is one more of them
or_prefix : (a b c : Bool) → (a || (b || c)) ≡ (b || (a || c))
or_prefix true true c = refl
or_prefix true false c = refl
or_prefix false b c = refl

any_put : (p : Obj → Bool) (o : Obj) (os : List Obj) → is_key_of_some o.key os ≡ false →
    list_any p (put_in o os) ≡ (p o || list_any p os)
any_put p o [] e = refl
any_put p o (x ∷ xs) e =
    elim (key_cmp o.key x.key) as (λ r. (is_eq r || is_key_of_some o.key xs) ≡ false
    → list_any p (by_order r (o ∷ x ∷ xs) (o ∷ xs) (x ∷ put_in o xs))
    ≡ (p o || (p x || list_any p xs))) [
      | Less ↦ λ f. refl
      | Equal ↦ λ f. absurd (true≢false f)
      | Greater ↦ λ f. ap (λ b. p x || b) (any_put p o xs f) ∙ or_prefix (p x) (p o) (list_any p xs)
    ] e

-- of the objects before one it does not matter in which order they stand
clash_same : (bs cs : List Obj) (n : ℕ) (os : List Obj) →
    ((p : Obj → Bool) → list_any p bs ≡ list_any p cs) → clash bs n os ≡ clash cs n os
clash_same bs cs n [] h = refl
clash_same bs cs n (o ∷ os) h =
    let rest = clash_same (bs ++ o ∷ []) (cs ++ o ∷ []) (n + 1) os
    (λ p. list_any-append p bs _ ∙ (ap (λ b. b || list_any p (o ∷ [])) (h p)
    ∙ sym (list_any-append p cs _))) in
    λ i. option_or
    (if h (λ x. eq_by_cmp key_cmp o.key x.key) i then Some (Duplicate n)
    else (if h (λ x. keys_cross x.key o.key) i then Some (Overlap n) else None)) (rest i)

or_back : (a b : Bool) → (b || (a || false)) ≡ (a || b)
or_back true true = refl
or_back true false = refl
or_back false true = refl
or_back false false = refl

-- after an object that was put among those before it, the faults are those of the ones that are
-- left
pub clash_next : (before grown : List Obj) (n : ℕ) (o : Obj) (os : List Obj) → IsTakenIn before n o
    grown → clash before n (o ∷ os) ≡ clash grown (n + 1) os
clash_next before grown n o os t =
    ap (λ f. option_or f (clash (before ++ o ∷ []) (n + 1) os)) t.free
    ∙ clash_same (before ++ o ∷ []) grown (n + 1) os
    (λ p. list_any-append p before _ ∙ (or_back (p o) (list_any p before) ∙ sym (t.joined p)))

pub is_duplicate : (os : List Obj) (n : ℕ) (o : Obj) → is_key_of_some o.key os ≡ true →
    clash_of os n o ≡ Some (Duplicate n)
is_duplicate os n o e =
    ap (λ b. if b then Some (Duplicate n) else (if is_crossed_by_some o.key os then Some
    (Overlap n) else None)) e

pub is_overlap : (os : List Obj) (n : ℕ) (o : Obj) → is_key_of_some o.key os ≡ false →
    is_crossed_by_some o.key os ≡ true → clash_of os n o ≡ Some (Overlap n)
is_overlap os n o e f =
    ap (λ b. if b then Some (Duplicate n) else (if is_crossed_by_some o.key os then Some
    (Overlap n) else None)) e
    ∙ ap (λ b. if b then Some (Overlap n) else None) f

pub taken_in : (os : List Obj) (n : ℕ) (o : Obj) (grown : List Obj) → IsApart os → IsKeyValue o.key
    → is_key_of_some o.key os ≡ false → is_crossed_by_some o.key os ≡ false → grown ≡ put_in o os →
    IsTakenIn os n o grown
taken_in os n o grown a formed new free same =
    let apart : crosses_registered (book_of os) o.key ≡ false =
    ap (list_any (λ x. keys_cross x.key o.key)) (values_of_book os a.ordered) ∙ free in
    record {
      free =
          ap (λ b. if b then Some (Duplicate n) else (if is_crossed_by_some o.key os then Some
          (Overlap n) else None)) new
          ∙ ap (λ b. if b then Some (Overlap n) else None) free;
      apart = subst IsApart (sym same) (put_apart o os a formed apart);
      put = ap book_of same ∙ book_put o os a.ordered;
      joined = λ p. ap (list_any p) same ∙ any_put p o os new;
    }

-- no objects are apart
pub none_apart : IsApart []
none_apart = record {
  ordered = refl;
  keyed = λ k o f. absurd (nothing o (sym (get_of_book [] k refl) ∙ f));
  formed = λ k o f. absurd (nothing o (sym (get_of_book [] k refl) ∙ f));
  apart = λ k l o x f g. absurd (nothing o (sym (get_of_book [] k refl) ∙ f));
}

-- where gathering begins
pub record IsStart (os xs fs : List Obj) : Type 0 where
  pub apart : IsApart fs
  pub same_clash : clash fs 1 xs ≡ clash [] 1 os
  pub same_whole : gathered (book_of fs) xs ≡ gathered empty os

pub start : (os xs fs : List Obj) → fs ≡ [] → xs ≡ os → IsStart os xs fs
start os xs fs e f = record {
  apart = subst IsApart (sym e) none_apart;
  same_clash = ap (λ fs. clash fs 1 xs) e ∙ ap (clash [] 1) f;
  same_whole = ap (λ r. gathered r xs) (ap book_of e ∙ empty_book) ∙ ap (gathered empty) f;
}

-- the place of the first object of a list that names a maintainer who is not in it
abbrev pub first_place : List Obj → Option ℕ
first_place os = position (λ o. list_any (λ n. not (list_any (λ x. is_mntner_of n x.key) os))
    (names_of o)) os

-- it is found by the names of the mntners
pub place_by_names : (os : List Obj) (known : List ℕ → Bool) →
    ((n : List ℕ) → known n ≡ list_any (λ x. is_mntner_of n x.key) os)
    → position (λ o. list_any (λ n. not (known n)) (names_of o)) os ≡ first_place os
place_by_names os known are =
    ap (λ (f : List ℕ → Bool). position (λ o. list_any (λ n. not (f n)) (names_of o)) os)
    (λ i n. are n i)

-- what the search for such an object says of the list's faults
pub found_fault : (os : List Obj) (u : Option ℕ) → u ≡ first_place os → unnamed (gathered empty os)
    os ≡ option_map (λ i. Unnamed (i + 1)) u
found_fault os u e = ap (option_map (λ i. Unnamed (i + 1)))
    (same_position _ _ (λ o. all_known os (names_of o)) os ∙ sym e)

pub fault_after : (os fs : List Obj) (f : Option LoadFault) → IsGathered os fs →
    unnamed (gathered empty os) os ≡ f → load_fault os ≡ f
fault_after os fs f g e = ap (λ c. option_or c (unnamed (gathered empty os) os)) g.free ∙ e

pub clash_is_fault : (os : List Obj) (f : LoadFault) → clash [] 1 os ≡ Some f → load_fault os
    ≡ Some f
clash_is_fault os f e = ap (λ c. option_or c (unnamed (gathered empty os) os)) e
