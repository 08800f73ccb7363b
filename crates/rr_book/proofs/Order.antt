-- A list of objects in order and the registry that it is.
use Rattle.std.proofs.Common.{◌≡◌, ℕ, Bool, true, false, cond, not, T, List, [], ◌∷◌, refl, sym, ap}
use Rattle.std.proofs.Common.{subst, ◌∙◌}
use Rattle.std.specs.Prelude.{None, Some, map, find, filter}
use Rattle.std.specs.declared.cmp.Ordering.TheVariants.{Less, Equal, Greater}
use Rattle.std.specs.Ordering.{eq_by_cmp}
use Rattle.std.specs.FinMap.{empty, get, insert, remove, values, is_sorted, entries-from_sorted}
use Rattle.std.specs.FinMap.{get-from_sorted, get-insert, get-remove, get-empty, same_map}
use Rattle.std.specs.FinMap.{find as find_entry}
use Rattle.std.specs.FinMap.Entries.{by_order, put, where_key, is_sorted-put, is_sorted-where_key}
use Rattle.std.specs.FinMap.Entries.{find-put, find-where_key}
use Rattle.std.specs.Cmp.{eq_by_cmp_equiv}
use Rattle.rr_object.specs.declared.key.Key.{Key}
use Rattle.rr_object.specs.declared.key.Key.TheVariants.{Mntner, AsBlock, AutNum, Inetnum, Route}
use Rattle.rr_object.specs.declared.key.Key.TheVariants.{AsSet, RouteSet}
use Rattle.rr_object.specs.Objects.{Obj}
use Rattle.rr_object.specs.KeyOrders.{key_cmp}
use Rattle.rr_object.specs.Keys.{is_mntner_of}
use Rattle.rr_auth.specs.Registries.{Reg, Sound, maintainer}
use Rattle.rr_object.proofs.KeyLaws.{keys_total, keys_exact}
use Rattle.rr_auth.proofs.Seen.{mntners_tie}
use Rattle.rr_book.specs.Books.{entry, is_in_order, book_of, put_in, IsBook}

T_of : {b : Bool} → b ≡ true → T b
T_of e = subst T (sym e) tt

true_of : (b : Bool) → T b → b ≡ true
true_of true h = refl
true_of false h = absurd h

-- the objects of a list in order are those of its registry, in the same order
same_objects : (os : List Obj) → map (λ e. e.1) (map entry os) ≡ os
same_objects [] = refl
same_objects (o ∷ os) = ap (λ xs. o ∷ xs) (same_objects os)

pub values_of_book : (os : List Obj) → is_in_order os ≡ true → values (book_of os) ≡ os
values_of_book os e = ap (map (λ e. e.1)) (entries-from_sorted key_cmp (map entry os) (T_of e))
    ∙ same_objects os

-- an object is looked up by a scan
scan : (k : Key) (os : List Obj) → find_entry key_cmp k (map entry os)
    ≡ find (λ o. eq_by_cmp key_cmp k o.key) os
scan k [] = refl
scan k (o ∷ os) = ap (cond (eq_by_cmp key_cmp k o.key) (Some o)) (scan k os)

pub get_of_book : (os : List Obj) (k : Key) → is_in_order os ≡ true → get (book_of os) k
    ≡ find (λ o. eq_by_cmp key_cmp k o.key) os
get_of_book os k e = get-from_sorted key_cmp (map entry os) k (T_of e) ∙ scan k os

-- the key of a name's mntner ties with a key where this is that mntner's
pub mntner_key : (n : List ℕ) (k : Key) → eq_by_cmp key_cmp (Mntner n) k ≡ is_mntner_of n k
mntner_key n (Mntner m) = mntners_tie n m
mntner_key n (AsBlock s) = refl
mntner_key n (AutNum m) = refl
mntner_key n (Inetnum s) = refl
mntner_key n (Route p m) = refl
mntner_key n (AsSet m) = refl
mntner_key n (RouteSet m) = refl

pub by_name : (n : List ℕ) (os : List Obj) → find (λ o. eq_by_cmp key_cmp (Mntner n) o.key) os
    ≡ find (λ o. is_mntner_of n o.key) os
by_name n [] = refl
by_name n (x ∷ xs) = λ i. cond (mntner_key n x.key i) (Some x) (by_name n xs i)

-- a mntner is looked up by its name
pub maintainer_of_book : (os : List Obj) (n : List ℕ) → is_in_order os ≡ true →
    maintainer (book_of os) n ≡ find (λ o. is_mntner_of n o.key) os
maintainer_of_book os n e = get_of_book os (Mntner n) e ∙ by_name n os

-- the entries of a list into which an object is put
entries_put : (o : Obj) (os : List Obj) → map entry (put_in o os) ≡ put key_cmp o.key o
    (map entry os)
entries_put o [] = refl
entries_put o (x ∷ xs) =
    elim (key_cmp o.key x.key) as (λ r. key_cmp o.key x.key ≡ r
    → map entry (by_order r (o ∷ x ∷ xs) (o ∷ xs) (x ∷ put_in o xs))
    ≡ by_order r ((o.key, o) ∷ (entry x ∷ map entry xs)) ((x.key, o) ∷ map entry xs)
    (entry x ∷ put key_cmp o.key o (map entry xs))) [
      | Less ↦ λ e. refl
      | Equal ↦ λ e. ap (λ k. (k, o) ∷ map entry xs) (keys_exact o.key x.key e)
      | Greater ↦ λ e. ap (λ es. entry x ∷ es) (entries_put o xs)
    ] refl

pub in_order_put : (o : Obj) (os : List Obj) → is_in_order os ≡ true → is_in_order (put_in o os)
    ≡ true
in_order_put o os e = true_of _ (subst (λ es. T (is_sorted key_cmp es)) (sym (entries_put o os))
    (is_sorted-put key_cmp keys_total o.key o (map entry os) (T_of e)))

pub book_put : (o : Obj) (os : List Obj) → is_in_order os ≡ true → book_of (put_in o os)
    ≡ insert (book_of os) o.key o
book_put o os e = same_map keys_total keys_exact _ _ (λ q.
    get-from_sorted key_cmp (map entry (put_in o os)) q (T_of (in_order_put o os e))
    ∙ ap (find_entry key_cmp q) (entries_put o os)
    ∙ find-put key_cmp keys_total q o.key o (map entry os)
    ∙ ap (cond (eq_by_cmp key_cmp q o.key) (Some o))
    (sym (get-from_sorted key_cmp (map entry os) q (T_of e)))
    ∙ sym (get-insert keys_total (book_of os) o.key o q))

-- the entries of a list from which a key is taken
abbrev pub others : Key → List Obj → List Obj
others k os = filter (λ o. not (eq_by_cmp key_cmp k o.key)) os

entries_others : (k : Key) (os : List Obj) → map entry (others k os) ≡ where_key key_cmp
    (λ x. not (eq_by_cmp key_cmp k x)) (map entry os)
entries_others k [] = refl
entries_others k (x ∷ xs) =
    elim (not (eq_by_cmp key_cmp k x.key)) as
    (λ b. map entry (cond b (x ∷ others k xs) (others k xs))
    ≡ cond b (entry x ∷ where_key key_cmp (λ y. not (eq_by_cmp key_cmp k y)) (map entry xs))
    (where_key key_cmp (λ y. not (eq_by_cmp key_cmp k y)) (map entry xs))) [
      | true ↦ ap (λ es. entry x ∷ es) (entries_others k xs)
      | false ↦ entries_others k xs
    ]

pub in_order_others : (k : Key) (os : List Obj) → is_in_order os ≡ true → is_in_order (others k os)
    ≡ true
in_order_others k os e =
    true_of _ (subst (λ es. T (is_sorted key_cmp es)) (sym (entries_others k os))
    (is_sorted-where_key key_cmp _ (map entry os) (T_of e)))

negated : {X : Type 0} (b : Bool) (x y : X) → cond (not b) x y ≡ cond b y x
negated true x y = refl
negated false x y = refl

pub book_others : (k : Key) (os : List Obj) → is_in_order os ≡ true → book_of (others k os)
    ≡ remove (book_of os) k
book_others k os e = same_map keys_total keys_exact _ _ (λ q.
    get-from_sorted key_cmp (map entry (others k os)) q (T_of (in_order_others k os e))
    ∙ ap (find_entry key_cmp q) (entries_others k os)
    ∙ find-where_key key_cmp (λ x. not (eq_by_cmp key_cmp k x)) q
    (λ x t. ap (λ y. not (eq_by_cmp key_cmp k y)) (sym (keys_exact q x t))) (map entry os)
    ∙ negated (eq_by_cmp key_cmp k q) _ _
    ∙ ap (λ b. cond b None (find_entry key_cmp q (map entry os)))
    ((eq_by_cmp_equiv keys_total).symm k q)
    ∙ ap (cond (eq_by_cmp key_cmp q k) None)
    (sym (get-from_sorted key_cmp (map entry os) q (T_of e)))
    ∙ sym (get-remove keys_total (book_of os) k q))

-- no objects are the registry of none
pub empty_book : book_of [] ≡ empty
empty_book = same_map keys_total keys_exact _ _
    (λ q. get_of_book [] q refl ∙ sym (get-empty key_cmp q))

-- a book stays one where what it becomes is sound
pub put_is_book : (o : Obj) (os : List Obj) → IsBook os → Sound (insert (book_of os) o.key o) →
    IsBook (put_in o os)
put_is_book o os b s = record {
  ordered = in_order_put o os b.ordered;
  sound = subst Sound (sym (book_put o os b.ordered)) s;
}

pub others_are_book : (k : Key) (os : List Obj) → IsBook os → Sound (remove (book_of os) k) →
    IsBook (others k os)
others_are_book k os b s = record {
  ordered = in_order_others k os b.ordered;
  sound = subst Sound (sym (book_others k os b.ordered)) s;
}

-- a list that is a book's is the list of its registry's objects
pub told : (r : Reg) (os xs : List Obj) → book_of os ≡ r → is_in_order os ≡ true → xs ≡ os →
    xs ≡ values r
told r os xs v e s = s ∙ sym (values_of_book os e) ∙ ap values v
