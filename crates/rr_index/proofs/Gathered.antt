-- Objects in order that are put in one after the other.
use Rattle.std.proofs.Common.{◌≡◌, Bool, true, false, cond, T, List, [], ◌∷◌, ◌++◌, map}
use Rattle.std.proofs.Common.{append_assoc, refl, sym, ap, subst, ◌∙◌}
use Rattle.std.specs.Prelude.{None, Some, ◌&&◌}
use Rattle.std.specs.FinMap.{get, insert, is_sorted, get-from_sorted, get-insert, same_map}
use Rattle.std.specs.FinMap.{find as find_entry}
use Rattle.std.specs.FinMap.Entries.{below_all, find-append}
use Rattle.std.specs.Ordering.{eq_by_cmp, is_eq, is_lt, ordering_reverse}
use Rattle.std.specs.declared.cmp.Ordering.{Ordering}
use Rattle.std.specs.declared.cmp.Ordering.TheVariants.{Less, Equal, Greater}
use Rattle.rr_object.proofs.KeyLaws.{keys_exact, keys_total, tied_key}
use Rattle.rr_auth.specs.Registries.{Sound}
use Rattle.rr_book.specs.Books.{book_of, entry, is_in_order}
use Rattle.rr_index.specs.Private.{IsCrossedByNone}
use Rattle.rr_object.specs.declared.key.Key.{Key}
use Rattle.rr_object.specs.KeyOrders.{key_cmp}
use Rattle.rr_object.specs.Objects.{Obj}

T_of : {b : Bool} → b ≡ true → T b
T_of e = subst T (sym e) tt

pub first_of : (a b : Bool) → T (a && b) → T a
first_of true b h = tt
first_of false b h = h

pub second_of : (a b : Bool) → T (a && b) → T b
second_of true b h = h
second_of false b h = absurd h

pub both : (a b : Bool) → T a → T b → T (a && b)
both true b p q = q
both false b p q = p

pub less : (r : Ordering) → T (is_lt r) → r ≡ Less
less Less h = refl
less Equal h = absurd h
less Greater h = absurd h

below_there : (k : Key) (ys : List Obj) (o : Obj) (rest : List Obj) →
    T (below_all key_cmp k (map entry (ys ++ o ∷ rest))) → key_cmp k o.key ≡ Less
below_there k [] o rest h = less _ (first_of _ _ h)
below_there k (y ∷ ys) o rest h = below_there k ys o rest (second_of (is_lt (key_cmp k y.key)) _ h)

below_head : (k : Key) (ys rest : List Obj) → T (below_all key_cmp k (map entry (ys ++ rest))) →
    T (below_all key_cmp k (map entry ys))
below_head k [] rest h = tt
below_head k (y ∷ ys) rest h = both _ _ (first_of _ _ h)
    (below_head k ys rest (second_of (is_lt (key_cmp k y.key)) _ h))

prefix : (ys rest : List Obj) → T (is_sorted key_cmp (map entry (ys ++ rest))) →
    T (is_sorted key_cmp (map entry ys))
prefix [] rest h = tt
prefix (y ∷ ys) rest h = both _ _ (below_head y.key ys rest (first_of _ _ h))
    (prefix ys rest (second_of (below_all key_cmp y.key (map entry (ys ++ rest))) _ h))

free_after : (ys : List Obj) (o : Obj) (rest : List Obj) →
    T (is_sorted key_cmp (map entry (ys ++ o ∷ rest))) → find_entry key_cmp o.key (map entry ys)
    ≡ None
free_after [] o rest h = refl
free_after (y ∷ ys) o rest h =
    let below = below_there y.key ys o rest (first_of _ _ h) in
    ap (λ r. cond (is_eq r) (Some y) (find_entry key_cmp o.key (map entry ys)))
    (keys_total.antisymm o.key y.key ∙ ap ordering_reverse below)
    ∙ free_after ys o rest (second_of (below_all key_cmp y.key (map entry (ys ++ o ∷ rest))) _ h)

found_prefix : (k : Key) (ys rest : List Obj) (x : Obj) → find_entry key_cmp k (map entry ys)
    ≡ Some x → find_entry key_cmp k (map entry (ys ++ rest)) ≡ Some x
found_prefix k [] rest x e = cc
found_prefix k (y ∷ ys) rest x e =
    elim (eq_by_cmp key_cmp k y.key) as (λ b. cond b (Some y) (find_entry key_cmp k (map entry ys))
    ≡ Some x → cond b (Some y) (find_entry key_cmp k (map entry (ys ++ rest))) ≡ Some x) [
      | true ↦ λ f. f
      | false ↦ λ f. found_prefix k ys rest x f
    ] e

found_after : (ys : List Obj) (o : Obj) (rest : List Obj) → find_entry key_cmp o.key (map entry ys)
    ≡ None → find_entry key_cmp o.key (map entry (ys ++ o ∷ rest)) ≡ Some o
found_after [] o rest e = ap (λ b. cond b (Some o) (find_entry key_cmp o.key (map entry rest)))
    (tied_key o.key)
found_after (y ∷ ys) o rest e =
    elim (eq_by_cmp key_cmp o.key y.key) as
    (λ b. cond b (Some y) (find_entry key_cmp o.key (map entry ys)) ≡ None →
    cond b (Some y) (find_entry key_cmp o.key (map entry (ys ++ o ∷ rest))) ≡ Some o) [
      | true ↦ λ f. cc
      | false ↦ λ f. found_after ys o rest f
    ] e

pub entries_end : (ys : List Obj) (o : Obj) → map entry (ys ++ o ∷ []) ≡ map entry ys ++ (o.key, o)
    ∷ []
entries_end [] o = refl
entries_end (y ∷ ys) o = ap (λ es. entry y ∷ es) (entries_end ys o)

module _ (all ys left rest : List Obj) (o : Obj) (order : is_in_order all ≡ true)
    (whole : ys ++ left ≡ all) (step : left ≡ o ∷ rest) where
  sorted : T (is_sorted key_cmp (map entry (ys ++ o ∷ rest)))
  sorted = subst (λ (xs : List Obj). T (is_sorted key_cmp (map entry xs)))
      (sym whole ∙ ap (λ xs. ys ++ xs) step) (T_of order)

  -- the key of the next object is free
  pub next_free : get (book_of ys) o.key ≡ None
  next_free = get-from_sorted key_cmp (map entry ys) o.key (prefix ys (o ∷ rest) sorted)
      ∙ free_after ys o rest sorted

  -- what is to come, after one more
  next_whole : (ys ++ o ∷ []) ++ rest ≡ all
  next_whole = append_assoc ys (o ∷ []) rest ∙ ap (λ xs. ys ++ xs) (sym step) ∙ whole

  -- one more object
  pub next_book : insert (book_of ys) o.key o ≡ book_of (ys ++ o ∷ [])
  next_book = same_map keys_total keys_exact _ _ (λ q.
      get-insert keys_total (book_of ys) o.key o q
      ∙ ap (cond (eq_by_cmp key_cmp q o.key) (Some o)) (get-from_sorted key_cmp (map entry ys) q
      (prefix ys (o ∷ rest) sorted))
      ∙ sym (find-append key_cmp keys_total (map entry ys) o.key o q (free_after ys o rest sorted))
      ∙ ap (find_entry key_cmp q) (sym (entries_end ys o))
      ∙ sym (get-from_sorted key_cmp (map entry (ys ++ o ∷ [])) q
      (prefix (ys ++ o ∷ []) rest
      (subst (λ (xs : List Obj). T (is_sorted key_cmp (map entry xs)))
      (sym (next_whole ∙ sym whole ∙ ap (λ xs. ys ++ xs) step)) sorted))))

  -- the next object crosses none of those before it
  pub next_apart : Sound (book_of all) → IsCrossedByNone (book_of ys) o.key
  next_apart sound =
      let split : ys ++ o ∷ rest ≡ all = ap (λ xs. ys ++ xs) (sym step) ∙ whole in
      let all_sound : Sound (book_of (ys ++ o ∷ rest)) =
      subst (λ (xs : List Obj). Sound (book_of xs)) (sym split) sound in
      record {
        apart = λ l x at. all_sound.apart l o.key x o
            (get-from_sorted key_cmp (map entry (ys ++ o ∷ rest)) l sorted
            ∙ found_prefix l ys (o ∷ rest) x
            (sym (get-from_sorted key_cmp (map entry ys) l (prefix ys (o ∷ rest) sorted)) ∙ at))
            (get-from_sorted key_cmp (map entry (ys ++ o ∷ rest)) o.key sorted ∙ found_after ys o
            rest (free_after ys o rest sorted));
      }
