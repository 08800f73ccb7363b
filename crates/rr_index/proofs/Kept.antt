-- A map of objects by key and the registry that it is.
use Rattle.std.proofs.Common.{◌≡◌, Bool, true, false, cond, not, T, List, [], ◌∷◌, ◌++◌, Bor, map}
use Rattle.std.proofs.Common.{refl, sym, ap, subst, ◌∙◌}
use Rattle.std.specs.Prelude.{Option, None, Some, ◌&&◌}
use Rattle.std.specs.BTreeMap.{BTreeMap, Updates, get as at_key, is_at}
use Rattle.std.specs.BTreeMap.Range.{entries_between}
use Rattle.std.specs.declared.ops.Bound.TheVariants.{Included}
use Rattle.std.specs.FinMap.{entries, get, insert, remove, values, from_sorted, is_sorted}
use Rattle.std.specs.FinMap.{entries-from_sorted, get-from_sorted, get-insert, get-remove}
use Rattle.std.specs.FinMap.{same_map, find as find_entry}
use Rattle.std.specs.FinMap.Entries.{below_all}
use Rattle.std.specs.List.{AllByRecursion, filter}
use Rattle.std.specs.List.Sorted.{IsStrictlySortedBy}
use Rattle.std.specs.Map.{keys_of, lookup, update, update_all, values_of}
use Rattle.std.specs.Cmp.{eq_by_cmp_equiv}
use Rattle.std.specs.declared.cmp.Ordering.{Ordering}
use Rattle.std.specs.declared.cmp.Ordering.TheVariants.{Less}
use Rattle.std.specs.Ordering.{eq_by_cmp, is_eq, is_le, is_lt}
use Rattle.rr_object.proofs.KeyLaws.{keys_total, keys_exact, same_key}
use Rattle.rr_auth.specs.Registries.{Reg}
use Rattle.rr_object.proofs.DerivedOrder.{derived_order}
use Rattle.rr_object.specs.contracts.key.KeyOrd.TheImpl as derived
use Rattle.rr_object.specs.declared.key.Key.{Key}
use Rattle.rr_object.specs.KeyOrders.{key_cmp}
use Rattle.rr_object.specs.Objects.{Obj}
use Rattle.rr_book.specs.Books.{book_of, entry, is_in_order}
use Rattle.rr_sets.specs.Lists.{lent}
use Rattle.rr_index.specs.KeyRangeParts.{lies_between}
use Rattle.rr_index.specs.ObjectMaps.{registry_of, IsRising}
use Rattle.rr_index.proofs.Gathered.{first_of, less, second_of}

-- the derived order of keys is their order
pub one_order : (derived.ghosts).cmp ≡ key_cmp
one_order = λ i a b. derived_order a b i

T_of : {b : Bool} → b ≡ true → T b
T_of e = subst T (sym e) tt

is_less : (r : Ordering) → r ≡ Less → is_lt r ≡ true
is_less r e = ap is_lt e

below_rising : (k : Key) (es : List (Key × Obj)) → AllByRecursion (λ y. key_cmp k y ≡ Less)
    (keys_of es) → below_all key_cmp k es ≡ true
below_rising k [] h = refl
below_rising k (e ∷ es) h = ap (λ b. b && below_all key_cmp k es) (is_less _ h.0) ∙ below_rising k
    es h.1

sorted_rising : (es : List (Key × Obj)) → IsStrictlySortedBy key_cmp (keys_of es) →
    is_sorted key_cmp es ≡ true
unfolding IsStrictlySortedBy
sorted_rising [] h = refl
sorted_rising (e ∷ es) h = ap (λ b. b && is_sorted key_cmp es) (below_rising e.0 es h.0)
    ∙ sorted_rising es h.1

-- the keys of a map rise
pub rising : (m : BTreeMap Key Obj) → IsStrictlySortedBy (derived.ghosts).cmp (keys_of m.entries) →
    IsRising m
rising m h = sorted_rising m.entries
    (subst (λ (cmp : Key → Key → Ordering). IsStrictlySortedBy cmp (keys_of m.entries)) one_order h)

scan : (k : Key) (es : List (Key × Obj)) → lookup (is_at (key_cmp k)) es ≡ find_entry key_cmp k es
scan k [] = refl
scan k (e ∷ es) = ap (cond (eq_by_cmp key_cmp k e.0) (Some e.1)) (scan k es)

-- what a look-up finds
pub looked_up : (m : BTreeMap Key Obj) (k : Key) → IsRising m → at_key (derived.ghosts).cmp m k
    ≡ get (registry_of m) k
looked_up m k rise =
    ap (λ (cmp : Key → Key → Ordering). at_key cmp m k) one_order
    ∙ scan k m.entries
    ∙ sym (get-from_sorted key_cmp m.entries k (T_of rise))

changed : (old new : BTreeMap Key Obj) (k : Key) (w : Option Obj) → IsRising old → IsRising new →
    Updates (derived.ghosts).cmp old new k w
    → (q : Key) → get (registry_of new) q ≡ cond (eq_by_cmp key_cmp q k) w (get (registry_of old) q)
changed old new k w before after update q =
    sym (looked_up new q after)
    ∙ update.0 q
    ∙ (λ i. cond (is_at (one_order i k) q) w (looked_up old q before i))
    ∙ ap (λ b. cond b w (get (registry_of old) q)) ((eq_by_cmp_equiv keys_total).symm k q)

-- one more entry
pub registry_inserted : (old new : BTreeMap Key Obj) (k : Key) (o : Obj) → IsRising old →
    IsRising new → Updates (derived.ghosts).cmp old new k (Some o)
    → registry_of new ≡ insert (registry_of old) k o
registry_inserted old new k o before after update =
    same_map keys_total keys_exact _ _ (λ q. changed old new k (Some o) before after update q
    ∙ sym (get-insert keys_total (registry_of old) k o q))

-- one entry less
pub registry_removed : (old new : BTreeMap Key Obj) (k : Key) → IsRising old → IsRising new →
    Updates (derived.ghosts).cmp old new k None
    → registry_of new ≡ remove (registry_of old) k
registry_removed old new k before after update =
    same_map keys_total keys_exact _ _ (λ q. changed old new k None before after update q
    ∙ sym (get-remove keys_total (registry_of old) k q))

-- an object in place of another
pub registry_replaced : (old new : BTreeMap Key Obj) (given k : Key) (placed o : Obj) →
    IsRising old → IsRising new → given ≡ k → placed ≡ o
    → ((q : Key) → at_key (derived.ghosts).cmp new q ≡ cond (is_at ((derived.ghosts).cmp given) q)
    (Some placed) (at_key (derived.ghosts).cmp old q))
    → registry_of new ≡ insert (registry_of old) k o
registry_replaced old new given k placed o before after same_key same_object update =
    same_map keys_total keys_exact _ _ (λ q.
    sym (looked_up new q after)
    ∙ update q
    ∙ (λ i. cond (is_at (one_order i (same_key i)) q) (Some (same_object i))
    (looked_up old q before i))
    ∙ ap (λ b. cond b (Some o) (get (registry_of old) q)) ((eq_by_cmp_equiv keys_total).symm k q)
    ∙ sym (get-insert keys_total (registry_of old) k o q))

-- the values of the entries are the objects
pub registry_values : (m : BTreeMap Key Obj) → IsRising m → values (registry_of m) ≡ values_of
    m.entries
registry_values m rise = ap values_of (entries-from_sorted key_cmp m.entries (T_of rise))

abbrev or_else : Option Obj → Option Obj → Option Obj
or_else None other = other
or_else (Some o) other = Some o

or_none : (found : Option Obj) → or_else found None ≡ found
or_none None = refl
or_none (Some o) = refl

none_above : (k : Key) (es : List (Key × Obj)) → T (below_all key_cmp k es) → find_entry key_cmp k
    es ≡ None
none_above k [] h = refl
none_above k (e ∷ es) h =
    ap (λ r. cond (is_eq r) (Some e.1) (find_entry key_cmp k es)) (less _ (first_of _ _ h))
    ∙ none_above k es (second_of (is_lt (key_cmp k e.0)) _ h)

put_in_turn : (q : Key) (f : Key → Option Obj) (es : List (Key × Obj)) → T (is_sorted key_cmp es)
    → update_all (eq_by_cmp key_cmp) f es q ≡ or_else (find_entry key_cmp q es) (f q)
put_in_turn q f [] h = refl
put_in_turn q f (e ∷ es) h =
    put_in_turn q (update (eq_by_cmp key_cmp) f e.0 (Some e.1)) es
    (second_of (below_all key_cmp e.0 es) _ h)
    ∙ ap (λ b. or_else (find_entry key_cmp q es) (cond b (Some e.1) (f q)))
    ((eq_by_cmp_equiv keys_total).symm e.0 q)
    ∙ elim (eq_by_cmp key_cmp q e.0) as (λ b. eq_by_cmp key_cmp q e.0 ≡ b
    → or_else (find_entry key_cmp q es) (cond b (Some e.1) (f q)) ≡ or_else
    (cond b (Some e.1) (find_entry key_cmp q es)) (f q)) [
      | true ↦ λ same. ap (λ o. or_else o (Some e.1))
          (ap (λ k. find_entry key_cmp k es) (same_key q e.0 same) ∙ none_above e.0 es
          (first_of _ _ h))
      | false ↦ λ other. refl
    ] refl

-- the entries of objects in order, put into an empty map in turn
pub registry_collected : (m : BTreeMap Key Obj) (os : List Obj) → is_in_order os ≡ true → IsRising m
    → ((q : Key) → at_key (derived.ghosts).cmp m q ≡ update_all (eq_by_cmp (derived.ghosts).cmp)
    (λ _. None) (map entry os) q)
    → registry_of m ≡ book_of os
registry_collected m os order rise put = same_map keys_total keys_exact _ _ (λ q.
    sym (looked_up m q rise)
    ∙ put q
    ∙ ap (λ (cmp : Key → Key → Ordering). update_all (eq_by_cmp cmp) (λ _. None) (map entry os) q)
    one_order
    ∙ put_in_turn q (λ _. None) (map entry os) (T_of order)
    ∙ or_none (find_entry key_cmp q (map entry os))
    ∙ sym (get-from_sorted key_cmp (map entry os) q (T_of order)))

-- one more object was found
pub found_one : (found more : List (Bor Obj)) (o : Bor Obj) (os left rest : List Obj) →
    lent found ++ left ≡ os → left ≡ o.now ∷ rest → more ≡ found ++ o ∷ []
    → lent more ++ rest ≡ os
found_one found more o os left rest before step put =
    ap (λ (xs : List (Bor Obj)). lent xs ++ rest) put ∙ pushed found
    ∙ ap (λ (xs : List Obj). lent found ++ xs) (sym step) ∙ before
  where
    pushed : (xs : List (Bor Obj)) → lent (xs ++ o ∷ []) ++ rest ≡ lent xs ++ o.now ∷ rest
    pushed [] = refl
    pushed (x ∷ xs) = ap (λ ys. x.now ∷ ys) (pushed xs)

-- what a part of the entries holds
pub part_of : (m : BTreeMap Key Obj) (r : Reg) (low high first last : Key) → low ≡ first →
    high ≡ last → IsRising m → registry_of m ≡ r
    → entries_between (derived.ghosts).cmp (Included low) (Included high) m.entries
    ≡ filter (λ e. lies_between first last e.0) (entries r)
part_of m r low high first last from to rise is =
    (λ i. filter (λ (e : Key × Obj). is_le (one_order i (from i) e.0) && not
    (is_lt (one_order i (to i) e.0))) m.entries)
    ∙ ap (filter (λ (e : Key × Obj). lies_between first last e.0))
    (sym (entries-from_sorted key_cmp m.entries (T_of rise)) ∙ ap entries is)
