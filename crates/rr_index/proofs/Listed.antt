-- The objects of a sound registry, as a list in order.
use Rattle.std.proofs.Common.{◌≡◌, ℕ, Bool, true, false, cond, ◌&&◌, T, List, [], ◌∷◌, map, Bor}
use Rattle.std.proofs.Common.{refl, sym, ap, subst, ◌∙◌}
use Rattle.std.specs.Prelude.{None, Some, find}
use Rattle.std.specs.BTreeSet.{BTreeSet}
use Rattle.std.specs.BTreeMap.{BTreeMap, get as keys_at}
use Rattle.std.specs.Cmp.Lexicographic.{slice_cmp}
use Rattle.std.specs.FinMap.{entries, entries_sorted, get, get-entries, get-from_sorted}
use Rattle.std.specs.FinMap.{from_sorted, is_sorted, same_map, values, find as find_entry}
use Rattle.std.specs.FinMap.Entries.{below_all}
use Rattle.std.specs.List.{filter_map}
use Rattle.std.specs.List.Sorted.{IsStrictlySortedBy}
use Rattle.std.specs.declared.cmp.Ordering.TheVariants.{Less, Equal, Greater}
use Rattle.std.specs.Ordering.{eq_by_cmp, is_eq, is_lt, nat_cmp}
use Rattle.rr_object.proofs.KeyLaws.{keys_exact, keys_total, same_key, tied_key}
use Rattle.rr_auth.specs.Registries.{Reg, Sound}
use Rattle.rr_book.proofs.IndexedObjects.{lists_named, lists_none}
use Rattle.rr_book.proofs.Order.{get_of_book}
use Rattle.rr_book.specs.Books.{IsBook, book_of, entry, is_in_order}
use Rattle.rr_book.specs.SetIndexes.{HasReferrers, IsIndexed}
use Rattle.rr_object.specs.contracts.key.KeyOrd.TheImpl as derived
use Rattle.rr_object.specs.declared.key.Key.{Key}
use Rattle.rr_object.specs.KeyOrders.{key_cmp}
use Rattle.rr_object.specs.Objects.{Obj}
use Rattle.rr_sets.specs.Lists.{IsReferrer, ListsOnce, lent}

first_of : (a b : Bool) → T (a && b) → T a
first_of true b h = tt
first_of false b h = h

second_of : (a b : Bool) → T (a && b) → T b
second_of true b h = h
second_of false b h = absurd h

true_of : (b : Bool) → T b → b ≡ true
true_of true h = refl
true_of false h = absurd h

pub missed : (k : Key) (es : List (Key × Obj)) → T (below_all key_cmp k es) → find_entry key_cmp k
    es ≡ None
missed k [] h = refl
missed k (e ∷ es) h =
    elim (key_cmp k e.0) as (λ o. T (is_lt o && below_all key_cmp k es) → cond (is_eq o) (Some e.1)
    (find_entry key_cmp k es) ≡ None) [
      | Less ↦ λ g. missed k es g
      | Equal ↦ λ g. absurd g
      | Greater ↦ λ g. absurd g
    ] h

nothing : (x : Obj) → None ≡ Some x → ⊥
nothing x e = cc

after : (e : Key × Obj) (es : List (Key × Obj)) (k : Key) (o : Obj) → T (below_all key_cmp e.0 es)
    → find_entry key_cmp k es ≡ Some o → find_entry key_cmp k (e ∷ es) ≡ Some o
after e es k o below f =
    elim (eq_by_cmp key_cmp k e.0) as (λ b. eq_by_cmp key_cmp k e.0 ≡ b →
    cond b (Some e.1) (find_entry key_cmp k es) ≡ Some o) [
      | true ↦ λ t.
          absurd (nothing o (sym (missed e.0 es below) ∙ ap (λ l. find_entry key_cmp l es)
          (sym (same_key k e.0 t)) ∙ f))
      | false ↦ λ t. f
    ] refl

-- entries under the keys of their objects are those of the objects
own_entries : (es : List (Key × Obj)) → T (is_sorted key_cmp es) →
    ((k : Key) (o : Obj) → find_entry key_cmp k es ≡ Some o → o.key ≡ k) →
    map entry (map (λ e. e.1) es) ≡ es
own_entries [] sorted keyed = refl
own_entries (e ∷ es) sorted keyed =
    let own : e.1.key ≡ e.0 =
    keyed e.0 e.1 (ap (λ b. cond b (Some e.1) (find_entry key_cmp e.0 es)) (tied_key e.0)) in
    let rest = own_entries es (second_of (below_all key_cmp e.0 es) _ sorted)
    (λ k o f. keyed k o (after e es k o (first_of (below_all key_cmp e.0 es) _ sorted) f)) in
    λ i. (own i, e.1) ∷ rest i

module _ (r : Reg) (sound : Sound r) where
  -- each object stands under its own key
  pub whole : map entry (values r) ≡ entries r
  whole = own_entries (entries r) (entries_sorted r)
      (λ k o f. sound.keyed k o (get-entries r k ∙ f))

  ordered : is_in_order (values r) ≡ true
  ordered = ap (is_sorted key_cmp) whole ∙ true_of _ (entries_sorted r)

  -- the registry of its objects is the registry itself
  pub same_book : book_of (values r) ≡ r
  same_book =
      ap (λ (es : List (Key × Obj)). from_sorted {R = key_cmp} es) whole
      ∙ same_map keys_total keys_exact _ _ (λ q. get-from_sorted key_cmp (entries r) q
      (entries_sorted r) ∙ sym (get-entries r q))

  pub in_order : is_in_order (values r) ≡ true
  in_order = ordered

  pub is_book : IsBook (values r)
  is_book = record { ordered = ordered; sound = subst Sound (sym same_book) sound }

  indexed : (sets : BTreeMap (List ℕ) (BTreeSet Key)) → HasReferrers r sets → IsIndexed (values r)
      sets
  indexed sets has = record {
    book = is_book;
    referrers = subst (λ m. HasReferrers m sets)
        (sym same_book) has;
  }

  found_at : (key : Key) → get r key ≡ find (λ o. eq_by_cmp key_cmp key o.key) (values r)
  found_at key = ap (λ m. get m key) (sym same_book) ∙ get_of_book (values r) key ordered

  -- the objects to which the keys under a set lead are those that name it
  pub referrers_listed : (sets : BTreeMap (List ℕ) (BTreeSet Key)) → HasReferrers r sets →
      (name : List ℕ) (keys : BTreeSet Key) (found : List (Bor Obj))
      → Some keys ≡ keys_at (slice_cmp nat_cmp) sets name → lent found ≡ filter_map
      (λ key. get r key) keys.keys → IsStrictlySortedBy (derived.ghosts).cmp keys.keys
      → ListsOnce (IsReferrer r name) found
  referrers_listed sets has name keys found there is rise =
      lists_named (values r) sets (indexed sets has) r same_book name keys found there
      (is ∙ (λ i. filter_map (λ key. found_at key i) keys.keys)) rise

  -- where there are no keys under the set, no object names it
  pub no_referrers : (sets : BTreeMap (List ℕ) (BTreeSet Key)) → HasReferrers r sets →
      (name : List ℕ) (found : List (Bor Obj))
      → None ≡ keys_at (slice_cmp nat_cmp) sets name → found ≡ [] → ListsOnce (IsReferrer r name)
      found
  no_referrers sets has name found none is = lists_none (values r) sets (indexed sets has) r
      same_book name found none is
