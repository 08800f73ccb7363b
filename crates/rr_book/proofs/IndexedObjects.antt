-- The objects to which the keys under a set lead.
use Rattle.std.proofs.Common.{◌≡◌, ◌≢◌, ◌↔◌, ◌||◌, ◌++◌, ℕ, true, false, List, [], ◌∷◌, get_or}
use Rattle.std.proofs.Common.{Contains, IsTrue, Bor, Option, None, Some, refl, sym, ap, subst, ◌∙◌}
use Rattle.std.proofs.Common.{inl, inr, arith}
use Rattle.std.specs.BTreeMap.{BTreeMap, get as keys_at, is_at}
use Rattle.std.specs.BTreeSet.{BTreeSet, contains}
use Rattle.std.specs.Cmp.{tied_itself}
use Rattle.std.specs.Cmp.Lexicographic.{slice_cmp}
use Rattle.std.specs.FinMap.{get}
use Rattle.std.specs.List.{cons_option, filter_map, list_any}
use Rattle.std.specs.List.Sorted.{IsStrictlySortedBy}
use Rattle.std.specs.Option.{option_map_or}
use Rattle.std.specs.declared.cmp.Ordering.TheVariants.{Less, Equal}
use Rattle.std.specs.Ordering.{eq_by_cmp, nat_cmp}
use Rattle.std.specs.Str.{bytes_eq}
use Rattle.std.proofs.Math.Bool.{or-true}
use Rattle.std.proofs.lemmas.List.Elements.{All-contains, All-from_recursion, Contains-get_or}
use Rattle.std.proofs.lemmas.List.Kept.{AllPairs-cons}
use Rattle.std.proofs.lemmas.Slice.Eq.{bytes_eq-Decides}
use Rattle.rr_object.proofs.KeyLaws.{keys_total, same_key, tied_key}
use Rattle.rr_auth.specs.Registries.{Reg}
use Rattle.rr_graph.proofs.Listings.{Contains-cons_cases}
use Rattle.rr_graph.proofs.Lists.{Contains-filter_map, Contains-head, Contains-later, Contains-nil}
use Rattle.rr_graph.specs.Chain.{HasNoRepeats}
use Rattle.rr_object.proofs.DerivedOrder.{derived_order}
use Rattle.rr_object.specs.contracts.key.KeyOrd.TheImpl as derived
use Rattle.rr_object.specs.declared.key.Key.{Key}
use Rattle.rr_object.specs.KeyOrders.{key_cmp}
use Rattle.rr_object.specs.Objects.{Obj}
use Rattle.rr_sets.specs.Lists.{IsReferrer, ListsOnce, lent}
use Rattle.rr_book.proofs.KeysUnderSets.{found_has_key}
use Rattle.rr_book.proofs.Order.{get_of_book}
use Rattle.rr_book.specs.Books.{book_of, object_at}
use Rattle.rr_book.specs.SetIndexes.{IsIndexed, stands_under}
use Rattle.rr_book.specs.SetLists.{names_set}

lent_push : (found : List (Bor Obj)) (o : Bor Obj) (os : List Obj) → lent (found ++ o ∷ []) ++ os
    ≡ lent found ++ o.now ∷ os
lent_push [] o os = refl
lent_push (x ∷ found) o os = ap (λ ys. x.now ∷ ys) (lent_push found o os)

-- a key has led to an object, which was put after those found
pub found_more : {K : Type 0} (f : K → Option Obj) (all : List K) (found more : List (Bor Obj))
    (o : Bor Obj) (k : K) (left rest : List K)
    → lent found ++ filter_map f left ≡ filter_map f all → left ≡ k ∷ rest → f k ≡ Some o.now →
    more ≡ found ++ o ∷ []
    → lent more ++ filter_map f rest ≡ filter_map f all
found_more f all found more o k left rest before step led put =
    ap (λ (os : List (Bor Obj)). lent os ++ filter_map f rest) put
    ∙ lent_push found o (filter_map f rest)
    ∙ ap (λ x. lent found ++ cons_option x (filter_map f rest)) (sym led)
    ∙ ap (λ ks. lent found ++ filter_map f ks) (sym step)
    ∙ before

-- a key has led to none
pub found_no_more : {K : Type 0} (f : K → Option Obj) (all : List K) (found : List (Bor Obj))
    (k : K) (left rest : List K)
    → lent found ++ filter_map f left ≡ filter_map f all → left ≡ k ∷ rest → f k ≡ None
    → lent found ++ filter_map f rest ≡ filter_map f all
found_no_more f all found k left rest before step led =
    ap (λ x. lent found ++ cons_option x (filter_map f rest)) (sym led)
    ∙ ap (λ ks. lent found ++ filter_map f ks) (sym step)
    ∙ before

-- a list of names has a name where some of them is equal to it
named_by_some : (name : List ℕ) (names : List (List ℕ)) →
    IsTrue (list_any (λ own. bytes_eq own name) names) ↔ Contains names name
named_by_some name names = (on names, back names) where
  on : (names : List (List ℕ)) → IsTrue (list_any (λ own. bytes_eq own name) names) →
      Contains names name
  on [] is = cc
  on (n ∷ ns) is = elim (bytes_eq n name) as (λ b. bytes_eq n name ≡ b →
      IsTrue (b || list_any (λ own. bytes_eq own name) ns) → Contains (n ∷ ns) name) [
        | true ↦ λ e more. subst (Contains (n ∷ ns)) ((bytes_eq-Decides n name).0 e)
            (Contains-head n ns)
        | false ↦ λ e more. Contains-later n ns name (on ns more)
      ] refl is

  back : (names : List (List ℕ)) → Contains names name →
      IsTrue (list_any (λ own. bytes_eq own name) names)
  back [] has = absurd (Contains-nil name has)
  back (n ∷ ns) has = elim (Contains-cons_cases n ns name has) [
    | inl same ↦ ap (λ b. b || list_any (λ own. bytes_eq own name) ns)
        ((bytes_eq-Decides n name).1 same)
    | inr later ↦ ap (λ b. bytes_eq n name || b) (back ns later) ∙ or-true (bytes_eq n name)
  ]

-- keys that rise lead to different objects
leads_apart : (os : List Obj) (keys : List Key) → IsStrictlySortedBy (derived.ghosts).cmp keys →
    HasNoRepeats (filter_map (object_at os) keys)
unfolding IsStrictlySortedBy
leads_apart os [] rise = λ i j d low inside. absurd (omega arith)
leads_apart os (k ∷ ks) rise =
    elim (object_at os k) as (λ r. object_at os k ≡ r →
    HasNoRepeats (cons_option r (filter_map (object_at os) ks))) [
      | None ↦ λ e. leads_apart os ks rise.1
      | Some o ↦ λ e. AllPairs-cons (λ a b. a ≢ b) o (filter_map (object_at os) ks)
          (λ i d inside. other o e (get_or (filter_map (object_at os) ks) i d)
          (Contains-get_or (filter_map (object_at os) ks) i d inside)) (leads_apart os ks rise.1)
    ] refl where
      other : (o : Obj) → object_at os k ≡ Some o → (x : Obj) →
          Contains (filter_map (object_at os) ks) x → o ≢ x
      other o e x has same =
          let l = (Contains-filter_map (object_at os) ks x).0 has in
          let keys : k ≡ l.0 = found_has_key k o os e ∙ ap (λ (y : Obj). y.key) same
          ∙ sym (found_has_key l.0 x os l.2) in
          let below : (derived.ghosts).cmp k l.0 ≡ Less =
          All-contains (λ y. (derived.ghosts).cmp k y ≡ Less) ks l.0
          (All-from_recursion (λ y. (derived.ghosts).cmp k y ≡ Less) ks rise.0) l.1 in
          let tied : key_cmp k l.0 ≡ Equal = ap (key_cmp k) (sym keys) ∙ tied_itself keys_total k in
          let wrong : Less ≡ Equal = sym below ∙ derived_order k l.0 ∙ tied in cc

-- a set has a key where it is one of its list
listed : (key : Key) (keys : List Key) → list_any (is_at (key_cmp key)) keys ≡ true →
    Contains keys key
listed key [] is = cc
listed key (k ∷ ks) is =
    elim (eq_by_cmp key_cmp key k) as (λ b. eq_by_cmp key_cmp key k ≡ b →
    (b || list_any (is_at (key_cmp key)) ks) ≡ true → Contains (k ∷ ks) key) [
      | true ↦ λ e any. subst (λ (l : Key). Contains (l ∷ ks) key) (same_key key k e)
          (Contains-head key ks)
      | false ↦ λ e any. Contains-later k ks key (listed key ks any)
    ] refl is

has_listed : (key : Key) (keys : List Key) → Contains keys key → list_any (is_at (key_cmp key))
    keys ≡ true
has_listed key [] has = absurd (Contains-nil key has)
has_listed key (k ∷ ks) has = elim (Contains-cons_cases k ks key has) [
  | inl same ↦ ap (λ l. eq_by_cmp key_cmp key l || list_any (is_at (key_cmp key)) ks) same
      ∙ ap (λ b. b || list_any (is_at (key_cmp key)) ks) (tied_key key)
  | inr later ↦ ap (λ b. eq_by_cmp key_cmp key k || b) (has_listed key ks later) ∙ or-true
      (eq_by_cmp key_cmp key k)
]

module _ (os : List Obj) (sets : BTreeMap (List ℕ) (BTreeSet Key)) (indexed : IsIndexed os sets)
    (r : Reg) (is_r : book_of os ≡ r) (name : List ℕ) where
  at_key : (key : Key) → get r key ≡ object_at os key
  at_key key = ap (λ m. get m key) (sym is_r) ∙ get_of_book os key indexed.book.ordered

  stands : (key : Key) (o : Obj) → get r key ≡ Some o → stands_under sets name key ≡ names_set name
      o
  stands key o at = indexed.referrers name key ∙ ap (λ x. option_map_or (names_set name) x false)
      (ap (λ m. get m key) is_r ∙ at)

  -- the objects to which the keys under a set lead are those that name it
  pub lists_named : (keys : BTreeSet Key) (found : List (Bor Obj)) → Some keys ≡ keys_at
      (slice_cmp nat_cmp) sets name → lent found ≡ filter_map (object_at os) keys.keys
      → IsStrictlySortedBy (derived.ghosts).cmp keys.keys → ListsOnce (IsReferrer r name) found
  lists_named keys found there is rise = record {
    same = λ o. (
      λ has.
          let k = (Contains-filter_map (object_at os) keys.keys o).0
          (subst (λ (xs : List Obj). Contains xs o) is has) in
          let at : get r k.0 ≡ Some o = at_key k.0 ∙ k.2 in
          let under : stands_under sets name k.0 ≡ true =
          ap (λ (x : Option (BTreeSet Key)). option_map_or (λ ks. contains key_cmp ks k.0) x
          false) (sym there) ∙ has_listed k.0 keys.keys k.1 in
          (k.0, at, (named_by_some name o.member_of).0 (sym (stands k.0 o at) ∙ under)),
      λ (key, at, names).
          let under : contains key_cmp keys key ≡ true =
          ap (λ (x : Option (BTreeSet Key)). option_map_or (λ ks. contains key_cmp ks key) x false)
          there ∙ stands key o at ∙ (named_by_some name o.member_of).1 names in
          subst (λ (xs : List Obj). Contains xs o) (sym is)
          ((Contains-filter_map (object_at os) keys.keys o).1 (
            key,
            listed key keys.keys under,
            sym (at_key key) ∙ at,
          )),
    );
    once = subst HasNoRepeats (sym is) (leads_apart os keys.keys rise);
  }

  -- where there are no keys under the set, no object names it
  pub lists_none : (found : List (Bor Obj)) → None ≡ keys_at (slice_cmp nat_cmp) sets name →
      found ≡ [] → ListsOnce (IsReferrer r name) found
  lists_none found none is = subst (ListsOnce (IsReferrer r name)) (sym is) (record {
    same = λ o. (
      λ has. absurd (Contains-nil o has),
      λ (key, at, names).
          let wrong : false ≡ true =
          ap (λ (x : Option (BTreeSet Key)). option_map_or (λ ks. contains key_cmp ks key) x
          false) none ∙ stands key o at ∙ (named_by_some name o.member_of).1 names in cc,
    );
    once = λ i j d low inside. absurd (omega arith);
  })
