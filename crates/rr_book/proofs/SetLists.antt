-- What the objects of a registry are, as lists of them.
use Rattle.std.proofs.Common.{◌≡◌, ◌≢◌, ◌↔◌, arith, ℕ, Bool, true, false, cond, T, List, [], ◌∷◌}
use Rattle.std.proofs.Common.{get_or, Contains, IsTrue, Bor, map, refl, sym, ap, subst, ◌∙◌, inl}
use Rattle.std.proofs.Common.{inr}
use Rattle.std.specs.Prelude.{Some, ◌==◌}
use Rattle.std.specs.List.{filter}
use Rattle.std.specs.declared.cmp.Ordering.TheVariants.{Less, Equal}
use Rattle.std.specs.Ordering.{eq_by_cmp, is_eq, ordering_reverse}
use Rattle.std.specs.Cmp.{tied_itself}
use Rattle.std.specs.FinMap.{get, entries, values, entries_sorted, get-entries, is_sorted}
use Rattle.std.specs.FinMap.{find as find_entry}
use Rattle.std.specs.FinMap.Entries.{below_all}
use Rattle.std.proofs.lemmas.List.Elements.{Contains-get_or}
use Rattle.std.proofs.lemmas.List.Kept.{AllPairs-cons, AllPairs-filter}
use Rattle.rr_object.proofs.KeyLaws.{keys_total}
use Rattle.rr_object.specs.KeyOrders.{key_cmp}
use Rattle.rr_auth.specs.Registries.{Reg, Sound}
use Rattle.rr_graph.proofs.Listings.{Contains-cons_cases}
use Rattle.rr_graph.proofs.Lists.{Contains-filter, Contains-head, Contains-later, Contains-map}
use Rattle.rr_graph.proofs.Lists.{Contains-nil}
use Rattle.rr_graph.specs.Chain.{HasNoRepeats}
use Rattle.rr_number.specs.Prefixes.{PrefixParts}
use Rattle.rr_object.specs.Classes.{class_number}
use Rattle.rr_object.specs.Keys.{class_of}
use Rattle.rr_object.specs.Objects.{Obj}
use Rattle.rr_object.specs.declared.class.Class.TheVariants as class
use Rattle.rr_object.specs.declared.key.Key.{Key}
use Rattle.rr_object.specs.declared.key.Key.TheVariants.{Mntner, AsBlock, AutNum, Inetnum, Route}
use Rattle.rr_object.specs.declared.key.Key.TheVariants.{AsSet, RouteSet}
use Rattle.rr_book.proofs.Places.{T_parts, is_Less}
use Rattle.rr_book.specs.SetLists.{is_of_class}
use Rattle.rr_sets.specs.Lists.{IsAutNum, IsRegisteredRoute, ListsOnce, lent}

abbrev Entry : Type 0
Entry = Key × Obj

-- a key before sorted entries is below theirs
in_head : (k : Key) (es : List Entry) → T (below_all key_cmp k es) → (e : Entry) → Contains es e →
    key_cmp k e.0 ≡ Less
in_head k [] h e has = absurd (Contains-nil e has)
in_head k (x ∷ xs) h e has = elim (Contains-cons_cases x xs e has) [
  | inl same ↦ subst (λ (y : Entry). key_cmp k y.0 ≡ Less) same (is_Less _ (T_parts _ _ h).0)
  | inr later ↦ in_head k xs (T_parts _ _ h).1 e later
]

-- a key that is below another is not that one
below_is_other : (k l : Key) → key_cmp k l ≡ Less → eq_by_cmp key_cmp l k ≡ false
below_is_other k l below = ap is_eq (keys_total.antisymm l k ∙ ap ordering_reverse below)

-- each of sorted entries is the one that is found under its key
found_by_key : (es : List Entry) → T (is_sorted key_cmp es) → (e : Entry) → Contains es e →
    find_entry key_cmp e.0 es ≡ Some e.1
found_by_key [] h e has = absurd (Contains-nil e has)
found_by_key (x ∷ xs) h e has = elim (Contains-cons_cases x xs e has) [
  | inl same ↦ subst (λ (y : Entry). cond (eq_by_cmp key_cmp y.0 x.0) (Some x.1)
      (find_entry key_cmp y.0 xs) ≡ Some y.1) same
      (ap (λ r. cond (is_eq r) (Some x.1) (find_entry key_cmp x.0 xs)) (tied_itself keys_total x.0))
  | inr later ↦ ap (λ b. cond b (Some x.1) (find_entry key_cmp e.0 xs))
      (below_is_other x.0 e.0 (in_head x.0 xs (T_parts _ _ h).0 e later))
      ∙ found_by_key xs (T_parts _ _ h).1 e later
]

-- what is found under a key is of an entry
found_is_entry : (k : Key) (o : Obj) (es : List Entry) → find_entry key_cmp k es ≡ Some o →
    Contains (map (λ e. e.1) es) o
found_is_entry k o [] is = cc
found_is_entry k o (e ∷ es) is =
    elim (eq_by_cmp key_cmp k e.0) as (λ b. cond b (Some e.1) (find_entry key_cmp k es) ≡ Some o →
    Contains (e.1 ∷ map (λ e. e.1) es) o) [
      | true ↦ λ g. let same : e.1 ≡ o = cc in subst (Contains (e.1 ∷ map (λ e. e.1) es)) same
          (Contains-head e.1 (map (λ e. e.1) es))
      | false ↦ λ g. Contains-later e.1 (map (λ e. e.1) es) o (found_is_entry k o es g)
    ] is

-- an entry before sorted ones has another object than they
differs : (x : Entry) (xs : List Entry) → T (below_all key_cmp x.0 xs) → x.1.key ≡ x.0 →
    ((e : Entry) → Contains xs e → e.1.key ≡ e.0) → (o : Obj) → Contains (map (λ e. e.1) xs) o →
    x.1 ≢ o
differs x xs h own keyed o has same =
    let e = (Contains-map (λ (y : Entry). y.1) xs o).0 has in
    let keys : x.0 ≡ e.0.0 = sym own ∙ ap (λ (y : Obj). y.key) (same ∙ sym e.2) ∙ keyed e.0 e.1 in
    let below : key_cmp x.0 e.0.0 ≡ Less = in_head x.0 xs h e.0 e.1 in
    let tied : key_cmp x.0 e.0.0 ≡ Equal = ap (key_cmp x.0) (sym keys) ∙ tied_itself keys_total
    x.0 in
    let wrong : Less ≡ Equal = sym below ∙ tied in cc

-- objects whose keys strictly rise are different ones
apart : (es : List Entry) → T (is_sorted key_cmp es) →
    ((e : Entry) → Contains es e → e.1.key ≡ e.0) → HasNoRepeats (map (λ e. e.1) es)
apart [] h keyed = λ i j d low inside. absurd (omega arith)
apart (x ∷ xs) h keyed = AllPairs-cons (λ a b. a ≢ b) x.1 (map (λ e. e.1) xs)
    (λ k d inside. differs x xs (T_parts _ _ h).0 (keyed x (Contains-head x xs))
    (λ e has. keyed e (Contains-later x xs e has)) (get_or (map (λ e. e.1) xs) k d)
    (Contains-get_or (map (λ e. e.1) xs) k d inside))
    (apart xs (T_parts _ _ h).1 (λ e has. keyed e (Contains-later x xs e has)))

-- the keys of the classes of which lists are asked for
number_of_aut_num : (k : Key) → IsTrue (class_number (class_of k) == 3) → (n : ℕ) × (k ≡ AutNum n)
number_of_aut_num (Mntner name) is = cc
number_of_aut_num (AsBlock span) is = cc
number_of_aut_num (AutNum n) is = (n, refl)
number_of_aut_num (Inetnum span) is = cc
number_of_aut_num (Route prefix origin) is = cc
number_of_aut_num (AsSet name) is = cc
number_of_aut_num (RouteSet name) is = cc

parts_of_route : (k : Key) → IsTrue (class_number (class_of k) == 5) → (prefix : PrefixParts)
    × (origin : ℕ) × (k ≡ Route prefix origin)
parts_of_route (Mntner name) is = cc
parts_of_route (AsBlock span) is = cc
parts_of_route (AutNum n) is = cc
parts_of_route (Inetnum span) is = cc
parts_of_route (Route prefix origin) is = (prefix, origin, refl)
parts_of_route (AsSet name) is = cc
parts_of_route (RouteSet name) is = cc

module _ (r : Reg) (sound : Sound r) where
  keyed : (e : Entry) → Contains (entries r) e → e.1.key ≡ e.0
  keyed e has = sound.keyed e.0 e.1 (get-entries r e.0 ∙ found_by_key (entries r)
      (entries_sorted r) e has)

  -- the objects are what stands under some key
  registered : (o : Obj) → Contains (values r) o ↔ ((k : Key) × (get r k ≡ Some o))
  registered o = (
    λ has.
        let e = (Contains-map (λ (y : Entry). y.1) (entries r) o).0 has in (
          e.0.0,
          get-entries r e.0.0 ∙ found_by_key (entries r) (entries_sorted r) e.0 e.1 ∙ ap Some
              e.2,
        ),
    λ (k, is). found_is_entry k o (entries r) (sym (get-entries r k) ∙ is),
  )

  -- the objects that pass a test, each once
  pub lists_those : (passes : Obj → Bool) (P : Obj → Type 0) (found : List (Bor Obj)) → lent found
      ≡ filter passes (values r)
      → ((k : Key) (o : Obj) → get r k ≡ Some o → IsTrue (passes o) ↔ P o) →
      ((o : Obj) → P o → (k : Key) × (get r k ≡ Some o)) → ListsOnce P found
  lists_those passes P found is means somewhere = record {
    same = λ o. (
      λ has.
          let both = (Contains-filter passes (values r) o).0
          (subst (λ (os : List Obj). Contains os o) is has) in
          let at = (registered o).0 both.0 in
          (means at.0 o at.1).0 both.1,
      λ holds.
          let at = somewhere o holds in
          subst (λ (os : List Obj). Contains os o) (sym is)
          ((Contains-filter passes (values r) o).1 (
            (registered o).1 at,
            (means at.0 o at.1).1
                holds,
          )),
    );
    once = subst HasNoRepeats (sym is) (AllPairs-filter (λ a b. a ≢ b) passes (values r)
        (apart (entries r) (entries_sorted r) keyed));
  }

  pub lists_aut_nums : (found : List (Bor Obj)) → lent found ≡ filter (is_of_class class.AutNum)
      (values r) → ListsOnce (IsAutNum r) found
  lists_aut_nums found is = lists_those (is_of_class class.AutNum) (IsAutNum r) found is
      (λ k o at. (
        λ passes. let n = number_of_aut_num o.key passes in
            (n.0, subst (λ (l : Key). get r l ≡ Some o) (sym (sound.keyed k o at) ∙ n.1) at),
        λ (n, here). ap (λ (l : Key). class_number (class_of l) == 3)
            (sound.keyed (AutNum n) o here),
      ))
      (λ o (n, here). (AutNum n, here))

  pub lists_routes : (found : List (Bor Obj)) → lent found ≡ filter (is_of_class class.Route)
      (values r) → ListsOnce (IsRegisteredRoute r) found
  lists_routes found is = lists_those (is_of_class class.Route) (IsRegisteredRoute r) found is
      (λ k o at. (
        λ passes. let p = parts_of_route o.key passes in
            (p.0, p.1, subst (λ (l : Key). get r l ≡ Some o) (sym (sound.keyed k o at) ∙ p.2) at),
        λ (prefix, origin, here). ap (λ (l : Key). class_number (class_of l) == 5)
            (sound.keyed (Route prefix origin) o here),
      ))
      (λ o (prefix, origin, here). (Route prefix origin, here))
