-- The routes of a registry by origin, as objects come and go, and the objects to which those of an
-- origin lead.
-- Routes rise by origin first and keys by prefix first; within one origin both agree. Claims on
-- keys split by the seven classes, and lists go by induction. Ties and bounds are given by hand.
-- `OriginIndex`, `IndexedBook::change`, `routes_of` and `prefixes_of` need it.
use Rattle.std.proofs.Common.{◌≡◌, ◌≤◌, ℕ, Bool, true, false, cond, not, ◌&&◌, ◌||◌, List, [], ◌∷◌}
use Rattle.std.proofs.Common.{map, arith, refl, sym, ap, subst, ◌∙◌}
use Rattle.std.specs.Prelude.{Option, None, Some, is_some, ◌==◌}
use Rattle.std.specs.BTreeSet.{BTreeSet, Updates}
use Rattle.std.specs.Cmp.{Equal-is, IsTotalOrder, nat_cmp_total, on_total, then_total, tied_itself}
use Rattle.std.specs.FinMap.{contains_key, empty, get, get-empty, insert, nat_cmp-IsAntisymmetric}
use Rattle.std.specs.FinMap.{remove, values}
use Rattle.std.specs.List.{AllByRecursion, cons_option, filter, filter_map, list_any}
use Rattle.std.specs.List.Sorted.{IsStrictlySortedBy}
use Rattle.std.specs.Option.{option_map_or}
use Rattle.std.specs.declared.cmp.Ordering.{Ordering}
use Rattle.std.specs.declared.cmp.Ordering.TheVariants.{Less, Equal, Greater}
use Rattle.std.specs.Ordering.{eq_by_cmp, is_eq, is_le, is_lt, nat_cmp, ordering_then}
use Rattle.std.proofs.lemmas.Bool.{and_parts, eq-eqb, eqb-true}
use Rattle.rr_number.proofs.NumberOrders.{prefixes_ordered, ties}
use Rattle.rr_number.specs.Prefixes.{IsMasked, PrefixParts, masked, prefix_cmp}
use Rattle.rr_object.proofs.Digits.{then_equal}
use Rattle.rr_object.proofs.KeyLaws.{same_key, tied_key}
use Rattle.rr_object.specs.declared.key.Key.{Key}
use Rattle.rr_object.specs.declared.key.Key.TheVariants.{AsBlock, AsSet, AutNum, Inetnum, Mntner}
use Rattle.rr_object.specs.declared.key.Key.TheVariants.{Route, RouteSet}
use Rattle.rr_object.specs.KeyOrders.{key_cmp}
use Rattle.rr_object.specs.Objects.{Obj}
use Rattle.rr_auth.proofs.Members.{both_or_none}
use Rattle.rr_auth.specs.Registries.{Reg, Sound}
use Rattle.rr_sets.specs.KeyParts.{origin_of, prefix_from}
use Rattle.rr_sets.specs.Lists.{is_originated}
use Rattle.rr_index.proofs.Choices.{any_mapped, eq_swap, led_to}
use Rattle.rr_index.proofs.Kept.{one_order}
use Rattle.rr_index.proofs.Ranges.{both_so, given_kept, greatest, least, tied, within}
use Rattle.rr_index.proofs.Spans.{keys_in, keys_out}
use Rattle.rr_index.specs.OriginIndexes.{HasOrigins, origin_cmp}
use Rattle.rr_index.specs.Private.{is_of_origin}

-- a route as origin and prefix
abbrev pub RouteParts : Type 0
RouteParts = ℕ × PrefixParts

-- its key
abbrev pub key_of : RouteParts → Key
key_of route = Route route.1 route.0

-- and back
parts_or : RouteParts → Key → RouteParts
parts_or route (Mntner n) = route
parts_or route (AsBlock s) = route
parts_or route (AutNum n) = route
parts_or route (Inetnum s) = route
parts_or route (Route p n) = (n, p)
parts_or route (AsSet n) = route
parts_or route (RouteSet n) = route

origins_total : IsTotalOrder origin_cmp
origins_total = then_total (on_total (λ (x : RouteParts). x.0) nat_cmp_total)
    (on_total (λ (x : RouteParts). x.1) prefixes_ordered.total)

same_route : (a b : RouteParts) → eq_by_cmp origin_cmp a b ≡ true → a ≡ b
same_route a b e =
    let both = ties (nat_cmp a.0 b.0) (prefix_cmp a.1 b.1) ((Equal-is (origin_cmp a b)).0 e) in
    let origin : a.0 ≡ b.0 = nat_cmp-IsAntisymmetric a.0 b.0 both.0 in
    let prefix : a.1 ≡ b.1 = prefixes_ordered.exact a.1 b.1 both.1 in
    λ i. (origin i, prefix i)

tied_route : (a : RouteParts) → eq_by_cmp origin_cmp a a ≡ true
tied_route a = (Equal-is (origin_cmp a a)).1 (tied_itself origins_total a)

-- keys of routes tie where the routes do
routes_tie : (a b : RouteParts) → eq_by_cmp key_cmp (key_of a) (key_of b) ≡ eq_by_cmp origin_cmp a b
unfolding parts_or
routes_tie a b = both_or_none (eq_by_cmp key_cmp (key_of a) (key_of b)) (eq_by_cmp origin_cmp a b)
    (λ e. let same : a ≡ b = ap (parts_or a) (same_key (key_of a) (key_of b) e) in
    ap (eq_by_cmp origin_cmp a) (sym same) ∙ tied_route a)
    (λ e. ap (λ x. eq_by_cmp key_cmp (key_of a) (key_of x)) (sym (same_route a b e)) ∙ tied_key
    (key_of a))

put_or : (a b : Bool) → cond a true b ≡ (a || b)
put_or true b = refl
put_or false b = refl

taken_or : (a b : Bool) → cond a false b ≡ (not a && b)
taken_or true b = refl
taken_or false b = refl

pub origins_none : (routes : BTreeSet RouteParts) → routes.keys ≡ [] → HasOrigins empty routes
origins_none routes none = λ n p. ap (list_any (eq_by_cmp origin_cmp (n, p))) none
    ∙ sym (ap is_some (get-empty key_cmp (Route p n)))

tie_at : (n m : ℕ) (p q : PrefixParts) → eq_by_cmp origin_cmp (n, p) (m, q) ≡ eq_by_cmp key_cmp
    (Route q m) (Route p n)
tie_at n m p q = sym (routes_tie (n, p) (m, q)) ∙ eq_swap (Route p n) (Route q m)

pub origin_in : (r : Reg) (n : ℕ) (p : PrefixParts) (o : Obj) (old new : BTreeSet RouteParts) →
    HasOrigins r old → Updates origin_cmp old new (n, p) true → HasOrigins (insert r (Route p n) o)
    new
origin_in r n p o old new has update = λ m q.
    update.0 (m, q)
    ∙ (λ i. cond (tie_at n m p q i) true (has m q i))
    ∙ put_or (eq_by_cmp key_cmp (Route q m) (Route p n)) (contains_key r (Route q m))
    ∙ sym (keys_in r (Route p n) o (Route q m))

pub origin_out : (r : Reg) (n : ℕ) (p : PrefixParts) (old new : BTreeSet RouteParts) →
    HasOrigins r old → Updates origin_cmp old new (n, p) false → HasOrigins (remove r (Route p n))
    new
origin_out r n p old new has update = λ m q.
    update.0 (m, q)
    ∙ (λ i. cond (tie_at n m p q i) false (has m q i))
    ∙ taken_or (eq_by_cmp key_cmp (Route q m) (Route p n)) (contains_key r (Route q m))
    ∙ sym (keys_out r (Route p n) (Route q m))

-- the routes stay where the keys do
pub origins_stay : (r s : Reg) → ((q : Key) → contains_key s q ≡ contains_key r q) →
    (routes : BTreeSet RouteParts) → HasOrigins r routes → HasOrigins s routes
origins_stay r s same routes has = λ n p. has n p ∙ sym (same (Route p n))

-- no objects but routes have origins
module _ (r : Reg) (routes : BTreeSet RouteParts) (has : HasOrigins r routes) where
  other_in : (k : Key) (o : Obj) → ((n : ℕ) (p : PrefixParts) → eq_by_cmp key_cmp (Route p n) k
      ≡ false) → HasOrigins (insert r k o) routes
  other_in k o apart = λ n p. has n p ∙ ap (λ b. b || contains_key r (Route p n)) (sym (apart n p))
      ∙ sym (keys_in r k o (Route p n))

  other_out : (k : Key) → ((n : ℕ) (p : PrefixParts) → eq_by_cmp key_cmp (Route p n) k ≡ false) →
      HasOrigins (remove r k) routes
  other_out k apart = λ n p. has n p ∙ ap (λ b. not b && contains_key r (Route p n))
      (sym (apart n p)) ∙ sym (keys_out r k (Route p n))

  pub rest_in : (k : Key) (o : Obj) → ((p : PrefixParts) (n : ℕ) → k ≡ Route p n → ⊥) →
      HasOrigins (insert r k o) routes
  rest_in (Mntner n) o a = other_in (Mntner n) o (λ m p. refl)
  rest_in (AsBlock s) o a = other_in (AsBlock s) o (λ m p. refl)
  rest_in (AutNum n) o a = other_in (AutNum n) o (λ m p. refl)
  rest_in (Inetnum s) o a = other_in (Inetnum s) o (λ m p. refl)
  rest_in (Route p n) o a = absurd (a p n refl)
  rest_in (AsSet n) o a = other_in (AsSet n) o (λ m p. refl)
  rest_in (RouteSet n) o a = other_in (RouteSet n) o (λ m p. refl)

  pub rest_out : (k : Key) → ((p : PrefixParts) (n : ℕ) → k ≡ Route p n → ⊥) →
      HasOrigins (remove r k) routes
  rest_out (Mntner n) a = other_out (Mntner n) (λ m p. refl)
  rest_out (AsBlock s) a = other_out (AsBlock s) (λ m p. refl)
  rest_out (AutNum n) a = other_out (AutNum n) (λ m p. refl)
  rest_out (Inetnum s) a = other_out (Inetnum s) (λ m p. refl)
  rest_out (Route p n) a = absurd (a p n refl)
  rest_out (AsSet n) a = other_out (AsSet n) (λ m p. refl)
  rest_out (RouteSet n) a = other_out (RouteSet n) (λ m p. refl)

-- the bounds of a prefix's parts
from_least : (q : PrefixParts) → is_le (prefix_cmp (masked 0 0) q) ≡ true
from_least q = least q.address (nat_cmp 0 q.length)
    (ap is_le (sym (then_equal (nat_cmp 0 q.length))) ∙ least q.length Equal refl)

to_greatest : (q : PrefixParts) → IsMasked q → is_lt (prefix_cmp (masked 4294967295 32) q) ≡ false
to_greatest q is =
    let fits = is.fits in
    let below : q.address ≤ 4294967295 = omega (arith, fits) in
    greatest q.address 4294967295 (nat_cmp 32 q.length) below
    (ap is_lt (sym (then_equal (nat_cmp 32 q.length))) ∙ greatest q.length 32 Equal is.short
    refl)

and_true : (b : Bool) → (b && true) ≡ b
and_true true = refl
and_true false = refl

-- a route lies between the least and the greatest of an origin where it is its origin
of_origin : (n : ℕ) (route : RouteParts) → is_of_origin n route ≡ true → route.0 ≡ n
of_origin n route e =
    let low = prefix_cmp (masked 0 0) route.1 in
    let high = prefix_cmp (masked 4294967295 32) route.1 in
    let parts = and_parts (is_eq (nat_cmp n route.0)) (is_le low && not (is_lt high))
    (sym (within (nat_cmp n route.0) low high) ∙ e) in
    eqb-true route.0 n (sym (tied n route.0) ∙ parts.0)

from_origin : (n m : ℕ) (q : PrefixParts) → IsMasked q → is_of_origin n (m, q) ≡ (m == n)
from_origin n m q is =
    within (nat_cmp n m) (prefix_cmp (masked 0 0) q) (prefix_cmp (masked 4294967295 32) q)
    ∙ (λ i. tied n m i && both_so _ _ (from_least q) (to_greatest q is) i)
    ∙ and_true (m == n)

-- the keys of an origin's routes rise as the routes do
less_then : (a b c : Ordering) → ordering_then a b ≡ Less → ordering_then a (ordering_then b c)
    ≡ Less
less_then Less b c e = refl
less_then Equal b c e = ap (λ o. ordering_then o c) e
less_then Greater b c e = cc

key_below : (x y : RouteParts) → x.0 ≡ y.0 → origin_cmp x y ≡ Less → key_cmp (key_of x) (key_of y)
    ≡ Less
key_below x y same less =
    let even : nat_cmp x.0 y.0 ≡ Equal = ap (nat_cmp x.0) (sym same) ∙ tied_itself nat_cmp_total
    x.0 in
    let prefix : prefix_cmp x.1 y.1 ≡ Less =
    sym (ap (λ o. ordering_then o (prefix_cmp x.1 y.1)) even) ∙ less in
    less_then (nat_cmp x.1.address y.1.address) (nat_cmp x.1.length y.1.length)
    (ordering_then (nat_cmp x.0 y.0) Equal) prefix

keys_below : (n : ℕ) (x : RouteParts) (xs : List RouteParts) → x.0 ≡ n →
    AllByRecursion (λ y. origin_cmp x y ≡ Less) xs
    → AllByRecursion (λ k. key_cmp (key_of x) k ≡ Less) (map key_of (filter (is_of_origin n) xs))
keys_below n x [] own h = tt
keys_below n x (y ∷ ys) own h =
    elim (is_of_origin n y) as (λ b. is_of_origin n y ≡ b →
    AllByRecursion (λ k. key_cmp (key_of x) k ≡ Less)
    (map key_of (cond b (y ∷ filter (is_of_origin n) ys) (filter (is_of_origin n) ys)))) [
      | true ↦ λ e. (key_below x y (own ∙ sym (of_origin n y e)) h.0, keys_below n x ys own h.1)
      | false ↦ λ e. keys_below n x ys own h.1
    ] refl

keys_rise : (n : ℕ) (xs : List RouteParts) → IsStrictlySortedBy origin_cmp xs →
    IsStrictlySortedBy key_cmp (map key_of (filter (is_of_origin n) xs))
unfolding IsStrictlySortedBy
keys_rise n [] h = tt
keys_rise n (x ∷ xs) h =
    elim (is_of_origin n x) as (λ b. is_of_origin n x ≡ b → IsStrictlySortedBy key_cmp
    (map key_of (cond b (x ∷ filter (is_of_origin n) xs) (filter (is_of_origin n) xs)))) [
      | true ↦ λ e. (keys_below n x xs (of_origin n x e) h.0, keys_rise n xs h.1)
      | false ↦ λ e. keys_rise n xs h.1
    ] refl

found_at_keys : {K : Type 0} (f : Key → Option Obj) (g : K → Key) (xs : List K) →
    filter_map f (map g xs) ≡ filter_map (λ x. f (g x)) xs
found_at_keys f g [] = refl
found_at_keys f g (x ∷ xs) = ap (cons_option (f (g x))) (found_at_keys f g xs)

and_none : (b : Bool) → (b && false) ≡ false
and_none true = refl
and_none false = refl

-- where all elements that pass one test agree on another
any_case : {X : Type 0} (t p : X → Bool) (v : Bool) (x : X) (xs : List X) (b c : Bool) → p x ≡ b →
    t x ≡ c → (t x ≡ true → p x ≡ v) → list_any t (filter p xs) ≡ (list_any t xs && v)
    → list_any t (cond b (x ∷ filter p xs) (filter p xs)) ≡ ((c || list_any t xs) && v)
any_case t p v x xs true true passes tests same rest = ap (λ a. a || list_any t (filter p xs))
    tests ∙ sym passes ∙ same tests
any_case t p v x xs true false passes tests same rest = ap (λ a. a || list_any t (filter p xs))
    tests ∙ rest
any_case t p v x xs false true passes tests same rest =
    let none : v ≡ false = sym (same tests) ∙ passes in
    rest ∙ ap (λ a. list_any t xs && a) none ∙ and_none (list_any t xs) ∙ sym none
any_case t p v x xs false false passes tests same rest = rest

any_kept : {X : Type 0} (t p : X → Bool) (v : Bool) (xs : List X) →
    ((x : X) → t x ≡ true → p x ≡ v) → list_any t (filter p xs) ≡ (list_any t xs && v)
any_kept t p v [] same = refl
any_kept t p v (x ∷ xs) same = any_case t p v x xs (p x) (t x) refl refl (same x)
    (any_kept t p v xs same)

no_route : (k : Key) → ((x : RouteParts) → eq_by_cmp key_cmp k (key_of x) ≡ false) →
    (xs : List RouteParts) → list_any (eq_by_cmp key_cmp k) (map key_of xs) ≡ false
no_route k apart [] = refl
no_route k apart (x ∷ xs) = ap (λ b. b || list_any (eq_by_cmp key_cmp k) (map key_of xs)) (apart x)
    ∙ no_route k apart xs

-- whether the key is that of a route from the origin
abbrev is_key_from : ℕ → Key → Bool
is_key_from n k = option_map_or (λ origin. origin == n) (origin_of k) false

-- it is where the key has a prefix of the origin's
prefix_there : (n : ℕ) (k : Key) → is_key_from n k ≡ is_some (prefix_from n k)
prefix_there n (Mntner m) = refl
prefix_there n (AsBlock s) = refl
prefix_there n (AutNum m) = refl
prefix_there n (Inetnum s) = refl
prefix_there n (Route p m) = elim (m == n) as (λ b. b ≡ is_some (cond b (Some p) None))
    [ true ↦ refl | false ↦ refl ]
prefix_there n (AsSet m) = refl
prefix_there n (RouteSet m) = refl

or_so : (b : Bool) → (b || true) ≡ true
or_so true = refl
or_so false = refl

object_there : (v : Option Obj) → is_some v ≡ true → (o : Obj) × (v ≡ Some o)
object_there None there = cc
object_there (Some o) there = (o, refl)

module _ (r : Reg) (sound : Sound r) (routes : BTreeSet RouteParts)
    (has : HasOrigins r routes) where
  chosen : (n : ℕ) (k : Key) (o : Obj) → get r k ≡ Some o → list_any (eq_by_cmp key_cmp k)
      (map key_of (filter (is_of_origin n) routes.keys)) ≡ is_key_from n k
  chosen n (Mntner m) o at = no_route (Mntner m) (λ x. refl) (filter (is_of_origin n) routes.keys)
  chosen n (AsBlock s) o at = no_route (AsBlock s) (λ x. refl) (filter (is_of_origin n) routes.keys)
  chosen n (AutNum m) o at = no_route (AutNum m) (λ x. refl) (filter (is_of_origin n) routes.keys)
  chosen n (Inetnum s) o at = no_route (Inetnum s) (λ x. refl) (filter (is_of_origin n) routes.keys)
  chosen n (Route q m) o at =
      any_mapped (eq_by_cmp key_cmp (Route q m)) key_of (filter (is_of_origin n) routes.keys)
      ∙ (λ i. list_any (λ x. routes_tie (m, q) x i) (filter (is_of_origin n) routes.keys))
      ∙ any_kept (eq_by_cmp origin_cmp (m, q)) (is_of_origin n) (m == n) routes.keys
      (λ x e. ap (is_of_origin n) (sym (same_route (m, q) x e)) ∙ from_origin n m q
      (sound.formed (Route q m) o at).masked)
      ∙ ap (λ b. b && (m == n)) (has m q ∙ ap is_some at)
  chosen n (AsSet m) o at = no_route (AsSet m) (λ x. refl) (filter (is_of_origin n) routes.keys)
  chosen n (RouteSet m) o at = no_route (RouteSet m) (λ x. refl)
      (filter (is_of_origin n) routes.keys)

  -- the routes of an origin lead to the objects that are routes from it
  pub listed_from : (n : ℕ) → IsStrictlySortedBy origin_cmp routes.keys
      → filter_map (λ route. get r (Route route.1 route.0)) (filter (is_of_origin n) routes.keys)
      ≡ filter (is_originated n) (values r)
  listed_from n rise =
      let keys : BTreeSet Key = record {
        keys = map key_of (filter (is_of_origin n) routes.keys);
      } in
      sym (found_at_keys (λ k. get r k) key_of (filter (is_of_origin n) routes.keys))
      ∙ led_to r sound (is_key_from n) keys
      (subst (λ (cmp : Key → Key → Ordering). IsStrictlySortedBy cmp
      (map key_of (filter (is_of_origin n) routes.keys))) (sym one_order)
      (keys_rise n routes.keys rise))
      (chosen n)

  -- a route that stands there leads to an object
  stands_there : (x : RouteParts) → list_any (eq_by_cmp origin_cmp x) routes.keys ≡ true →
      (o : Obj) × (get r (key_of x) ≡ Some o)
  stands_there x is = object_there (get r (key_of x)) (sym (has x.0 x.1) ∙ is)

  -- whose prefix is that of the route
  prefix_first : (n : ℕ) (x : RouteParts) (o : Obj) (os : List Obj) → x.0 ≡ n → get r (key_of x)
      ≡ Some o
      → filter_map (λ o. prefix_from n o.key) (cons_option (get r (key_of x)) os) ≡ x.1
      ∷ filter_map (λ o. prefix_from n o.key) os
  prefix_first n x o os own at =
      ap (λ v. filter_map (λ o. prefix_from n o.key) (cons_option v os)) at
      ∙ ap (λ v. cons_option v (filter_map (λ o. prefix_from n o.key) os))
      (ap (prefix_from n) (sound.keyed (key_of x) o at) ∙ ap (λ b. cond b (Some x.1) None)
      (eq-eqb x.0 n own))

  prefixes_led_to : (n : ℕ) (xs : List RouteParts) →
      ((x : RouteParts) → list_any (eq_by_cmp origin_cmp x) xs ≡ true → (o : Obj)
      × (get r (key_of x) ≡ Some o))
      → map (λ route. route.1) (filter (is_of_origin n) xs) ≡ filter_map (λ o. prefix_from n o.key)
      (filter_map (λ route. get r (Route route.1 route.0)) (filter (is_of_origin n) xs))
  prefixes_led_to n [] there = refl
  prefixes_led_to n (x ∷ xs) there =
      let rest = prefixes_led_to n xs
      (λ y is. there y (ap (λ b. eq_by_cmp origin_cmp y x || b) is
      ∙ or_so (eq_by_cmp origin_cmp y x))) in
      elim (is_of_origin n x) as (λ b. is_of_origin n x ≡ b → map (λ (route : RouteParts). route.1)
      (cond b (x ∷ filter (is_of_origin n) xs) (filter (is_of_origin n) xs))
      ≡ filter_map (λ (o : Obj). prefix_from n o.key)
      (filter_map (λ (route : RouteParts). get r (Route route.1 route.0))
      (cond b (x ∷ filter (is_of_origin n) xs) (filter (is_of_origin n) xs)))) [
        | true ↦ λ e.
            let found = there x (ap (λ b. b || list_any (eq_by_cmp origin_cmp x) xs)
            (tied_route x)) in
            ap (λ ps. x.1 ∷ ps) rest
            ∙ sym
            (prefix_first n x found.0 (filter_map (λ route. get r (Route route.1 route.0))
            (filter (is_of_origin n) xs)) (of_origin n x e) found.1)
        | false ↦ λ e. rest
      ] refl

  -- the prefixes of the routes of an origin are those of the objects that are routes from it
  pub prefixes_listed : (n : ℕ) → IsStrictlySortedBy origin_cmp routes.keys
      → map (λ route. route.1) (filter (is_of_origin n) routes.keys) ≡ filter_map
      (λ o. prefix_from n o.key) (values r)
  prefixes_listed n rise =
      prefixes_led_to n routes.keys stands_there
      ∙ ap (filter_map (λ o. prefix_from n o.key)) (listed_from n rise)
      ∙ (λ i. filter_map (λ o. prefix_from n o.key) (filter (λ o. prefix_there n o.key i)
      (values r)))
      ∙ given_kept (λ o. prefix_from n o.key) (values r)
