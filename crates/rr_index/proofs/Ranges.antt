-- The objects of a sound registry from one key to another.
use Rattle.std.proofs.Common.{◌≡◌, ◌≤◌, ℕ, Bool, true, false, cond, not, ◌&&◌, ◌||◌, inl, inr, List}
use Rattle.std.proofs.Common.{[], ◌∷◌, Bor, map, arith, refl, sym, ap, ◌∙◌}
use Rattle.std.specs.Prelude.{Option, None, Some, is_some, ◌==◌}
use Rattle.std.proofs.lemmas.Bool.Decides.{nat_tests}
use Rattle.std.specs.declared.cmp.Ordering.{Ordering}
use Rattle.std.specs.declared.cmp.Ordering.TheVariants.{Less, Equal, Greater}
use Rattle.std.specs.FinMap.{entries, values}
use Rattle.std.specs.List.{cons_option, filter, filter_map, list_any}
use Rattle.std.specs.Map.{values_of}
use Rattle.std.specs.Map.Iter.{TakesFirst, deref_pair}
use Rattle.std.specs.Ordering.{is_eq, is_gt, is_le, is_lt, nat_cmp, ordering_then}
use Rattle.rr_number.specs.AsNumbers.{greatest_as_number}
use Rattle.rr_number.specs.Prefixes.{PrefixParts, masked}
use Rattle.rr_object.specs.Classes.{class_number}
use Rattle.rr_object.specs.Keys.{class_of}
use Rattle.rr_object.specs.declared.class.Class.TheVariants as class
use Rattle.rr_object.specs.declared.key.Key.{Key}
use Rattle.rr_object.specs.declared.key.Key.TheVariants.{AsBlock, AsSet, AutNum, Inetnum, Mntner}
use Rattle.rr_object.specs.declared.key.Key.TheVariants.{Route, RouteSet}
use Rattle.rr_object.specs.KeyOrders.{IsKeyValue, IsRoute, key_cmp}
use Rattle.rr_object.specs.Objects.{Obj}
use Rattle.rr_auth.specs.Elements.{IsIn}
use Rattle.rr_auth.proofs.Members.{stands_at}
use Rattle.rr_auth.specs.Closest.{origin_at, origins_among}
use Rattle.rr_auth.specs.Registries.{Reg, Sound}
use Rattle.rr_book.specs.Books.{entry}
use Rattle.rr_book.specs.SetLists.{is_of_class}
use Rattle.rr_index.proofs.Listed.{whole}
use Rattle.rr_index.specs.KeyRangeParts.{lies_between}

-- a part of a key that is not above another's lets the later parts decide
pub least : (a : ℕ) (r : Ordering) → is_le r ≡ true → is_le (ordering_then (nat_cmp 0 a) r) ≡ true
least a r e =
    elim (nat_cmp 0 a) as (λ c. nat_cmp 0 a ≡ c → is_le (ordering_then c r) ≡ true) [
      | Less ↦ λ f. refl
      | Equal ↦ λ f. e
      | Greater ↦ λ f. absurd (grind (arith, nat_tests))
    ] refl

pub greatest : (a b : ℕ) (r : Ordering) → a ≤ b → is_lt r ≡ false →
    is_lt (ordering_then (nat_cmp b a) r) ≡ false
greatest a b r below e =
    elim (nat_cmp b a) as (λ c. nat_cmp b a ≡ c → is_lt (ordering_then c r) ≡ false) [
      | Less ↦ λ f. absurd (grind (arith, nat_tests))
      | Equal ↦ λ f. e
      | Greater ↦ λ f. refl
    ] refl

pub both_so : (a b : Bool) → a ≡ true → b ≡ false → (a && not b) ≡ true
both_so a b e f = λ i. (ap (λ x. x && not b) e ∙ ap not f) i

pub tied : (a b : ℕ) → is_eq (nat_cmp a b) ≡ (b == a)
tied a b = grind (arith, nat_tests)

-- where both ends have a part, the keys between them have it too, and the later parts decide
pub within : (c x y : Ordering) → (is_le (ordering_then c x) && not (is_lt (ordering_then c y)))
    ≡ (is_eq c && (is_le x && not (is_lt y)))
within Less x y = refl
within Equal x y = refl
within Greater x y = refl

-- the keys from the least to the greatest number are those of aut-nums
pub aut_nums_between : (k : Key) → IsKeyValue k → lies_between (AutNum 0)
    (AutNum greatest_as_number) k ≡ (class_number (class_of k) == class_number class.AutNum)
aut_nums_between (Mntner n) is = refl
aut_nums_between (AsBlock s) is = refl
aut_nums_between (AutNum n) is = both_so _ _ (least n Equal refl)
    (greatest n greatest_as_number Equal is refl)
aut_nums_between (Inetnum s) is = refl
aut_nums_between (Route p n) is = refl
aut_nums_between (AsSet n) is = refl
aut_nums_between (RouteSet n) is = refl

below_power : (a : ℕ) (p : PrefixParts) (n : ℕ) → IsRoute p n → p.address ≤ 4294967295
below_power a p n is = let fits = is.masked.fits in omega (arith, fits)

-- the keys from the least of the least prefix to the greatest of the greatest are those of routes
pub routes_between : (k : Key) → IsKeyValue k → lies_between (Route (masked 0 0) 0)
    (Route (masked 4294967295 32) greatest_as_number) k
    ≡ (class_number (class_of k) == class_number class.Route)
routes_between (Mntner n) is = refl
routes_between (AsBlock s) is = refl
routes_between (AutNum n) is = refl
routes_between (Inetnum s) is = refl
routes_between (Route p n) is = both_so _ _
    (least p.address _ (least p.length _ (least n Equal refl)))
    (greatest p.address 4294967295 _ (below_power 0 p n is) (greatest p.length 32 _ is.masked.short
    (greatest n greatest_as_number Equal is.numbered refl)))
routes_between (AsSet n) is = refl
routes_between (RouteSet n) is = refl

chosen : (a b : Bool) (n : ℕ) → (a && (b && true)) ≡ is_some (cond (a && b) (Some n) None)
chosen true true n = refl
chosen true false n = refl
chosen false b n = refl

-- the keys from the least to the greatest of a prefix are those of its routes
pub origins_between : (p : PrefixParts) (k : Key) → IsKeyValue k → lies_between (Route p 0)
    (Route p greatest_as_number) k ≡ is_some (origin_at p k)
origins_between p (Mntner n) is = refl
origins_between p (AsBlock s) is = refl
origins_between p (AutNum n) is = refl
origins_between p (Inetnum s) is = refl
origins_between p (Route q n) is =
    let low = ordering_then (nat_cmp p.length q.length) (ordering_then (nat_cmp 0 n) Equal) in
    let high = ordering_then (nat_cmp p.length q.length)
    (ordering_then (nat_cmp greatest_as_number n) Equal) in
    within (nat_cmp p.address q.address) low high
    ∙ ap (λ b. is_eq (nat_cmp p.address q.address) && b)
    (within (nat_cmp p.length q.length) (ordering_then (nat_cmp 0 n) Equal)
    (ordering_then (nat_cmp greatest_as_number n) Equal))
    ∙ (λ i. tied p.address q.address i && (tied p.length q.length i && both_so _ _
    (least n Equal refl) (greatest n greatest_as_number Equal is.numbered refl) i))
    ∙ chosen (q.address == p.address) (q.length == p.length) n
origins_between p (AsSet n) is = refl
origins_between p (RouteSet n) is = refl

-- no key is above the greatest of its kind
pub aut_nums_forward : is_gt (key_cmp (AutNum 0) (AutNum greatest_as_number)) ≡ false
aut_nums_forward = refl

pub routes_forward :
    is_gt (key_cmp (Route (masked 0 0) 0) (Route (masked 4294967295 32) greatest_as_number)) ≡ false
routes_forward = refl

self_then : (a : ℕ) (r : Ordering) → is_gt r ≡ false → is_gt (ordering_then (nat_cmp a a) r) ≡ false
self_then a r e =
    elim (nat_cmp a a) as (λ c. nat_cmp a a ≡ c → is_gt (ordering_then c r) ≡ false) [
      | Less ↦ λ f. refl
      | Equal ↦ λ f. e
      | Greater ↦ λ f. absurd (grind (arith, nat_tests))
    ] refl

pub origins_forward : (p : PrefixParts) → is_gt (key_cmp (Route p 0) (Route p greatest_as_number))
    ≡ false
origins_forward p = self_then p.address _ (self_then p.length _ refl)

-- what is picked by key from the entries of objects
picked : (q : Key → Bool) (os : List Obj) → values_of (filter (λ e. q e.0) (map entry os))
    ≡ filter (λ o. q o.key) os
picked q [] = refl
picked q (o ∷ os) =
    elim (q o.key) as
    (λ b. values_of (cond b (entry o ∷ filter (λ e. q e.0) (map entry os))
    (filter (λ e. q e.0) (map entry os))) ≡ cond b (o ∷ filter (λ x. q x.key) os)
    (filter (λ x. q x.key) os)) [
      | true ↦ ap (λ xs. o ∷ xs) (picked q os)
      | false ↦ picked q os
    ]

-- tests that agree on each object pick the same
pub same_picked : (p q : Obj → Bool) (os : List Obj) → ((o : Obj) → IsIn o os → p o ≡ q o) →
    filter p os ≡ filter q os
same_picked p q [] same = refl
same_picked p q (o ∷ os) same = λ i. cond (same o (inl refl) i)
    (o ∷ same_picked p q os (λ x at. same x (inr at)) i)
    (same_picked p q os (λ x at. same x (inr at)) i)

pub given_kept : {X : Type 0} (f : Obj → Option X) (os : List Obj) →
    filter_map f (filter (λ o. is_some (f o)) os) ≡ filter_map f os
given_kept f [] = refl
given_kept f (o ∷ os) =
    elim (f o) as
    (λ v. f o ≡ v → filter_map f (cond (is_some v) (o ∷ filter (λ x. is_some (f x)) os)
    (filter (λ x. is_some (f x)) os)) ≡ cons_option v (filter_map f os)) [
      | None ↦ λ e. given_kept f os
      | Some x ↦ λ e. ap (λ v. cons_option v (filter_map f (filter (λ y. is_some (f y)) os))) e
          ∙ ap (λ xs. x ∷ xs) (given_kept f os)
    ] refl

any_kept : (p : Obj → Bool) (os : List Obj) → list_any p (filter p os) ≡ list_any p os
any_kept p [] = refl
any_kept p (o ∷ os) =
    elim (p o) as (λ b. p o ≡ b → list_any p (cond b (o ∷ filter p os) (filter p os))
    ≡ (b || list_any p os)) [
      | true ↦ λ e. ap (λ b. b || list_any p (filter p os)) e
      | false ↦ λ e. any_kept p os
    ] refl

first_kept : (p : Obj → Bool) (os : List Obj) (x : Obj) (xs : List Obj) → filter p os ≡ x ∷ xs →
    true ≡ list_any p os
first_kept p [] x xs is = cc
first_kept p (o ∷ os) x xs is =
    elim (p o) as (λ b. cond b (o ∷ filter p os) (filter p os) ≡ x ∷ xs →
    true ≡ (b || list_any p os)) [
      | true ↦ λ e. refl
      | false ↦ λ e. first_kept p os x xs e
    ] is

module _ (r : Reg) (sound : Sound r) where
  -- the objects whose keys pass a test
  pub values_between : (q : Key → Bool) → values_of (filter (λ e. q e.0) (entries r))
      ≡ filter (λ o. q o.key) (values r)
  values_between q = ap (λ es. values_of (filter (λ e. q e.0) es)) (sym (whole r sound)) ∙ picked q
      (values r)

  formed : (o : Obj) → IsIn o (values r) → IsKeyValue o.key
  formed o at = sound.formed o.key o (stands_at r o sound at)

  between_are : (first last : Key) (p : Obj → Bool) →
      ((o : Obj) → IsKeyValue o.key → lies_between first last o.key ≡ p o)
      → values_of (filter (λ e. lies_between first last e.0) (entries r)) ≡ filter p (values r)
  between_are first last p same =
      values_between (lies_between first last) ∙ same_picked (λ o. lies_between first last o.key) p
      (values r) (λ o at. same o (formed o at))

  pub listed_aut_nums : values_of
      (filter (λ e. lies_between (AutNum 0) (AutNum greatest_as_number) e.0) (entries r))
      ≡ filter (is_of_class class.AutNum) (values r)
  listed_aut_nums = between_are (AutNum 0) (AutNum greatest_as_number) (is_of_class class.AutNum)
      (λ o is. aut_nums_between o.key is)

  pub listed_routes : values_of
      (filter (λ e. lies_between (Route (masked 0 0) 0)
      (Route (masked 4294967295 32) greatest_as_number) e.0) (entries r))
      ≡ filter (is_of_class class.Route) (values r)
  listed_routes = between_are (Route (masked 0 0) 0)
      (Route (masked 4294967295 32) greatest_as_number) (is_of_class class.Route)
      (λ o is. routes_between o.key is)

  pub listed_at : (p : PrefixParts) →
      values_of (filter (λ e. lies_between (Route p 0) (Route p greatest_as_number) e.0)
      (entries r)) ≡ filter (λ o. is_some (origin_at p o.key)) (values r)
  listed_at p = between_are (Route p 0) (Route p greatest_as_number)
      (λ o. is_some (origin_at p o.key)) (λ o is. origins_between p o.key is)

  -- the origins are those of the routes of the prefix
  pub origins_at : (p : PrefixParts) →
      origins_among
      (values_of (filter (λ e. lies_between (Route p 0) (Route p greatest_as_number) e.0)
      (entries r))) p ≡ origins_among (values r) p
  origins_at p = ap (λ os. origins_among os p) (listed_at p) ∙ given_kept (λ o. origin_at p o.key)
      (values r)

  -- a first route of the prefix is one of the registry
  pub route_there : (p : PrefixParts) (e : Key × Obj) (es : List (Key × Obj)) →
      filter (λ e. lies_between (Route p 0) (Route p greatest_as_number) e.0) (entries r) ≡ e ∷ es
      → true ≡ list_any (λ o. is_some (origin_at p o.key)) (values r)
  route_there p e es is = first_kept (λ o. is_some (origin_at p o.key)) (values r) e.1
      (values_of es) (sym (listed_at p) ∙ ap values_of is)

  pub no_route_there : (p : PrefixParts) →
      filter (λ e. lies_between (Route p 0) (Route p greatest_as_number) e.0) (entries r) ≡ [] →
      false ≡ list_any (λ o. is_some (origin_at p o.key)) (values r)
  no_route_there p is = ap (list_any (λ o. is_some (origin_at p o.key)))
      (sym (sym (listed_at p) ∙ ap values_of is)) ∙ any_kept (λ o. is_some (origin_at p o.key))
      (values r)

  pub origins_between_keys : (p : PrefixParts) (first last : Key) → first ≡ Route p 0 →
      last ≡ Route p greatest_as_number
      → origins_among (values_of (filter (λ e. lies_between first last e.0) (entries r))) p
      ≡ origins_among (values r) p
  origins_between_keys p first last low high =
      (λ i. origins_among (values_of (filter (λ e. lies_between (low i) (high i) e.0) (entries r)))
      p) ∙ origins_at p

  -- whether a part of the registry has a first entry tells whether the prefix has a route
  pub route_told : (p : PrefixParts) (first last : Key) (s t : List (Key × Obj))
      (v : Option (Bor Key × Bor Obj)) → first ≡ Route p 0 → last ≡ Route p greatest_as_number
      → s ≡ filter (λ e. lies_between first last e.0) (entries r) → TakesFirst deref_pair s v t →
      is_some v ≡ list_any (λ o. is_some (origin_at p o.key)) (values r)
  route_told p first last s t None low high is took =
      no_route_there p
      (sym (is ∙ (λ i. filter (λ (e : Key × Obj). lies_between (low i) (high i) e.0)
      (entries r))) ∙ took.0)
  route_told p first last s t (Some x) low high is took =
      route_there p (deref_pair x) t
      (sym (is ∙ (λ i. filter (λ (e : Key × Obj). lies_between (low i) (high i) e.0)
      (entries r))) ∙ took)
