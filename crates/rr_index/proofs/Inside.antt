-- The objects inside a span, by the keys between which they stand.
use Rattle.std.proofs.Common.{◌≡◌, ◌≤◌, ◌<◌, ◌-◌, ◌%◌, ℕ, Bool, true, false, cond, ◌&&◌, T, List}
use Rattle.std.proofs.Common.{[], ◌∷◌, ◌++◌, Bor, map, arith, refl, sym, ap, subst, ◌∙◌}
use Rattle.std.specs.Prelude.{◌==◌}
use Rattle.std.specs.Option.{option_map_or}
use Rattle.std.specs.List.{filter}
use Rattle.std.specs.Map.{values_of}
use Rattle.std.specs.declared.cmp.Ordering.{Ordering}
use Rattle.std.specs.declared.cmp.Ordering.TheVariants.{Less, Equal, Greater}
use Rattle.std.specs.FinMap.{entries, entries_sorted, is_sorted, values}
use Rattle.std.specs.FinMap.Entries.{below_all}
use Rattle.std.specs.Ordering.{is_gt, is_le, is_lt, nat_cmp, ordering_then}
use Rattle.std.proofs.Math.Nat.{mod-one}
use Rattle.std.proofs.lemmas.List.{map-append}
use Rattle.std.proofs.lemmas.Bool.Decides.{nat_tests}
use Rattle.rr_number.specs.AsNumbers.{greatest_as_number}
use Rattle.rr_number.specs.Prefixes.{PrefixParts, span_of}
use Rattle.rr_number.specs.Spans.{Ends, IsSpan, covers}
use Rattle.rr_number.proofs.PrefixSpans.{IsSpan-prefix}
use Rattle.rr_object.specs.declared.key.Key.{Key}
use Rattle.rr_object.specs.declared.key.Key.TheVariants.{AsBlock, AsSet, AutNum, Inetnum, Mntner}
use Rattle.rr_object.specs.declared.key.Key.TheVariants.{Route, RouteSet}
use Rattle.rr_object.specs.KeyOrders.{IsKeyValue, IsRoute, key_cmp}
use Rattle.rr_object.specs.Objects.{Obj}
use Rattle.rr_auth.proofs.Members.{stands_at}
use Rattle.rr_auth.specs.Elements.{IsIn}
use Rattle.rr_auth.specs.Registries.{Reg, Sound}
use Rattle.rr_book.specs.Books.{entry}
use Rattle.rr_book.specs.Listings.{addresses, inside, lies_in}
use Rattle.rr_sets.specs.Lists.{lent}
use Rattle.rr_index.proofs.Listed.{whole}
use Rattle.rr_index.proofs.Ranges.{both_so, greatest, least, same_picked, values_between}
use Rattle.rr_index.specs.InsideParts.{inetnum_at, is_inetnum_in, is_route_in, routes_from}
use Rattle.rr_index.specs.InsideParts.{routes_start, routes_to}
use Rattle.rr_index.specs.KeyRangeParts.{lies_between}

-- a part of a key that is not above another's lets the later parts decide
not_above : (a b : ℕ) (r : Ordering) → a ≤ b → is_le r ≡ true →
    is_le (ordering_then (nat_cmp a b) r) ≡ true
not_above a b r le e =
    elim (nat_cmp a b) as (λ c. nat_cmp a b ≡ c → is_le (ordering_then c r) ≡ true) [
      | Less ↦ λ f. refl
      | Equal ↦ λ f. e
      | Greater ↦ λ f. absurd (grind (arith, nat_tests))
    ] refl

not_over : (a b : ℕ) (r : Ordering) → a ≤ b → is_gt r ≡ false →
    is_gt (ordering_then (nat_cmp a b) r) ≡ false
not_over a b r le e =
    elim (nat_cmp a b) as (λ c. nat_cmp a b ≡ c → is_gt (ordering_then c r) ≡ false) [
      | Less ↦ λ f. refl
      | Equal ↦ λ f. e
      | Greater ↦ λ f. absurd (grind (arith, nat_tests))
    ] refl

-- a part that is below another's decides
below : (a b : ℕ) (r : Ordering) → a < b → is_le (ordering_then (nat_cmp a b) r) ≡ true
below a b r less =
    elim (nat_cmp a b) as (λ c. nat_cmp a b ≡ c → is_le (ordering_then c r) ≡ true) [
      | Less ↦ λ f. refl
      | Equal ↦ λ f. absurd (grind (arith, nat_tests))
      | Greater ↦ λ f. absurd (grind (arith, nat_tests))
    ] refl

below_over : (a b : ℕ) (r : Ordering) → a < b → is_gt (ordering_then (nat_cmp a b) r) ≡ false
below_over a b r less =
    elim (nat_cmp a b) as (λ c. nat_cmp a b ≡ c → is_gt (ordering_then c r) ≡ false) [
      | Less ↦ λ f. refl
      | Equal ↦ λ f. absurd (grind (arith, nat_tests))
      | Greater ↦ λ f. absurd (grind (arith, nat_tests))
    ] refl

-- an address is its own prefix of 32 bits
alone : (a : ℕ) → a - a % 1 ≡ a
alone a = omega (arith, mod-one a)

-- the keys of inetnums and of routes between which one looks are in order
pub inetnums_forward : (a b : ℕ) → a ≤ b → is_gt (key_cmp (inetnum_at a) (inetnum_at b)) ≡ false
inetnums_forward a b le = not_over a b _ le (not_over a b Equal le refl)

start_forward : (first : Bool) (a b : ℕ) → (a == 0) ≡ first → a ≤ b →
    is_gt (key_cmp (routes_start first a) (routes_to b)) ≡ false
start_forward true a b at le =
    let numbers = ordering_then (nat_cmp 0 greatest_as_number) Equal in
    not_over 0 (b - b % 1) (ordering_then (nat_cmp 0 32) numbers) (omega arith)
    (not_over 0 32 numbers (omega arith) (not_over 0 greatest_as_number Equal (omega arith)
    refl))
start_forward false a b at le =
    let some : 0 < a = grind (arith, nat_tests) in
    below_over (a - 1 - (a - 1) % 1) (b - b % 1) _
    (rw (alone (a - 1), alone b) (omega (arith, some, le)))

pub routes_forward : (a b : ℕ) → a ≤ b → is_gt (key_cmp (routes_from a) (routes_to b)) ≡ false
routes_forward a b le = start_forward (a == 0) a b refl le

ordered : (s t : Ends) → covers s t ≡ true → (s.first ≤ t.first) × (t.last ≤ s.last)
ordered s t e = (grind (arith, nat_tests), grind (arith, nat_tests))

-- an inetnum inside a span stands between the first two
inetnum_between : (s t : Ends) → IsSpan t → covers s t ≡ true → lies_between (inetnum_at s.first)
    (inetnum_at s.last) (Inetnum t) ≡ true
inetnum_between s t span e =
    let ends = ordered s t e in
    let order = span.ordered in
    both_so _ _
    (not_above s.first t.first _ ends.0
    (not_above s.first t.last Equal (omega (arith, ends.0, order)) refl))
    (greatest t.first s.last _ (omega (arith, ends.1, order))
    (greatest t.last s.last Equal ends.1 refl))

from_address : (first : Bool) (a : ℕ) (p : PrefixParts) (n : ℕ) → (a == 0) ≡ first →
    a ≤ p.address → is_le (key_cmp (routes_start first a) (Route p n)) ≡ true
from_address true a p n at le = least p.address _ (least p.length _ (least n Equal refl))
from_address false a p n at le =
    let some : 0 < a = grind (arith, nat_tests) in
    below (a - 1 - (a - 1) % 1) p.address _ (rw (alone (a - 1)) (omega (arith, some, le)))

to_address : (b : ℕ) (p : PrefixParts) (n : ℕ) → IsRoute p n → p.address ≤ b →
    is_lt (key_cmp (routes_to b) (Route p n)) ≡ false
to_address b p n is le = greatest p.address (b - b % 1) _ (rw (alone b) le)
    (greatest p.length 32 _ is.masked.short (greatest n greatest_as_number Equal is.numbered refl))

-- and a route inside it between the other two
route_between : (first : Bool) (s : Ends) (p : PrefixParts) (n : ℕ) → (s.first == 0) ≡ first →
    IsRoute p n → covers s (span_of p) ≡ true → lies_between (routes_start first s.first)
    (routes_to s.last) (Route p n) ≡ true
route_between first s p n at is e =
    let ends = ordered s (span_of p) e in
    let order = (IsSpan-prefix p is.masked).ordered in
    both_so _ _ (from_address first s.first p n at ends.0)
    (to_address s.last p n is (omega (arith, ends.1, order)))

absorbed : (a b : Bool) → (b ≡ true → a ≡ true) → (a && b) ≡ b
absorbed true b h = refl
absorbed false true h = h refl
absorbed false false h = refl

lies : Ends → Key → Bool
lies s k = option_map_or (λ t. covers s t) (addresses k) false

none_of : (b : Bool) → (b && false) ≡ false
none_of true = refl
none_of false = refl

-- between the keys of inetnums only inetnums are inside, and between those of routes only routes
inetnums_kept : (s : Ends) (k : Key) → IsKeyValue k →
    (lies_between (inetnum_at s.first) (inetnum_at s.last) k && lies s k) ≡ is_inetnum_in s k
unfolding lies
inetnums_kept s (Mntner n) is = refl
inetnums_kept s (AsBlock t) is = refl
inetnums_kept s (AutNum n) is = refl
inetnums_kept s (Inetnum t) is = absorbed _ _ (inetnum_between s t is)
inetnums_kept s (Route p n) is = refl
inetnums_kept s (AsSet n) is = refl
inetnums_kept s (RouteSet n) is = refl

routes_kept : (first : Bool) (s : Ends) (k : Key) → (s.first == 0) ≡ first → IsKeyValue k →
    (lies_between (routes_start first s.first) (routes_to s.last) k && lies s k) ≡ is_route_in s k
unfolding lies
routes_kept true s (Mntner n) at is = refl
routes_kept true s (AsBlock t) at is = refl
routes_kept true s (AutNum n) at is = refl
routes_kept true s (Inetnum t) at is = refl
routes_kept true s (Route p n) at is = absorbed _ _ (route_between true s p n at is)
routes_kept true s (AsSet n) at is = refl
routes_kept true s (RouteSet n) at is = refl
routes_kept false s (Mntner n) at is = refl
routes_kept false s (AsBlock t) at is = refl
routes_kept false s (AutNum n) at is = refl
routes_kept false s (Inetnum t) at is = refl
routes_kept false s (Route p n) at is = absorbed _ _ (route_between false s p n at is)
routes_kept false s (AsSet n) at is = refl
routes_kept false s (RouteSet n) at is = refl

twice : (p q : Obj → Bool) (os : List Obj) → filter p (filter q os) ≡ filter (λ o. q o && p o) os
twice p q [] = refl
twice p q (o ∷ os) =
    elim (q o) as (λ b. filter p (cond b (o ∷ filter q os) (filter q os)) ≡ cond (b && p o)
    (o ∷ filter (λ x. q x && p x) os) (filter (λ x. q x && p x) os)) [
      | true ↦ ap (λ xs. cond (p o) (o ∷ xs) xs) (twice p q os)
      | false ↦ twice p q os
    ]

abbrev IsOfRoute : Key → Type 0
IsOfRoute (Route p n) = Unit {0}
IsOfRoute _ = ⊥

first_so : (a b : Bool) → T (a && b) → T a
first_so true b h = tt
first_so false b h = absurd h

second_so : (a b : Bool) → T (a && b) → T b
second_so true b h = h
second_so false b h = absurd h

-- after a route there is no inetnum
no_inetnum : (s : Ends) (k l : Key) → IsOfRoute k → T (is_lt (key_cmp k l)) → is_inetnum_in s l
    ≡ false
no_inetnum s (Route p n) (Mntner m) is h = refl
no_inetnum s (Route p n) (AsBlock t) is h = refl
no_inetnum s (Route p n) (AutNum m) is h = refl
no_inetnum s (Route p n) (Inetnum t) is h = absurd h
no_inetnum s (Route p n) (Route q m) is h = refl
no_inetnum s (Route p n) (AsSet m) is h = refl
no_inetnum s (Route p n) (RouteSet m) is h = refl
no_inetnum s (Mntner m) l is h = absurd is
no_inetnum s (AsBlock t) l is h = absurd is
no_inetnum s (AutNum m) l is h = absurd is
no_inetnum s (Inetnum t) l is h = absurd is
no_inetnum s (AsSet m) l is h = absurd is
no_inetnum s (RouteSet m) l is h = absurd is

none_after : (s : Ends) (k : Key) → IsOfRoute k → (os : List Obj) →
    T (below_all key_cmp k (map entry os)) → filter (λ o. is_inetnum_in s o.key) os ≡ []
none_after s k is [] h = refl
none_after s k is (o ∷ os) h =
    let rest = none_after s k is os
    (second_so (is_lt (key_cmp k o.key)) (below_all key_cmp k (map entry os)) h) in
    ap (λ b. cond b (o ∷ filter (λ x. is_inetnum_in s x.key) os)
    (filter (λ x. is_inetnum_in s x.key) os))
    (no_inetnum s k o.key is
    (first_so (is_lt (key_cmp k o.key)) (below_all key_cmp k (map entry os)) h))
    ∙ rest

-- one more object
one_more : (s : Ends) (o : Obj) (k : Key) (inetnums routes all : List Obj) → inetnums ++ routes
    ≡ all → (IsOfRoute k → inetnums ≡ [])
    → cond (is_inetnum_in s k) (o ∷ inetnums) inetnums ++ cond (is_route_in s k) (o ∷ routes)
    routes ≡ cond (lies s k) (o ∷ all) all
unfolding lies
one_more s o (Mntner n) inetnums routes all rest none = rest
one_more s o (AsBlock t) inetnums routes all rest none = rest
one_more s o (AutNum n) inetnums routes all rest none = rest
one_more s o (Inetnum t) inetnums routes all rest none =
    elim (covers s t) as (λ b. cond b (o ∷ inetnums) inetnums ++ routes ≡ cond b (o ∷ all) all) [
      | true ↦ ap (λ xs. o ∷ xs) rest
      | false ↦ rest
    ]
one_more s o (Route p n) inetnums routes all rest none =
    let empty = none tt in
    let same : routes ≡ all = ap (λ xs. xs ++ routes) (sym empty) ∙ rest in
    ap (λ xs. xs ++ cond (covers s (span_of p)) (o ∷ routes) routes) empty
    ∙ ap (λ xs. cond (covers s (span_of p)) (o ∷ xs) xs) same
one_more s o (AsSet n) inetnums routes all rest none = rest
one_more s o (RouteSet n) inetnums routes all rest none = rest

-- the inetnums come before the routes
in_turn : (s : Ends) (os : List Obj) → T (is_sorted key_cmp (map entry os)) →
    filter (λ o. is_inetnum_in s o.key) os ++ filter (λ o. is_route_in s o.key) os
    ≡ filter (lies_in s) os
unfolding lies
in_turn s [] h = refl
in_turn s (o ∷ os) h =
    one_more s o o.key (filter (λ x. is_inetnum_in s x.key) os)
    (filter (λ x. is_route_in s x.key) os) (filter (lies_in s) os)
    (in_turn s os (second_so (below_all key_cmp o.key (map entry os))
    (is_sorted key_cmp (map entry os)) h))
    (λ is. none_after s o.key is os (first_so (below_all key_cmp o.key (map entry os))
    (is_sorted key_cmp (map entry os)) h))

module _ (r : Reg) (sound : Sound r) where
  formed : (o : Obj) → IsIn o (values r) → IsKeyValue o.key
  formed o at = sound.formed o.key o (stands_at r o sound at)

  -- what lies in a span between two keys, where a test says which objects those are
  kept_are : (s : Ends) (first last : Key) (p : Key → Bool) →
      ((k : Key) → IsKeyValue k → (lies_between first last k && lies s k) ≡ p k)
      → filter (lies_in s) (values_of (filter (λ e. lies_between first last e.0) (entries r)))
      ≡ filter (λ o. p o.key) (values r)
  unfolding lies
  kept_are s first last p same =
      ap (filter (lies_in s)) (values_between r sound (lies_between first last))
      ∙ twice (lies_in s) (λ o. lies_between first last o.key) (values r)
      ∙ same_picked (λ o. lies_between first last o.key && lies_in s o) (λ o. p o.key) (values r)
      (λ o at. same o.key (formed o at))

  pub inetnums_are : (s : Ends) →
      filter (lies_in s)
      (values_of (filter (λ e. lies_between (inetnum_at s.first) (inetnum_at s.last) e.0)
      (entries r))) ≡ filter (λ o. is_inetnum_in s o.key) (values r)
  inetnums_are s = kept_are s (inetnum_at s.first) (inetnum_at s.last) (is_inetnum_in s)
      (inetnums_kept s)

  pub routes_are : (s : Ends) →
      filter (lies_in s)
      (values_of (filter (λ e. lies_between (routes_from s.first) (routes_to s.last) e.0)
      (entries r))) ≡ filter (λ o. is_route_in s o.key) (values r)
  routes_are s = kept_are s (routes_from s.first) (routes_to s.last) (is_route_in s)
      (λ k is. routes_kept (s.first == 0) s k refl is)

  -- both are all that is inside
  pub both_inside : (s : Ends) → filter (λ o. is_inetnum_in s o.key) (values r) ++ filter
      (λ o. is_route_in s o.key) (values r) ≡ inside r s
  both_inside s = in_turn s (values r) (subst (λ es. T (is_sorted key_cmp es))
      (sym (whole r sound)) (entries_sorted r))

  pub listed_both : (s : Ends) (found routes given all : List (Bor Obj)) → lent found
      ≡ filter (λ o. is_inetnum_in s o.key) (values r) → lent routes
      ≡ filter (λ o. is_route_in s o.key) (values r)
      → given ≡ routes → all ≡ found ++ given → lent all ≡ inside r s
  listed_both s found routes given all inetnums_in routes_in same joined =
      ap lent joined ∙ map-append (λ object. object.now) found given
      ∙ (λ i. inetnums_in i ++ (ap lent same ∙ routes_in) i) ∙ both_inside s
