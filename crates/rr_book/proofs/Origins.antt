-- The origins of the routes of a prefix rise along objects in order.
use Rattle.std.proofs.Common.{◌≡◌, ℕ, true, false, cond, List, [], ◌∷◌, refl, sym, ap, subst, ◌∙◌}
use Rattle.std.specs.Prelude.{Some, None, Ok, Err, Result, IfOk, map}
use Rattle.std.specs.declared.cmp.Ordering.{Ordering}
use Rattle.std.specs.declared.cmp.Ordering.TheVariants.{Less, Equal, Greater}
use Rattle.std.specs.Ordering.{nat_cmp, is_lt, ordering_then}
use Rattle.std.specs.Cmp.{first_so, second_so, tied_itself, nat_cmp_total}
use Rattle.std.specs.FinMap.Entries.{below_all}
use Rattle.std.specs.List.{AllByRecursion, cons_option}
use Rattle.std.specs.List.Sorted.{IsStrictlySortedBy}
use Rattle.std.proofs.lemmas.Bool.{eqb-true}
use Rattle.rr_number.specs.Prefixes.{PrefixParts}
use Rattle.rr_object.specs.declared.key.Key.{Key}
use Rattle.rr_object.specs.declared.key.Key.TheVariants.{Mntner, AsBlock, AutNum, Inetnum, Route}
use Rattle.rr_object.specs.declared.key.Key.TheVariants.{AsSet, RouteSet}
use Rattle.rr_object.specs.Objects.{Obj}
use Rattle.rr_object.specs.KeyOrders.{key_cmp}
use Rattle.rr_auth.specs.Closest.{origin_at, origins_among, same_prefix}
use Rattle.rr_book.specs.Books.{entry, is_in_order}

is_less : (r : Ordering) → is_lt r ≡ true → r ≡ Less
is_less Less e = refl
is_less Equal e = cc
is_less Greater e = cc

last_decides : (r : Ordering) → ordering_then r Equal ≡ Less → r ≡ Less
last_decides Less e = refl
last_decides Equal e = e
last_decides Greater e = e

-- routes of one prefix are in the order of their origins
by_origin : (p q : PrefixParts) (n m : ℕ) → p.address ≡ q.address → p.length ≡ q.length →
    key_cmp (Route p n) (Route q m) ≡ Less → nat_cmp n m ≡ Less
by_origin p q n m address length h =
    let first : nat_cmp p.address q.address ≡ Equal = ap (nat_cmp p.address) (sym address)
    ∙ tied_itself nat_cmp_total p.address in
    let second : nat_cmp p.length q.length ≡ Equal = ap (nat_cmp p.length) (sym length)
    ∙ tied_itself nat_cmp_total p.length in
    last_decides _
    (sym
    (λ i. ordering_then (first i)
    (ordering_then (second i) (ordering_then (nat_cmp n m) Equal))) ∙ h)

Above : ℕ → List ℕ → Type 0
Above n ms = AllByRecursion (λ m. nat_cmp n m ≡ Less) ms

-- an object after a route of the prefix has a higher origin, if it is of the prefix
above_next : (p q : PrefixParts) (n : ℕ) (k : Key) (ms : List ℕ) → same_prefix q p ≡ true →
    key_cmp (Route q n) k ≡ Less →
    Above n ms → Above n (cons_option (origin_at p k) ms)
unfolding Above
above_next p q n (Route t m) ms s h rest =
    elim (same_prefix t p) as (λ b. same_prefix t p ≡ b → AllByRecursion (λ x. nat_cmp n x ≡ Less)
    (cons_option (cond b (Some m) None) ms)) [
      | true ↦ λ e. (
        by_origin q t n m
            (eqb-true q.address p.address (first_so _ _ s)
            ∙ sym (eqb-true t.address p.address (first_so _ _ e)))
            (eqb-true q.length p.length (second_so _ _ s)
            ∙ sym (eqb-true t.length p.length (second_so _ _ e))) h,
        rest,
      )
      | false ↦ λ e. rest
    ] refl
above_next p q n (Mntner x) ms s h rest = rest
above_next p q n (AsBlock x) ms s h rest = rest
above_next p q n (AutNum x) ms s h rest = rest
above_next p q n (Inetnum x) ms s h rest = rest
above_next p q n (AsSet x) ms s h rest = rest
above_next p q n (RouteSet x) ms s h rest = rest

above_all : (p q : PrefixParts) (n : ℕ) (os : List Obj) → same_prefix q p ≡ true →
    below_all key_cmp (Route q n) (map entry os) ≡ true →
    Above n (origins_among os p)
unfolding Above
above_all p q n [] s h = tt
above_all p q n (o ∷ os) s h =
    above_next p q n o.key (origins_among os p) s (is_less _ (first_so _ _ h))
    (above_all p q n os s (second_so _ _ h))

rise_next : (p : PrefixParts) (k : Key) (os : List Obj) → below_all key_cmp k (map entry os)
    ≡ true →
    IsStrictlySortedBy nat_cmp (origins_among os p) → IsStrictlySortedBy nat_cmp
    (cons_option (origin_at p k) (origins_among os p))
unfolding Above IsStrictlySortedBy
rise_next p (Route t m) os h rest =
    elim (same_prefix t p) as (λ b. same_prefix t p ≡ b → IsStrictlySortedBy nat_cmp
    (cons_option (cond b (Some m) None) (origins_among os p))) [
      | true ↦ λ e. (above_all p t m os e h, rest)
      | false ↦ λ e. rest
    ] refl
rise_next p (Mntner x) os h rest = rest
rise_next p (AsBlock x) os h rest = rest
rise_next p (AutNum x) os h rest = rest
rise_next p (Inetnum x) os h rest = rest
rise_next p (AsSet x) os h rest = rest
rise_next p (RouteSet x) os h rest = rest

pub origins_rise : (p : PrefixParts) (os : List Obj) → is_in_order os ≡ true →
    IsStrictlySortedBy nat_cmp (origins_among os p)
unfolding IsStrictlySortedBy
origins_rise p [] h = tt
origins_rise p (o ∷ os) h = rise_next p o.key os (first_so _ _ h)
    (origins_rise p os (second_so _ _ h))

-- so do those that are collected
pub collected_rise : {V E : Type 0} (items : V → List ℕ) (p : PrefixParts) (os : List Obj)
    (result : Result V E) → is_in_order os ≡ true →
    IfOk result (λ v. items v ≡ origins_among os p) →
    IfOk result (λ v. IsStrictlySortedBy nat_cmp (items v))
collected_rise items p os (Ok v) h e = subst (IsStrictlySortedBy nat_cmp) (sym e)
    (origins_rise p os h)
collected_rise items p os (Err x) h e = tt
