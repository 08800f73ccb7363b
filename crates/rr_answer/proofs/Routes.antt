-- The routes of a prefix are those under its origins.
use Rattle.std.proofs.Common.{◌≡◌, ℕ, ◌+◌, ◌<◌, Bool, Bor, true, false, cond, List, [], ◌∷◌, ◌++◌}
use Rattle.std.proofs.Common.{inl, inr, length, get_or, take, refl, sym, ap, ◌∙◌}
use Rattle.std.specs.Prelude.{Option, None, Some, ◌==◌, filter, is_some}
use Rattle.std.specs.List.{cons_option, filter_map}
use Rattle.std.specs.FinMap.{get, values}
use Rattle.std.proofs.lemmas.Bool.{and_parts, eqb-true}
use Rattle.std.proofs.lemmas.List.{map-append}
use Rattle.rr_number.specs.Prefixes.{PrefixParts}
use Rattle.rr_object.specs.declared.key.Key.{Key}
use Rattle.rr_object.specs.declared.key.Key.TheVariants.{Mntner, AsBlock, AutNum, Inetnum, Route}
use Rattle.rr_object.specs.declared.key.Key.TheVariants.{AsSet, RouteSet}
use Rattle.rr_object.specs.Objects.{Obj}
use Rattle.rr_auth.specs.Closest.{origin_at, origins, origins_among, same_prefix}
use Rattle.rr_auth.specs.Registries.{Reg, Sound}
use Rattle.rr_auth.specs.Elements.{IsIn}
use Rattle.rr_auth.proofs.Members.{stands_at}
use Rattle.rr_graph.proofs.Lists.{filter_map_more-None, filter_map_more-Some}
use Rattle.rr_sets.specs.Lists.{lent}
use Rattle.rr_answer.specs.Selections.{is_route_of}

pub same_parts : (p q : PrefixParts) → same_prefix p q ≡ true → p ≡ q
same_parts p q e =
    let parts = and_parts (p.address == q.address) (p.length == q.length) e in
    λ i. record {
      address = eqb-true p.address q.address parts.0 i;
      length =
          eqb-true p.length q.length parts.1 i;
    }

route_key : (p q : PrefixParts) (m n : ℕ) (b : Bool) → same_prefix q p ≡ b → cond b (Some m) None
    ≡ Some n → Route q m ≡ Route p n
route_key p q m n true same e = let number : m ≡ n = cc in λ i. Route (same_parts q p same i)
    (number i)
route_key p q m n false same e = cc

pub origin_key : (p : PrefixParts) (k : Key) (n : ℕ) → origin_at p k ≡ Some n → k ≡ Route p n
origin_key p (Route q m) n e = route_key p q m n (same_prefix q p) refl e
origin_key p (Mntner x) n e = cc
origin_key p (AsBlock x) n e = cc
origin_key p (AutNum x) n e = cc
origin_key p (Inetnum x) n e = cc
origin_key p (AsSet x) n e = cc
origin_key p (RouteSet x) n e = cc

routes_step : (r : Reg) (p : PrefixParts) (o : Obj) (os : List Obj) (found : Option ℕ) →
    origin_at p o.key ≡ found → get r o.key ≡ Some o
    → filter_map (λ n. get r (Route p n)) (origins_among os p) ≡ filter (is_route_of p) os
    → filter_map (λ n. get r (Route p n)) (cons_option found (origins_among os p))
    ≡ cond (is_some found) (o ∷ filter (is_route_of p) os) (filter (is_route_of p) os)
routes_step r p o os None at there rest = rest
routes_step r p o os (Some n) at there rest =
    let here : get r (Route p n) ≡ Some o = ap (get r) (sym (origin_key p o.key n at)) ∙ there in
    ap (λ x. cons_option x (filter_map (λ n. get r (Route p n)) (origins_among os p))) here
    ∙ ap (λ xs. o ∷ xs) rest

routes_among : (r : Reg) (p : PrefixParts) (os : List Obj) →
    ((o : Obj) → IsIn o os → get r o.key ≡ Some o)
    → filter_map (λ n. get r (Route p n)) (origins_among os p) ≡ filter (is_route_of p) os
routes_among r p [] there = refl
routes_among r p (o ∷ os) there =
    routes_step r p o os (origin_at p o.key) refl (there o (inl refl))
    (routes_among r p os (λ x i. there x (inr i)))

-- the routes under the origins of a prefix are all of it
pub routes_of_origins : (r : Reg) (p : PrefixParts) → Sound r → filter_map (λ n. get r (Route p n))
    (origins r p) ≡ filter (is_route_of p) (values r)
routes_of_origins r p sound = routes_among r p (values r) (λ o i. stands_at r o sound i)

-- one more origin, under which there is a route
pub found_more : (h : ℕ → Option Obj) (ns : List ℕ) (i n : ℕ) (found grown : List (Bor Obj))
    (route : Bor Obj) → i < length ns → n ≡ get_or ns i n
    → lent found ≡ filter_map h (take i ns) → h n ≡ Some route.now → grown ≡ found ++ route ∷ [] →
    lent grown ≡ filter_map h (take (i + 1) ns)
found_more h ns i n found grown route inside is before here pushed =
    ap lent pushed ∙ map-append (λ object. object.now) found (route ∷ [])
    ∙ ap (λ (os : List Obj). os ++ route.now ∷ []) before
    ∙ sym (filter_map_more-Some h ns i n route.now inside is here)

-- one more origin, under which there is none
pub found_no_more : (h : ℕ → Option Obj) (ns : List ℕ) (i n : ℕ) (found : List (Bor Obj)) →
    i < length ns → n ≡ get_or ns i n
    → lent found ≡ filter_map h (take i ns) → h n ≡ None → lent found ≡ filter_map h
    (take (i + 1) ns)
found_no_more h ns i n found inside is before none =
    before ∙ sym (filter_map_more-None h ns i n inside is none)
