-- The classes of spans: inetnums and as-blocks never cross in a sound registry, and routes never.
use Rattle.std.proofs.Common.{◌≡◌, ℕ, ◌≤◌, Bool, true, false, not, ◌&&◌, List, refl, sym, ap, subst}
use Rattle.std.proofs.Common.{◌∙◌, arith}
use Rattle.std.specs.Prelude.{None, Some, ◌==◌, if◌then◌else◌, is_none}
use Rattle.std.specs.List.{list_any, list_all}
use Rattle.std.specs.Option.{option_map_or, option_and_then}
use Rattle.std.specs.FinMap.{get, values}
use Rattle.std.proofs.lemmas.Bool.{and_from, and_parts, eq-eqb, eqb-true, false_from_ne_true}
use Rattle.std.proofs.lemmas.Bool.{true≢false}
use Rattle.rr_number.specs.Prefixes.{PrefixParts, IsMasked, span_of}
use Rattle.rr_number.specs.Spans.{Ends, IsSpan, covers, crosses}
use Rattle.rr_number.proofs.PrefixSpans.{never_cross, spans_tell}
use Rattle.rr_object.specs.declared.key.Key.{Key}
use Rattle.rr_object.specs.declared.key.Key.TheVariants.{Mntner, AsBlock, AutNum, Inetnum, Route}
use Rattle.rr_object.specs.declared.key.Key.TheVariants.{AsSet, RouteSet}
use Rattle.rr_object.specs.KeyOrders.{IsKeyValue, IsRoute}
use Rattle.rr_object.specs.Objects.{Obj}
use Rattle.rr_auth.specs.Authority.{routes_pass}
use Rattle.rr_auth.specs.Closest.{block_span, closest_block, closest_inetnum, closest_of}
use Rattle.rr_auth.specs.Closest.{closest_route_prefix, inetnum_span, is_closest, is_cover}
use Rattle.rr_auth.specs.Closest.{is_no_closer}
use Rattle.rr_auth.specs.Closest.{origin_at, origins, route_prefix, route_span, same_prefix}
use Rattle.rr_auth.specs.Conditions.{cover_refuses, route_passes, space_passes}
use Rattle.rr_auth.specs.Laws.{IsClosestWhereCovered}
use Rattle.rr_auth.specs.Registries.{Reg, Sound, keys_cross}
use Rattle.rr_auth.proofs.Covers.{IsClosestAt, IsNested, closest_exists, closest_given}
use Rattle.rr_auth.proofs.Covers.{closest_none, closest_passes, closest_said, closest_span}
use Rattle.rr_auth.proofs.Covers.{closest_span_is, closest_there, none_where_uncovered}
use Rattle.rr_auth.proofs.Members.{found_in, list_any-filter_map, none_passes, same_tests}
use Rattle.rr_auth.proofs.Members.{stands_at}

some_same : {A : Type 0} {x y : A} → Some x ≡ Some y → x ≡ y
some_same e = cc

-- the keys of a class by their spans
pub inetnum_key : (k : Key) (t : Ends) → inetnum_span k ≡ Some t → k ≡ Inetnum t
inetnum_key (Inetnum s) t e = ap Inetnum (some_same e)
inetnum_key (Mntner n) t e = cc
inetnum_key (AsBlock s) t e = cc
inetnum_key (AutNum n) t e = cc
inetnum_key (Route p n) t e = cc
inetnum_key (AsSet n) t e = cc
inetnum_key (RouteSet n) t e = cc

pub block_key : (k : Key) (t : Ends) → block_span k ≡ Some t → k ≡ AsBlock t
block_key (AsBlock s) t e = ap AsBlock (some_same e)
block_key (Inetnum s) t e = cc
block_key (Mntner n) t e = cc
block_key (AutNum n) t e = cc
block_key (Route p n) t e = cc
block_key (AsSet n) t e = cc
block_key (RouteSet n) t e = cc

-- the key of a route has a prefix and an origin
pub route_key : (k : Key) (t : Ends) → route_span k ≡ Some t → (p : PrefixParts)
    × ((n : ℕ) × ((k ≡ Route p n) × (span_of p ≡ t)))
route_key (Route p n) t e = (p, (n, (refl, some_same e)))
route_key (Inetnum s) t e = cc
route_key (AsBlock s) t e = cc
route_key (Mntner n) t e = cc
route_key (AutNum n) t e = cc
route_key (AsSet n) t e = cc
route_key (RouteSet n) t e = cc

pub inetnums_exact : (k l : Key) (t : Ends) → inetnum_span k ≡ Some t → inetnum_span l ≡ Some t →
    k ≡ l
inetnums_exact k l t e f = inetnum_key k t e ∙ sym (inetnum_key l t f)

pub blocks_exact : (k l : Key) (t : Ends) → block_span k ≡ Some t → block_span l ≡ Some t → k ≡ l
blocks_exact k l t e f = block_key k t e ∙ sym (block_key l t f)

-- the spans of inetnums, and those of as-blocks, do not cross in a sound registry
pub inetnums_nested : (r : Reg) → Sound r → IsNested inetnum_span r
inetnums_nested r s = record {
  nested = λ k l o x t u f g of_k of_l.
      let first = inetnum_key k t of_k in
      let second = inetnum_key l u of_l in
      sym (λ i. keys_cross (first i) (second i)) ∙ s.apart k l o x f g;
}

pub blocks_nested : (r : Reg) → Sound r → IsNested block_span r
blocks_nested r s = record {
  nested = λ k l o x t u f g of_k of_l.
      let first = block_key k t of_k in
      let second = block_key l u of_l in
      sym (λ i. keys_cross (first i) (second i)) ∙ s.apart k l o x f g;
}

-- the prefix of a registered route has no bit past its length
pub route_masked : (r : Reg) (k : Key) (o : Obj) (p : PrefixParts) (n : ℕ) → Sound r →
    get r k ≡ Some o → k ≡ Route p n → IsMasked p
route_masked r k o p n s f e = let route : IsRoute p n = subst IsKeyValue e (s.formed k o f) in
    route.masked

-- the spans of routes do not cross
pub routes_nested : (r : Reg) → Sound r → IsNested route_span r
routes_nested r s = record {
  nested = λ k l o x t u f g of_k of_l.
      let first = route_key k t of_k in
      let second = route_key l u of_l in
      let spans : crosses (span_of first.0) (span_of second.0) ≡ crosses t u = λ i.
      crosses (first.1.1.1 i) (second.1.1.1 i) in
      sym spans ∙ never_cross first.0 second.0 (route_masked r k o first.0 first.1.0 s f
      first.1.1.0) (route_masked r l x second.0 second.1.0 s g second.1.1.0);
}

-- the address of a prefix is not above its last address
pub prefix_ordered : (p : PrefixParts) → (span_of p).first ≤ (span_of p).last
prefix_ordered p = omega arith

-- a span has one closest inetnum and one closest as-block at most
pub one_closest_inetnum : (r : Reg) (s : Ends) (k : Key) (o : Obj) → Sound r → IsSpan s →
    get r k ≡ Some o
    → is_closest inetnum_span (values r) s o ≡ true → closest_inetnum r s ≡ Some o
one_closest_inetnum r s k o sound is f e =
    let there = stands_at r o sound (found_in r k o f) in
    closest_there inetnum_span r s o inetnums_exact sound (inetnums_nested r sound) is.ordered
    (closest_said inetnum_span r s o sound there e)

pub one_closest_block : (r : Reg) (s : Ends) (k : Key) (o : Obj) → Sound r → IsSpan s →
    get r k ≡ Some o
    → is_closest block_span (values r) s o ≡ true → closest_block r s ≡ Some o
one_closest_block r s k o sound is f e =
    let there = stands_at r o sound (found_in r k o f) in
    closest_there block_span r s o blocks_exact sound (blocks_nested r sound) is.ordered
    (closest_said block_span r s o sound there e)

-- registered routes of one span have one prefix
pub one_prefix : (r : Reg) (s : Ends) (o x : Obj) → Sound r → (c : IsClosestAt route_span r s o)
    (d : IsClosestAt route_span r s x) → c.span ≡ d.span
    → route_prefix o.key ≡ route_prefix x.key
one_prefix r s o x sound c d same =
    let first = route_key o.key c.span c.class_is in
    let second = route_key x.key d.span d.class_is in
    let prefixes : first.0 ≡ second.0 =
    spans_tell first.0 second.0 (route_masked r o.key o first.0 first.1.0 sound c.there
    first.1.1.0) (route_masked r x.key x second.0 second.1.0 sound d.there second.1.1.0)
    (first.1.1.1 ∙ same ∙ sym second.1.1.1) in
    ap route_prefix first.1.1.0 ∙ ap (λ p. Some p) prefixes ∙ sym (ap route_prefix second.1.1.0)

-- where some route is closest, its prefix is the one that is given
pub closest_routes_there : (r : Reg) (p : PrefixParts) (o : Obj) → Sound r → IsClosestAt route_span
    r (span_of p) o → closest_route_prefix r p ≡ route_prefix o.key
closest_routes_there r p o sound c =
    let given = closest_given route_span r (span_of p) o sound (routes_nested r sound)
    (prefix_ordered p) c in
    ap (λ v. option_and_then (λ x. route_prefix x.key) v) given.1.0
    ∙ sym (one_prefix r (span_of p) o given.0 sound c given.1.1.0 given.1.1.1)

-- where no route covers, none is given
pub closest_routes_none : (r : Reg) (p : PrefixParts) → Sound r →
    ((k : Key) (x : Obj) (u : Ends) → get r k ≡ Some x → route_span k ≡ Some u →
    covers u (span_of p) ≡ false)
    → closest_route_prefix r p ≡ None
closest_routes_none r p sound h = ap (λ v. option_and_then (λ x. route_prefix x.key) v)
    (closest_none route_span r (span_of p) sound h)

pub closest_routes_agree : (r : Reg) (p : PrefixParts) (k : Key) (o : Obj) → Sound r →
    get r k ≡ Some o
    → is_closest route_span (values r) (span_of p) o ≡ true → closest_route_prefix r p
    ≡ route_prefix
    o.key
closest_routes_agree r p k o sound f e =
    let there = stands_at r o sound (found_in r k o f) in
    closest_routes_there r p o sound (closest_said route_span r (span_of p) o sound there e)

-- the prefixes of routes are told by the test
same_parts : (p q : PrefixParts) → same_prefix p q ≡ true → p ≡ q
same_parts p q e =
    let parts = and_parts (p.address == q.address) (p.length == q.length) e in
    let one_address : p.address ≡ q.address = eqb-true p.address q.address parts.0 in
    let one_length : p.length ≡ q.length = eqb-true p.length q.length parts.1 in
    λ i. record { address = one_address i; length = one_length i }

same_itself : (p q : PrefixParts) → p ≡ q → same_prefix p q ≡ true
same_itself p q e =
    and_from _ _ (eq-eqb p.address q.address (ap (λ (x : PrefixParts). x.address) e))
    (eq-eqb p.length q.length (ap (λ (x : PrefixParts). x.length) e))

-- what the test of an origin among those of the closest prefix says of an object
origin_passes : Reg → List (List ℕ) → PrefixParts → PrefixParts → Key → Bool
origin_passes r secrets p q k = option_map_or (route_passes r secrets p q) (origin_at q k) false

-- what the test of a closest route that passes says of it
closest_and_passes : Reg → List (List ℕ) → PrefixParts → Obj → Bool
closest_and_passes r secrets p x = is_closest route_span (values r) (span_of p) x && routes_pass r
    secrets p x

module _ (r : Reg) (secrets : List (List ℕ)) (p q : PrefixParts) (o : Obj) (sound : Sound r)
    (c : IsClosestAt route_span r (span_of p) o) (prefix_is : route_prefix o.key ≡ Some q) where
  -- a route of the closest prefix is a closest one
  closest_of_prefix : (x : Obj) (m : ℕ) → get r x.key ≡ Some x → x.key ≡ Route q m →
      is_closest route_span (values r) (span_of p) x ≡ true
  closest_of_prefix x m there key_is =
      let own = route_key o.key c.span c.class_is in
      let same : own.0 ≡ q = some_same (sym (ap route_prefix own.1.1.0) ∙ prefix_is) in
      let spans : span_of q ≡ c.span = ap span_of (sym same) ∙ own.1.1.1 in
      closest_passes route_span r (span_of p) x sound (record {
        there = there;
        span = c.span;
        class_is = ap route_span key_is ∙ ap (λ t. Some t) spans;
        covering = c.covering;
        least = c.least;
      })

  -- a closest route has the closest prefix
  prefix_of_one : (x : Obj) (q' : PrefixParts) (m : ℕ) → get r x.key ≡ Some x →
      x.key ≡ Route q' m → is_closest route_span (values r) (span_of p) x ≡ true → q' ≡ q
  prefix_of_one x q' m there key_is e =
      let d = closest_said route_span r (span_of p) x sound there e in
      some_same (sym (ap route_prefix key_is)
      ∙ sym (one_prefix r (span_of p) o x sound c d (closest_span route_span r (span_of p) o x
      (routes_nested r sound) (prefix_ordered p) c d)) ∙ prefix_is)

  same_route : (x : Obj) (q' : PrefixParts) (m : ℕ) (b : Bool) → get r x.key ≡ Some x →
      x.key ≡ Route q' m → same_prefix q' q ≡ b
      → option_map_or (route_passes r secrets p q) (if b then Some m else None) false
      ≡ closest_and_passes r secrets p x
  unfolding closest_and_passes
  same_route x q' m true there key_is e =
      let one : x.key ≡ Route q m = key_is ∙ ap (λ a. Route a m) (same_parts q' q e) in
      let stored : get r (Route q m) ≡ Some x = ap (λ k. get r k) (sym one) ∙ there in
      ap (λ v. option_map_or (routes_pass r secrets p) v false) stored
      ∙ sym (ap (λ b. b && routes_pass r secrets p x) (closest_of_prefix x m there one))
  same_route x q' m false there key_is e =
      let farther : is_closest route_span (values r) (span_of p) x ≡ false =
      false_from_ne_true _
      (λ t. true≢false (sym (same_itself q' q (prefix_of_one x q' m there key_is t)) ∙ e)) in
      sym (ap (λ b. b && routes_pass r secrets p x) farther)

  no_route : (x : Obj) → route_span x.key ≡ None → origin_at q x.key ≡ None →
      origin_passes r secrets p q x.key ≡ closest_and_passes r secrets p x
  unfolding closest_and_passes origin_passes
  no_route x e f =
      ap (λ v. option_map_or (route_passes r secrets p q) v false) f
      ∙ sym
      (ap
      (λ v.
      option_map_or (λ t. covers t (span_of p) && list_all (is_no_closer route_span (span_of p)
      t) (values r)) v false && routes_pass r secrets p x) e)

  same_object : (x : Obj) (k : Key) → get r x.key ≡ Some x → x.key ≡ k → origin_passes r secrets p
      q x.key ≡ closest_and_passes r secrets p x
  unfolding origin_passes
  same_object x (Route q' m) there key_is =
      ap (λ k. option_map_or (route_passes r secrets p q) (origin_at q k) false) key_is
      ∙ same_route x q' m (same_prefix q' q) there key_is refl
  same_object x (Mntner n) there key_is = no_route x (ap route_span key_is)
      (ap (origin_at q) key_is)
  same_object x (AsBlock s) there key_is = no_route x (ap route_span key_is)
      (ap (origin_at q) key_is)
  same_object x (AutNum n) there key_is = no_route x (ap route_span key_is)
      (ap (origin_at q) key_is)
  same_object x (Inetnum s) there key_is = no_route x (ap route_span key_is)
      (ap (origin_at q) key_is)
  same_object x (AsSet n) there key_is = no_route x (ap route_span key_is) (ap (origin_at q) key_is)
  same_object x (RouteSet n) there key_is = no_route x (ap route_span key_is)
      (ap (origin_at q) key_is)

  -- some origin of the closest prefix authorises the route where some closest route does
  origins_ask : list_any (route_passes r secrets p q) (origins r q) ≡ list_any
      (closest_and_passes r secrets p) (values r)
  unfolding origin_passes
  origins_ask =
      list_any-filter_map (route_passes r secrets p q) (λ x. origin_at q x.key) (values r)
      ∙ same_tests (λ x. origin_passes r secrets p q x.key) (closest_and_passes r secrets p)
      (values r) (λ x i. same_object x x.key (stands_at r x sound i) refl)

closest_prefix : (o : Obj) (s : Ends) → route_span o.key ≡ Some s → (q : PrefixParts)
    × (route_prefix o.key ≡ Some q)
closest_prefix o s e = let key = route_key o.key s e in (key.0, ap route_prefix key.1.1.0)

-- a closest route has a prefix, which is given
closest_routes_none_alike : (r : Reg) (p : PrefixParts) → is_none (closest_route_prefix r p)
    ≡ is_none (closest_of route_span (values r) (span_of p))
closest_routes_none_alike r p =
    elim (closest_of route_span (values r) (span_of p)) as (λ v. closest_of route_span (values r)
    (span_of p) ≡ v
    → is_none (option_and_then (λ x. route_prefix x.key) v) ≡ is_none v) [
      | None ↦ λ e. refl
      | Some o ↦ λ e. let own = closest_span_is route_span (values r) (span_of p) o e in
          ap is_none (closest_prefix o own.0 own.1).1
    ] refl

pub nothing_closest_is_uncovered : (r : Reg) → IsClosestWhereCovered r
nothing_closest_is_uncovered r = record {
  inetnums = none_where_uncovered inetnum_span (values r);
  blocks = none_where_uncovered block_span (values r);
  routes = λ p. closest_routes_none_alike r p ∙ none_where_uncovered route_span (values r)
      (span_of p);
}

pub routes_ask_the_closest : (r : Reg) (secrets : List (List ℕ)) (p : PrefixParts) (n : ℕ) → Sound r
    → cover_refuses r secrets (Route p n) ≡ not (
    if list_any (is_cover route_span (span_of p)) (values r)
    then list_any (λ x. is_closest route_span (values r) (span_of p) x && routes_pass r secrets p
    x) (values r)
    else option_map_or (routes_pass r secrets p) (closest_inetnum r (span_of p)) false)
unfolding closest_and_passes
routes_ask_the_closest r secrets p n sound =
    elim (list_any (is_cover route_span (span_of p)) (values r)) as
    (λ b. list_any (is_cover route_span (span_of p)) (values r) ≡ b
    → not (space_passes r secrets p (closest_route_prefix r p)) ≡ not (
    if b then list_any (λ x. is_closest route_span (values r) (span_of p) x && routes_pass r
    secrets p x) (values r)
    else option_map_or (routes_pass r secrets p) (closest_inetnum r (span_of p)) false)) [
      | true ↦ λ covered.
          let one = closest_exists route_span r (span_of p) sound covered in
          let prefix = closest_prefix one.0 one.1.span one.1.class_is in
          ap (λ v. not (space_passes r secrets p v)) (closest_routes_there r p one.0 sound one.1
          ∙ prefix.1)
          ∙ ap not (origins_ask r secrets p prefix.0 one.0 sound one.1 prefix.1)
      | false ↦ λ covered.
          ap (λ v. not (space_passes r secrets p v))
          (closest_routes_none r p sound (λ k x u f of_class.
          sym (ap (λ v. option_map_or (λ t. covers t (span_of p)) v false)
          (ap route_span (sound.keyed k x f) ∙ of_class))
          ∙ none_passes (is_cover route_span (span_of p)) x (values r) covered (found_in r k x f)))
    ] refl
