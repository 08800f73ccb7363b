-- Closest objects inside a held prefix: they lie inside it, and are the same in registries that
-- agree on what is held.
use Rattle.std.proofs.Common.{◌≡◌, ◌≤◌, true, false, inl, inr, refl, sym, ap, ◌∙◌, arith}
use Rattle.std.specs.Prelude.{Option, None, Some, is_some}
use Rattle.std.specs.List.{list_any}
use Rattle.std.specs.FinMap.{get, values}
use Rattle.std.specs.Option.{option_map_or}
use Rattle.std.proofs.lemmas.Bool.{cases_lt, true≢false}
use Rattle.std.proofs.lemmas.Bool.Decides.{nat_tests}
use Rattle.rr_number.specs.Prefixes.{PrefixParts, IsMasked, span_of}
use Rattle.rr_number.specs.Spans.{Ends, covers, crosses, size}
use Rattle.rr_object.specs.declared.key.Key.{Key}
use Rattle.rr_object.specs.declared.key.Key.TheVariants.{Inetnum, Route}
use Rattle.rr_object.specs.Objects.{Obj}
use Rattle.rr_auth.specs.Closest.{closest_inetnum, closest_of, closest_route_prefix, inetnum_span}
use Rattle.rr_auth.specs.Closest.{is_cover, route_span}
use Rattle.rr_auth.specs.Registries.{Reg, Sound}
use Rattle.rr_auth.proofs.Covers.{IsClosestAt, closest_found, closest_none_back, closest_there}
use Rattle.rr_auth.proofs.Members.{found_in, some_passes}
use Rattle.rr_auth.proofs.Nesting.{inside_of}
use Rattle.rr_auth.proofs.RouteSpace.{closest_routes_there, inetnum_key, inetnums_exact}
use Rattle.rr_auth.proofs.RouteSpace.{inetnums_nested, prefix_ordered, route_key, route_masked}
use Rattle.rr_auth.proofs.RouteSpace.{routes_nested}
use Rattle.rr_registry.specs.Holdings.{Agree, Holding, IsHeld, is_held, is_mntner, space_of}
use Rattle.rr_registry.proofs.Holders.{NamesHolders, all_theirs}

-- what is there
pub value_there : {A : Type 0} → (o : Option A) → is_some o ≡ true → (x : A) × (o ≡ Some x)
value_there None e = cc
value_there (Some x) e = (x, refl)

no_larger : (s t : Ends) → covers s t ≡ true → size t ≤ size s
no_larger s t e = grind (arith, nat_tests)

-- of two spans that meet and do not cross, one covers the other: what crosses a span inside a third
-- lies inside that
pub crosser_inside : (p s t : Ends) → covers p s ≡ true → crosses t s ≡ true → crosses t p
    ≡ false → covers p t ≡ true
crosser_inside p s t e f g = grind (arith, nat_tests)

module _ (class : Key → Option Ends) (p : Ends) where
  -- no span of the class crosses p
  pub record IsClear (r : Reg) : Type 0 where
    pub clear : (k : Key) (x : Obj) (u : Ends) → get r k ≡ Some x → class k ≡ Some u → crosses u p
        ≡ false

  -- what stands inside p in one registry stands in the other
  pub record IsCarried (r q : Reg) : Type 0 where
    pub carried : (k : Key) (x : Obj) (u : Ends) → class k ≡ Some u → covers p u ≡ true →
        get r k ≡ Some x → get q k ≡ Some x

  -- what is closest in one registry, and inside p, is closest in the other
  pub closest_carried : (r q : Reg) (s : Ends) (o : Obj) → s.first ≤ s.last → covers p s ≡ true →
      IsClear q → IsCarried r q → IsCarried q r
      → (c : IsClosestAt class r s o) → covers p c.span ≡ true → IsClosestAt class q s o
  closest_carried r q s o ordered inside clear there back c held = record {
    there = there.carried o.key o c.span c.class_is held c.there;
    span = c.span;
    class_is = c.class_is;
    covering = c.covering;
    least = λ k x u f of_class cover.
        elim (cases_lt (size p) (size u)) [
          | inl larger ↦ let smaller : size c.span ≤ size p = no_larger p c.span held in omega arith
          | inr fits ↦
              let in_p : covers p u ≡ true = inside_of s u p ordered cover inside fits
              (clear.clear k x u f of_class) in
              c.least k x u (back.carried k x u of_class in_p f) of_class cover
        ];
  }

  -- a closest object is given where some object covers
  pub closest_where_covered : (r : Reg) (s : Ends) (k : Key) (x : Obj) (u : Ends) → Sound r →
      get r k ≡ Some x → class k ≡ Some u → covers u s ≡ true
      → (o : Obj) × ((closest_of class (values r) s ≡ Some o) × IsClosestAt class r s o)
  closest_where_covered r s k x u sound f of_class cover =
      elim (closest_of class (values r) s) as (λ v. closest_of class (values r) s ≡ v → (o : Obj)
      × ((v ≡ Some o) × IsClosestAt class r s o)) [
        | None ↦ λ e.
            absurd (true≢false (sym cover ∙ closest_none_back class r s sound e k x u f of_class))
        | Some o ↦ λ e. (o, (refl, closest_found class r s o sound e))
      ] refl

module _ (h : Holding) (r : Reg) (sound : Sound r) (held : IsHeld h r) where
  -- the prefix that is held has no bit past its length
  pub held_masked : IsMasked h.prefix
  held_masked =
      let route = value_there (get r (Route h.prefix held.origin)) held.routed in
      route_masked r (Route h.prefix held.origin) route.0 h.prefix held.origin sound route.1 refl

  inetnums_clear : IsClear inetnum_span (space_of h) r
  inetnums_clear =
      let whole = value_there (get r (Inetnum (space_of h))) held.space in
      record {
        clear = λ k x u f of_class. (inetnums_nested r sound).nested k
            (Inetnum (space_of h)) x whole.0 u (space_of h) f whole.1 of_class refl;
      }

  pub inetnum_clear : (t : Ends) (x : Obj) → get r (Inetnum t) ≡ Some x → crosses t (space_of h)
      ≡ false
  inetnum_clear t x f = inetnums_clear.clear (Inetnum t) x t f refl

  routes_clear : IsClear route_span (space_of h) r
  routes_clear =
      let whole = value_there (get r (Route h.prefix held.origin)) held.routed in
      record {
        clear = λ k x u f of_class. (routes_nested r sound).nested k
            (Route h.prefix held.origin) x whole.0 u (space_of h) f whole.1 of_class refl;
      }

  -- the closest inetnum to a span inside the prefix lies inside it
  pub inetnum_inside : (s : Ends) → s.first ≤ s.last → covers (space_of h) s ≡ true
      → (o : Obj)
      × ((closest_inetnum r s ≡ Some o) × ((c : IsClosestAt inetnum_span r s o)
      × (covers (space_of h) c.span ≡ true)))
  inetnum_inside s ordered inside =
      let whole = value_there (get r (Inetnum (space_of h))) held.space in
      let one = closest_where_covered inetnum_span (space_of h) r s (Inetnum (space_of h)) whole.0
      (space_of h) sound whole.1 refl inside in
      let c = one.1.1 in
      let smaller = c.least (Inetnum (space_of h)) whole.0 (space_of h) whole.1 refl inside in (
        one.0,
        (
          one.1.0,
          (
            c,
            inside_of s c.span (space_of h) ordered c.covering inside smaller
                (inetnums_clear.clear one.0.key one.0 c.span c.there c.class_is),
          ),
        ),
      )

  -- a closest route to a prefix inside the held one lies inside it
  pub route_inside : (p : PrefixParts) (o : Obj) → covers (space_of h) (span_of p) ≡ true →
      (c : IsClosestAt route_span r (span_of p) o) → covers (space_of h) c.span ≡ true
  route_inside p o inside c =
      let whole = value_there (get r (Route h.prefix held.origin)) held.routed in
      let smaller = c.least (Route h.prefix held.origin) whole.0 (space_of h) whole.1 refl inside in
      inside_of (span_of p) c.span (space_of h) (prefix_ordered p) c.covering inside smaller
      (routes_clear.clear o.key o c.span c.there c.class_is)

  -- some route covers a prefix inside the held one
  pub route_covers : (p : PrefixParts) → covers (space_of h) (span_of p) ≡ true →
      list_any (is_cover route_span (span_of p)) (values r) ≡ true
  route_covers p inside =
      let whole = value_there (get r (Route h.prefix held.origin)) held.routed in
      let key : whole.0.key ≡ Route h.prefix held.origin = sound.keyed (Route h.prefix held.origin)
      whole.0 whole.1 in
      some_passes (is_cover route_span (span_of p)) whole.0 (values r)
      (found_in r (Route h.prefix held.origin) whole.0 whole.1)
      (ap (λ k. option_map_or (λ t. covers t (span_of p)) (route_span k) false) key ∙ inside)

  pub route_closest : (p : PrefixParts) → covers (space_of h) (span_of p) ≡ true → (o : Obj)
      × IsClosestAt route_span r (span_of p) o
  route_closest p inside =
      let whole = value_there (get r (Route h.prefix held.origin)) held.routed in
      let one = closest_where_covered route_span (space_of h) r (span_of p)
      (Route h.prefix held.origin) whole.0 (space_of h) sound whole.1 refl inside in
      (one.0, one.1.1)

-- an inetnum, or a route, inside the prefix is held
pub held_inetnum : (h : Holding) (k : Key) (u : Ends) → inetnum_span k ≡ Some u →
    covers (space_of h) u ≡ true → is_held h k ≡ true
held_inetnum h k u e f = ap (is_held h) (inetnum_key k u e) ∙ f

pub held_route : (h : Holding) (k : Key) (u : Ends) → route_span k ≡ Some u → covers (space_of h) u
    ≡ true → is_held h k ≡ true
held_route h k u e f = let route = route_key k u e in ap (is_held h) route.1.1.0
    ∙ ap (covers (space_of h)) route.1.1.1 ∙ f

module _ (h : Holding) (r q : Reg) (agree : Agree h r q) where
  inetnums_carried : IsCarried inetnum_span (space_of h) r q
  inetnums_carried = record {
    carried = λ k x u of_class inside f.
        sym (agree k (held_inetnum h k u of_class inside)) ∙ f;
  }

  inetnums_back : IsCarried inetnum_span (space_of h) q r
  inetnums_back = record {
    carried = λ k x u of_class inside f.
        agree k (held_inetnum h k u of_class inside) ∙ f;
  }

  routes_carried : IsCarried route_span (space_of h) r q
  routes_carried = record {
    carried = λ k x u of_class inside f.
        sym (agree k (held_route h k u of_class inside)) ∙ f;
  }

  routes_back : IsCarried route_span (space_of h) q r
  routes_back = record {
    carried = λ k x u of_class inside f.
        agree k (held_route h k u of_class inside) ∙ f;
  }

  -- registries that agree on what is held have the same closest inetnum to a span inside the prefix
  pub inetnum_alike : (s : Ends) → Sound r → Sound q → IsHeld h r → IsHeld h q → s.first ≤ s.last →
      covers (space_of h) s ≡ true → closest_inetnum r s ≡ closest_inetnum q s
  inetnum_alike s sound sound_q held held_q ordered inside =
      let one = inetnum_inside h r sound held s ordered inside in
      let c = closest_carried inetnum_span (space_of h) r q s one.0 ordered inside
      (inetnums_clear h q sound_q held_q) inetnums_carried inetnums_back one.1.1.0 one.1.1.1 in
      one.1.0 ∙ sym (closest_there inetnum_span q s one.0 inetnums_exact sound_q
      (inetnums_nested q sound_q) ordered c)

  -- a closest route to a prefix inside the held one is closest in both
  pub route_carried : (p : PrefixParts) (o : Obj) → Sound r → Sound q → IsHeld h r → IsHeld h q →
      covers (space_of h) (span_of p) ≡ true
      → IsClosestAt route_span r (span_of p) o → IsClosestAt route_span q (span_of p) o
  route_carried p o sound sound_q held held_q inside c =
      closest_carried route_span (space_of h) r q (span_of p) o (prefix_ordered p) inside
      (routes_clear h q sound_q held_q) routes_carried routes_back c
      (route_inside h r sound held p o inside c)

  -- and they have the same prefix of the closest routes
  pub routes_alike : (p : PrefixParts) → Sound r → Sound q → IsHeld h r → IsHeld h q →
      covers (space_of h) (span_of p) ≡ true → closest_route_prefix r p ≡ closest_route_prefix q p
  routes_alike p sound sound_q held held_q inside =
      let one = route_closest h r sound held p inside in
      closest_routes_there r p one.0 sound one.1
      ∙ sym (closest_routes_there q p one.0 sound_q (route_carried p one.0 sound sound_q held
      held_q inside one.1))

-- what is held and is no mntner names holders
pub theirs_of_key : (h : Holding) (r : Reg) → IsHeld h r → (k : Key) (o : Obj) → is_mntner k
    ≡ false → is_held h k ≡ true → get r k ≡ Some o → NamesHolders h o
theirs_of_key h r held k o other e f = all_theirs h k o other (held.theirs k o e f)

pub inetnum_theirs : (h : Holding) (r : Reg) → IsHeld h r → (o : Obj) (t : Ends) → get r o.key
    ≡ Some o → inetnum_span o.key ≡ Some t → covers (space_of h) t ≡ true → NamesHolders h o
inetnum_theirs h r held o t there of_class inside =
    theirs_of_key h r held o.key o (ap is_mntner (inetnum_key o.key t of_class))
    (held_inetnum h o.key t of_class inside) there

pub route_theirs : (h : Holding) (r : Reg) → IsHeld h r → (o : Obj) (t : Ends) → get r o.key
    ≡ Some o → route_span o.key ≡ Some t → covers (space_of h) t ≡ true → NamesHolders h o
route_theirs h r held o t there of_class inside =
    let key = route_key o.key t of_class in
    theirs_of_key h r held o.key o (ap is_mntner key.1.1.0) (held_route h o.key t of_class inside)
    there
