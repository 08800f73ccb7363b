-- The ranges in a set itself, from the lists of a registry.
use Rattle.std.proofs.Common.{◌≡◌, ℕ, Bool, true, false, cond, map, ◌⊎◌, ◌↔◌, List, [], ◌∷◌, ◌++◌}
use Rattle.std.proofs.Common.{Contains, IsTrue, None, Some, Bor, refl, sym, ap, ◌∙◌, subst, inl}
use Rattle.std.proofs.Common.{inr}
use Rattle.std.specs.Prelude.{◌==◌}
use Rattle.std.specs.FinMap.{get, values}
use Rattle.std.specs.List.{filter_map}
use Rattle.std.proofs.lemmas.Bool.{eq-eqb, eqb-true}
use Rattle.rr_auth.specs.Elements.{IsIn}
use Rattle.rr_auth.proofs.Members.{found_in, stands_at}
use Rattle.rr_auth.specs.Registries.{Reg, Sound}
use Rattle.rr_graph.proofs.Listings.{Contains-cons_cases}
use Rattle.rr_graph.proofs.Lists.{Contains-filter_map, Contains-head, Contains-later, Contains-map}
use Rattle.rr_graph.proofs.Lists.{Contains-nil}
use Rattle.rr_number.specs.Prefixes.{PrefixParts}
use Rattle.rr_number.specs.Ranges.{RangeParts, bare}
use Rattle.rr_object.specs.Objects.{Obj}
use Rattle.rr_object.specs.Parts.{ByRefParts}
use Rattle.rr_object.specs.declared.key.Key.{Key}
use Rattle.rr_object.specs.declared.key.Key.TheVariants as key
use Rattle.rr_object.specs.declared.member.Member.{Member}
use Rattle.rr_object.specs.declared.member.Member.TheVariants as member
use Rattle.rr_object.specs.declared.member.MemberSet.TheVariants.{Set}
use Rattle.rr_sets.specs.Lists.{IsReferrer, IsRegisteredRoute, ListsOnce, lent}
use Rattle.rr_sets.specs.KeyParts.{prefix_from, range_of_key}
use Rattle.rr_sets.specs.MemberParts.{range_listed}
use Rattle.rr_sets.specs.RouteSets.{HasRange, IsAnyRange, IsByReference, IsOriginated, IsRangeTaken}
use Rattle.rr_sets.specs.RouteSets.{ListsRange, registered_set}
use Rattle.rr_sets.specs.SetObjects.{takes}
use Rattle.rr_sets.proofs.Numbers.{Contains-both}

-- a key with a range is a route's, whose prefix alone it is
key_of_range : (k : Key) (range : RangeParts) → range_of_key k ≡ Some range → (p : PrefixParts)
    × (n : ℕ) × (k ≡ key.Route p n) × (range ≡ bare p)
key_of_range (key.Mntner name) range is = cc
key_of_range (key.AsBlock span) range is = cc
key_of_range (key.AutNum m) range is = cc
key_of_range (key.Inetnum span) range is = cc
key_of_range (key.Route prefix origin) range is = (prefix, origin, refl, cc)
key_of_range (key.AsSet name) range is = cc
key_of_range (key.RouteSet name) range is = cc

-- a key with a prefix of an origin's is that of a route of both
key_of_prefix : (n : ℕ) (k : Key) (p : PrefixParts) → prefix_from n k ≡ Some p → k ≡ key.Route p n
key_of_prefix n (key.Mntner name) p is = cc
key_of_prefix n (key.AsBlock span) p is = cc
key_of_prefix n (key.AutNum m) p is = cc
key_of_prefix n (key.Inetnum span) p is = cc
key_of_prefix n (key.Route q m) p is = on (m == n) refl is where
  on : (b : Bool) → (m == n) ≡ b → cond b (Some q) None ≡ Some p → key.Route q m ≡ key.Route p n
  on true own some = let same : q ≡ p = cc in λ i. key.Route (same i) (eqb-true m n own i)
  on false other none = cc
key_of_prefix n (key.AsSet name) p is = cc
key_of_prefix n (key.RouteSet name) p is = cc

-- what is among a list's elements is in it, and the other way round
has : {X : Type 0} (x : X) (xs : List X) → IsIn x xs → Contains xs x
has x [] is = absurd is
has x (y ∷ ys) (inl same) = subst (Contains (y ∷ ys)) (sym same) (Contains-head y ys)
has x (y ∷ ys) (inr later) = Contains-later y ys x (has x ys later)

among : {X : Type 0} (x : X) (xs : List X) → Contains xs x → IsIn x xs
among x [] is = Contains-nil x is
among x (y ∷ ys) is = elim (Contains-cons_cases y ys x is) [
  | inl same ↦ inl (sym same)
  | inr later ↦ inr (among x ys later)
]

-- a member with a range is it
member_of_range : (m : Member) (range : RangeParts) → range_listed m ≡ Some range →
    m ≡ member.Range range
member_of_range (member.Range x) range is = let same : x ≡ range = cc in ap member.Range same
member_of_range (member.Set set operator) range is = cc

-- the ranges among members
pub ranges_among : (members : List Member) (range : RangeParts) →
    Contains (filter_map range_listed members) range ↔ Contains members (member.Range range)
ranges_among members range = (
  λ has. let f = (Contains-filter_map range_listed members range).0 has in subst (Contains members)
      (member_of_range f.0 range f.2) f.1,
  λ has. (Contains-filter_map range_listed members range).1 (member.Range range, has, refl),
)

module _ (r : Reg) (sound : Sound r) where
  -- the range of a registered route
  range_of_route : (o : Obj) (p : PrefixParts) (n : ℕ) → get r (key.Route p n) ≡ Some o →
      range_of_key o.key ≡ Some (bare p)
  range_of_route o p n is = ap range_of_key (sound.keyed (key.Route p n) o is)

  -- a registered object with a range is a route of it
  route_of_range : (k : Key) (o : Obj) (range : RangeParts) → get r k ≡ Some o → range_of_key o.key
      ≡ Some range → (p : PrefixParts) × (n : ℕ) × (get r (key.Route p n) ≡ Some o)
      × (range ≡ bare p)
  route_of_range k o range is has =
      let f = key_of_range o.key range has in
      (f.0, f.1, subst (λ (x : Key). get r x ≡ Some o) (sym (sound.keyed k o is) ∙ f.2) is, f.3)

  -- the ranges of all routes
  pub ranges_of_all : (objects : List (Bor Obj)) → ListsOnce (IsRegisteredRoute r) objects →
      (range : RangeParts) → Contains (filter_map (λ o. range_of_key o.now.key) objects) range
      ↔ ((n : ℕ) × IsOriginated r n range)
  ranges_of_all objects lists range = (
    λ has.
        let f = (Contains-filter_map (λ (o : Bor Obj). range_of_key o.now.key) objects range).0
        has in
        let found : IsRegisteredRoute r f.0.now = (lists.same f.0.now).0
        ((Contains-map (λ (o : Bor Obj). o.now) objects f.0.now).1 (f.0, f.1, refl)) in
        let g = route_of_range (key.Route found.0 found.1) f.0.now range found.2 f.2 in
        (g.1, (g.0, f.0.now, g.2, g.3)),
    λ (n, (p, o, is, same)).
        let b = (Contains-map (λ (x : Bor Obj). x.now) objects o).0 ((lists.same o).1 (p, n, is)) in
        (Contains-filter_map (λ (x : Bor Obj). range_of_key x.now.key) objects range).1 (
          b.0,
          b.1,
          ap (λ (x : Obj). range_of_key x.key) b.2 ∙ range_of_route o p n is ∙ ap Some
              (sym same),
        ),
  )

  -- the ranges of the prefixes of an origin's routes
  pub ranges_originated : (n : ℕ) (prefixes : List PrefixParts) → prefixes ≡ filter_map
      (λ o. prefix_from n o.key) (values r) → (range : RangeParts) → Contains (map bare prefixes)
      range ↔ IsOriginated r n range
  ranges_originated n prefixes is range = (on, from) where
    on : Contains (map bare prefixes) range → IsOriginated r n range
    on some =
        let f = (Contains-map bare prefixes range).0 some in
        let g = (Contains-filter_map (λ (o : Obj). prefix_from n o.key) (values r) f.0).0
        (subst (λ (l : List PrefixParts). Contains l f.0) is f.1) in
        let at = stands_at r g.0 sound (among g.0 (values r) g.1) in (
          f.0,
          g.0,
          subst (λ (k : Key). get r k ≡ Some g.0) (key_of_prefix n g.0.key f.0 g.2) at,
          sym f.2,
        )

    from : IsOriginated r n range → Contains (map bare prefixes) range
    from (p, o, at, same) =
        let own : prefix_from n o.key ≡ Some p = ap (prefix_from n)
        (sound.keyed (key.Route p n) o at) ∙ ap (λ b. cond b (Some p) None) (eq-eqb n n refl) in
        let listed = (Contains-filter_map (λ (x : Obj). prefix_from n x.key) (values r) p).1
        (o, has o (values r) (found_in r (key.Route p n) o at), own) in
        (Contains-map bare prefixes range).1 (
          p,
          subst (λ (l : List PrefixParts). Contains l p)
              (sym is) listed,
          sym same,
        )

  -- the ranges of the routes whose word is taken
  pub ranges_that_are_taken : (by_ref : ByRefParts) (name : List ℕ) (objects : List (Bor Obj)) →
      ((o : Obj) → Contains (lent objects) o ↔ (IsReferrer r name o × IsTrue (takes by_ref o))) →
      (range : RangeParts) → Contains (filter_map (λ o. range_of_key o.now.key) objects) range
      ↔ IsRangeTaken r by_ref name range
  ranges_that_are_taken by_ref name objects belong range = (on, from) where
    on : Contains (filter_map (λ o. range_of_key o.now.key) objects) range → IsRangeTaken r by_ref
        name range
    on has =
        let f = (Contains-filter_map (λ (o : Bor Obj). range_of_key o.now.key) objects range).0
        has in
        let found = (belong f.0.now).0 ((Contains-map (λ (o : Bor Obj). o.now) objects f.0.now).1
        (f.0, f.1, refl)) in
        let route = route_of_range found.0.0 f.0.now range found.0.1 f.2 in
        (route.0, route.1, f.0.now, route.2, found.0.2, found.1, route.3)

    from : IsRangeTaken r by_ref name range →
        Contains (filter_map (λ o. range_of_key o.now.key) objects) range
    from (p, n, o, is, member_, taken, same) =
        let b = (Contains-map (λ (x : Bor Obj). x.now) objects o).0
        ((belong o).1 ((key.Route p n, is, member_), taken)) in
        (Contains-filter_map (λ (x : Bor Obj). range_of_key x.now.key) objects range).1 (
          b.0,
          b.1,
          ap (λ (x : Obj). range_of_key x.key) b.2 ∙ range_of_route o p n is ∙ ap Some
              (sym same),
        )

-- the ranges of a registered set
pub ranges_of_set : (r : Reg) (name : List ℕ) (set : Obj) (members : List Member)
    (ranges taken : List RangeParts) → registered_set r name ≡ Some set → members ≡ set.members
    → ((range : RangeParts) → Contains taken range ↔ IsRangeTaken r set.by_ref name range)
    → ranges ≡ filter_map range_listed members ++ taken → (range : RangeParts)
    → Contains ranges range ↔ (ListsRange r name range ⊎ IsByReference r name range)
ranges_of_set r name set members ranges taken registered is_members are is =
    Contains-both (filter_map range_listed members) taken ranges (ListsRange r name)
    (IsByReference r name) is listed belong where
      listed : (range : RangeParts) → Contains (filter_map range_listed members) range
          ↔ ListsRange r name range
      listed range = (
        λ has. (
          set,
          registered,
          subst (λ (l : List Member). Contains l (member.Range range))
              is_members ((ranges_among members range).0 has),
        ),
        λ (o, found, has). let same : o ≡ set = cc in (ranges_among members range).1
            (rw is_members (subst (λ (x : Obj). Contains x.members (member.Range range)) same has)),
      )

      belong : (range : RangeParts) → Contains taken range ↔ IsByReference r name range
      belong range = (
        λ has. (
          set,
          registered,
          (are range).0 has,
        ),
        λ (o, found, is_taken). let same : o ≡ set = cc in (are range).1
            (subst (λ (x : Obj). IsRangeTaken r x.by_ref name range) same is_taken),
      )

-- no set of the name is registered, so it lists nothing and nothing belongs to it
pub ranges_of_none : (r : Reg) (name : List ℕ) (ranges : List RangeParts) → registered_set r name
    ≡ None → ranges ≡ [] → (range : RangeParts) → Contains ranges range
    ↔ (ListsRange r name range ⊎ IsByReference r name range)
ranges_of_none r name ranges none empty range = (
  λ has. absurd (Contains-nil range (subst (λ (l : List RangeParts). Contains l range) empty has)),
  λ holds. elim holds [
    | inl listed ↦ let wrong : Some listed.0 ≡ None = sym listed.1 ∙ none in cc
    | inr belongs ↦ let wrong : Some belongs.0 ≡ None = sym belongs.1 ∙ none in cc
  ],
)

-- the ranges in a set itself, of a registered set and of `RS-ANY`
pub HasRange-from : (r : Reg) (name : List ℕ) (ranges registered any : List RangeParts) →
    ranges ≡ registered ++ any → ((range : RangeParts) → Contains registered range
    ↔ (ListsRange r name range ⊎ IsByReference r name range)) →
    ((range : RangeParts) → Contains any range ↔ IsAnyRange r name range) → (range : RangeParts) →
    Contains ranges range ↔ HasRange r (Set name) range
HasRange-from r name ranges registered any is first second range = (
  λ has.
      elim
      ((Contains-both registered any ranges (λ x. ListsRange r name x ⊎ IsByReference r name x)
      (IsAnyRange r name) is first second range).0 has) [
        | inl early ↦ elim early [ inl listed ↦ inl listed | inr belongs ↦ inr (inl belongs) ]
        | inr late ↦ inr (inr late)
      ],
  λ holds. (Contains-both registered any ranges (λ x. ListsRange r name x ⊎ IsByReference r name x)
      (IsAnyRange r name) is first second range).1 (elim holds [
        | inl listed ↦ inl (inl listed)
        | inr other ↦ elim other [ inl belongs ↦ inl (inr belongs) | inr late ↦ inr late ]
      ]),
)
