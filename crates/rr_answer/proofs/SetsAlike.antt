-- Sets have the same members in registries that are seen alike.
use Rattle.std.proofs.Common.{◌≡◌, ℕ, List, [], ◌∷◌, inl, inr, refl, sym, ap, subst, ◌∙◌}
use Rattle.std.specs.Prelude.{Contains, IsTrue, Option, None, Some, is_some, ◌||◌}
use Rattle.std.specs.FinMap.{get}
use Rattle.std.specs.Option.{option_map}
use Rattle.std.specs.Str.{bytes_eq}
use Rattle.rr_graph.specs.Chain.{MoreThan}
use Rattle.rr_number.specs.AnySets.{as_any, rs_any}
use Rattle.rr_number.specs.Applied.{applied}
use Rattle.rr_number.specs.Ranges.{RangeParts}
use Rattle.rr_number.specs.SetNames.{kind_of}
use Rattle.rr_number.specs.declared.operator.Operator.{Operator}
use Rattle.rr_number.specs.declared.set_kind.SetKind.{SetKind}
use Rattle.rr_number.specs.declared.set_kind.SetKind.TheVariants as kinds
use Rattle.rr_object.specs.declared.key.Key.TheVariants.{AutNum, AsSet, Route, RouteSet}
use Rattle.rr_object.specs.declared.member.MemberSet.{MemberSet}
use Rattle.rr_object.specs.declared.member.MemberSet.TheVariants as set
use Rattle.rr_object.specs.declared.member.Member.TheVariants as member
use Rattle.rr_object.specs.Keys.{key_of_kind}
use Rattle.rr_object.specs.Objects.{Obj}
use Rattle.rr_object.specs.Parts.{ByRefParts}
use Rattle.rr_auth.specs.Registries.{Reg}
use Rattle.rr_sets.specs.AsSets.{BelongsTo, InAsSet, IsAnyNumber, IsDirect, IsMissing, IsReachedSet}
use Rattle.rr_sets.specs.AsSets.{ListsNumber, ListsSet, has_as_set}
use Rattle.rr_sets.specs.RouteSets.{AsSetRefers, HasRange, HasTooMany, InRouteSet, IsAnyRange}
use Rattle.rr_sets.specs.RouteSets.{IsByReference, IsMissingName, IsOriginated, IsRangeTaken}
use Rattle.rr_sets.specs.RouteSets.{ListsRange, Refers, RefersAs, RouteSetRefers, has_set}
use Rattle.rr_sets.specs.RouteSets.{registered_set}
use Rattle.rr_sets.specs.SetObjects.{takes}
use Rattle.rr_answer.proofs.Alike.{Alike, other_object}
use Rattle.rr_answer.proofs.Seen.{seen}
use Rattle.rr_answer.proofs.Weaker.{found_on, more_on, named_on, reached_on, too_many_on}

-- objects that are seen alike have the same members, sets and maintainers
members_alike : (o x : Obj) → seen o ≡ seen x → o.members ≡ x.members
members_alike o x e = ap (λ y. y.members) e

member_of_alike : (o x : Obj) → seen o ≡ seen x → o.member_of ≡ x.member_of
member_of_alike o x e = ap (λ y. y.member_of) e

by_ref_alike : (o x : Obj) → seen o ≡ seen x → o.by_ref ≡ x.by_ref
by_ref_alike o x e = ap (λ y. y.by_ref) e

-- a set takes the word of objects that are seen alike
takes_alike : (a b : ByRefParts) (o x : Obj) → a ≡ b → seen o ≡ seen x → IsTrue (takes a o) →
    IsTrue (takes b x)
takes_alike a b o x p e h = subst (λ c. IsTrue (takes c x)) p
    (subst (λ (y : Obj). IsTrue (takes a y)) e h)

registered_alike : (a b : Option Obj) → option_map seen a ≡ option_map seen b →
    is_some a ≡ is_some b
registered_alike None None e = refl
registered_alike None (Some y) e = cc
registered_alike (Some x) None e = cc
registered_alike (Some x) (Some y) e = refl

module _ (r s : Reg) (alike : Alike r s) where
  pub has_as_set_alike : (name : List ℕ) → has_as_set r name ≡ has_as_set s name
  has_as_set_alike name = ap (λ b. b || bytes_eq name as_any)
      (registered_alike (get r (AsSet name)) (get s (AsSet name)) (alike.at (AsSet name)))

  pub has_set_alike : (name : List ℕ) → has_set r name ≡ has_set s name
  has_set_alike name =
      ap (λ b. b || (bytes_eq name as_any || bytes_eq name rs_any))
      (registered_alike (registered_set r name) (registered_set s name)
      (alike.at (key_of_kind (kind_of name) name)))

  lists_set_on : (name listed : List ℕ) → ListsSet r name listed → ListsSet s name listed
  lists_set_on name listed h =
      let other = other_object r s (AsSet name) h.0 alike h.1 in (
        other.0,
        other.1,
        (h.2.0, subst (λ ms. Contains ms h.2.0) (members_alike h.0 other.0 other.2) h.2.1, h.2.2),
      )

  lists_number_on : (name : List ℕ) (n : ℕ) → ListsNumber r name n → ListsNumber s name n
  lists_number_on name n h =
      let other = other_object r s (AsSet name) h.0 alike h.1 in (
        other.0,
        other.1,
        (h.2.0, subst (λ ms. Contains ms h.2.0) (members_alike h.0 other.0 other.2) h.2.1, h.2.2),
      )

  belongs_on : (name : List ℕ) (n : ℕ) → BelongsTo r name n → BelongsTo s name n
  belongs_on name n h =
      let other = other_object r s (AsSet name) h.0 alike h.1 in
      let number = other_object r s (AutNum n) h.2.0 alike h.2.1 in (
        other.0,
        other.1,
        (
          number.0,
          number.1,
          subst (λ sets. Contains sets name) (member_of_alike h.2.0 number.0 number.2) h.2.2,
          takes_alike h.0.by_ref other.0.by_ref h.2.0 number.0 (by_ref_alike h.0 other.0 other.2)
              number.2 h.2.3,
        ),
      )

  any_number_on : (name : List ℕ) (n : ℕ) → IsAnyNumber r name n → IsAnyNumber s name n
  any_number_on name n h = let number = other_object r s (AutNum n) h.1.0 alike h.1.1 in
      (h.0, (number.0, number.1))

  direct_on : (name : List ℕ) (n : ℕ) → IsDirect r name n → IsDirect s name n
  direct_on name n (inl h) = inl (lists_number_on name n h)
  direct_on name n (inr (inl h)) = inr (inl (belongs_on name n h))
  direct_on name n (inr (inr h)) = inr (inr (any_number_on name n h))

  pub reached_set_on : (start name : List ℕ) → IsReachedSet r start name → IsReachedSet s start name
  reached_set_on start name h = reached_on (ListsSet r) (ListsSet s) lists_set_on (start ∷ []) name
      h

  pub in_as_set_on : (start : List ℕ) (n : ℕ) → InAsSet r start n → InAsSet s start n
  in_as_set_on start n h = (h.0, reached_set_on start h.0 h.1, direct_on h.0 n h.2)

  pub missing_on : (start name : List ℕ) → IsMissing r start name → IsMissing s start name
  missing_on start name h = (reached_set_on start name h.0, sym (has_as_set_alike name) ∙ h.1)

  pub many_sets_on : (limit : ℕ) (start : List ℕ) → MoreThan limit (IsReachedSet r start) →
      MoreThan limit (IsReachedSet s start)
  many_sets_on limit start h = more_on (IsReachedSet r start) (IsReachedSet s start)
      (reached_set_on start) limit h

  as_set_refers_on : (name : List ℕ) (other : MemberSet) (operator : Operator) →
      AsSetRefers r name other operator → AsSetRefers s name other operator
  as_set_refers_on name (set.AutNum n) operator h = (direct_on name n h.0, h.1)
  as_set_refers_on name (set.Set listed) operator h = (lists_set_on name listed h.0, h.1)

  route_set_refers_on : (name : List ℕ) (other : MemberSet) (operator : Operator) →
      RouteSetRefers r name other operator → RouteSetRefers s name other operator
  route_set_refers_on name other operator h =
      let found = other_object r s (RouteSet name) h.0 alike h.1 in (
        found.0,
        found.1,
        subst (λ ms. Contains ms (member.Set other operator))
            (members_alike h.0 found.0 found.2) h.2,
      )

  refers_as_on : (kind : SetKind) (name : List ℕ) (other : MemberSet) (operator : Operator) →
      RefersAs kind r name other operator → RefersAs kind s name other operator
  refers_as_on kinds.AsSet name other operator h = as_set_refers_on name other operator h
  refers_as_on kinds.RouteSet name other operator h = route_set_refers_on name other operator h

  refers_on : (a b : MemberSet) (operator : Operator) → Refers r a b operator →
      Refers s a b operator
  refers_on (set.AutNum n) b operator h = h
  refers_on (set.Set name) b operator h = refers_as_on (kind_of name) name b operator h

  originated_on : (n : ℕ) (range : RangeParts) → IsOriginated r n range → IsOriginated s n range
  originated_on n range h = let found = other_object r s (Route h.0 n) h.1 alike h.2 in
      (h.0, found.0, found.1, h.3)

  lists_range_on : (name : List ℕ) (range : RangeParts) → ListsRange r name range →
      ListsRange s name range
  lists_range_on name range h =
      let found = other_object r s (key_of_kind (kind_of name) name) h.0 alike h.1 in (
        found.0,
        found.1,
        subst (λ ms. Contains ms (member.Range range))
            (members_alike h.0 found.0 found.2) h.2,
      )

  taken_on : (a b : ByRefParts) (name : List ℕ) (range : RangeParts) → a ≡ b →
      IsRangeTaken r a name range → IsRangeTaken s b name range
  taken_on a b name range same h =
      let found = other_object r s (Route h.0 h.1) h.2 alike h.3 in (
        h.0,
        h.1,
        found.0,
        found.1,
        subst (λ sets. Contains sets name) (member_of_alike h.2 found.0 found.2) h.4,
        takes_alike a b h.2 found.0 same found.2 h.5,
        h.6,
      )

  by_reference_on : (name : List ℕ) (range : RangeParts) → IsByReference r name range →
      IsByReference s name range
  by_reference_on name range h =
      let found = other_object r s (key_of_kind (kind_of name) name) h.0 alike h.1 in (
        found.0,
        found.1,
        taken_on h.0.by_ref found.0.by_ref name range
            (by_ref_alike h.0 found.0 found.2) h.2,
      )

  any_range_on : (name : List ℕ) (range : RangeParts) → IsAnyRange r name range →
      IsAnyRange s name range
  any_range_on name range h = (h.0, (h.1.0, originated_on h.1.0 range h.1.1))

  has_range_on : (a : MemberSet) (range : RangeParts) → HasRange r a range → HasRange s a range
  has_range_on (set.AutNum n) range h = originated_on n range h
  has_range_on (set.Set name) range (inl h) = inl (lists_range_on name range h)
  has_range_on (set.Set name) range (inr (inl h)) = inr (inl (by_reference_on name range h))
  has_range_on (set.Set name) range (inr (inr h)) = inr (inr (any_range_on name range h))

  pub in_route_set_on : (start : List ℕ) (range : RangeParts) → InRouteSet r start range →
      InRouteSet s start range
  in_route_set_on start range h = found_on (Refers r) (Refers s) refers_on (HasRange r)
      (HasRange s) has_range_on applied (set.Set start) range h

  pub missing_name_on : (start name : List ℕ) → IsMissingName r start name → IsMissingName s start
      name
  missing_name_on start name h = (
    named_on (Refers r) (Refers s) refers_on (set.Set start) (set.Set name) h.0,
    sym (has_set_alike name) ∙ h.1,
  )

  pub many_ranges_on : (limit : ℕ) (start : List ℕ) → HasTooMany r limit start →
      HasTooMany s limit start
  many_ranges_on limit start h = too_many_on (Refers r) (Refers s) refers_on (HasRange r)
      (HasRange s) has_range_on applied limit (set.Set start) h
