-- An item of the holders' own is judged alike in registries that agree on what is held.
-- A verdict is the first of some conditions, E10 to E17, and each is shown alike in both
-- registries. Most of them split by the seven classes of key; crossings and routes go one way, and
-- back by symmetry. That what they ask for is held is given by hand. The law
-- `own_items_are_judged_alike` and `Confined` need it.
use Rattle.std.proofs.Common.{◌≡◌, ◌≤◌, ℕ, true, false, cond, not, ◌&&◌, List, [], ◌∷◌, refl, sym}
use Rattle.std.proofs.Common.{ap, ◌∙◌}
use Rattle.std.specs.Prelude.{Option, None, Some, is_none, if◌then◌else◌}
use Rattle.std.specs.List.{list_any, list_all}
use Rattle.std.specs.Option.{option_map_or, option_and_then}
use Rattle.std.specs.FinMap.{get, values}
use Rattle.std.proofs.lemmas.Bool.{and_from, and_parts}
use Rattle.rr_number.specs.Parents.{parent_of}
use Rattle.rr_number.specs.Prefixes.{PrefixParts, span_of}
use Rattle.rr_number.specs.Spans.{Ends, covers, crosses}
use Rattle.rr_number.specs.declared.set_kind.SetKind.{SetKind}
use Rattle.rr_number.specs.declared.set_kind.SetKind.TheVariants as kinds
use Rattle.rr_number.specs.declared.set_name.parent.Parent.{Parent}
use Rattle.rr_text.specs.Fields.{fields_eq}
use Rattle.rr_object.specs.declared.code.Code.TheVariants.{E10, E11, E12, E13, E14, E15, E16, E17}
use Rattle.rr_object.specs.declared.key.Key.{Key}
use Rattle.rr_object.specs.declared.key.Key.TheVariants.{Mntner, AsBlock, AutNum, Inetnum, Route}
use Rattle.rr_object.specs.declared.key.Key.TheVariants.{AsSet, RouteSet}
use Rattle.rr_object.specs.KeyOrders.{IsKeyValue}
use Rattle.rr_object.specs.Keys.{key_of_kind}
use Rattle.rr_object.specs.Objects.{Obj, names_of}
use Rattle.rr_auth.specs.declared.item.Item.{Item}
use Rattle.rr_auth.specs.declared.item.Item.TheVariants.{Submit, Delete as DeleteItem}
use Rattle.rr_auth.specs.declared.verdict.Verdict.TheVariants.{Add, Change, Unchanged, Delete}
use Rattle.rr_auth.specs.Authority.{lower_passes, routes_pass}
use Rattle.rr_auth.specs.Closest.{closest_inetnum, is_closest, route_span}
use Rattle.rr_auth.specs.Conditions.{names_unknown, unauthorised, is_uncovered, cover_refuses}
use Rattle.rr_auth.specs.Conditions.{lacks_origin, origin_refuses, crosses_registered, is_in_use}
use Rattle.rr_auth.specs.Laws.{IsItem}
use Rattle.rr_auth.specs.Registries.{Reg, Sound, keys_cross, seen_by, with_mntner}
use Rattle.rr_auth.specs.SetParents.{parent_key, parent_object}
use Rattle.rr_auth.specs.Verdicts.{addition, after, change, deletion, first_of, by_place}
use Rattle.rr_auth.specs.Verdicts.{submission}
use Rattle.rr_auth.specs.Verdicts.{verdict}
use Rattle.rr_auth.proofs.Covers.{closest_passes, closest_said}
use Rattle.rr_auth.proofs.Crossing.{keys_cross_back}
use Rattle.rr_auth.proofs.Members.{all_fail, both_or_none, found_in, passing_one, some_passes}
use Rattle.rr_auth.proofs.Members.{stands_at}
use Rattle.rr_auth.proofs.RouteSpace.{prefix_ordered, routes_ask_the_closest}
use Rattle.rr_registry.specs.Holdings.{Agree, Holding, IsHeld, has_number, is_held, is_holder}
use Rattle.rr_registry.specs.Holdings.{is_mntner, is_own, is_under, is_within, space_of}
use Rattle.rr_registry.specs.ConfinementLaws.{IsAlike}
use Rattle.rr_registry.proofs.Agreeing.{after_alike, agree_back}
use Rattle.rr_registry.proofs.Holders.{holders_known, lower_alike, maintainers_theirs}
use Rattle.rr_registry.proofs.Holders.{names_theirs, passes_alike, route_names_alike}
use Rattle.rr_registry.proofs.Kept.{kept_after}
use Rattle.rr_registry.proofs.Sets.{parent_held, parent_no_mntner}
use Rattle.rr_registry.proofs.Space.{crosser_inside, inetnum_alike, inetnum_clear}
use Rattle.rr_registry.proofs.Space.{inetnum_inside, inetnum_theirs, route_carried, route_covers}
use Rattle.rr_registry.proofs.Space.{route_inside, route_theirs, routes_alike, theirs_of_key}

-- what is within the prefix is held, and is no mntner
within_held : (h : Holding) (k : Key) → is_within h k ≡ true → is_held h k ≡ true
within_held h (Mntner name) e = cc
within_held h (AsBlock s) e = cc
within_held h (AutNum n) e = cc
within_held h (Inetnum s) e = e
within_held h (Route p n) e = (and_parts _ _ e).0
within_held h (AsSet name) e = e
within_held h (RouteSet name) e = e

-- an object that is no mntner is judged in the registry as it is
unseen : (h : Holding) (r : Reg) (k : Key) (o : Obj) → is_within h k ≡ true → with_mntner r k o ≡ r
unseen h r (Mntner name) o e = cc
unseen h r (AsBlock s) o e = refl
unseen h r (AutNum n) o e = refl
unseen h r (Inetnum s) o e = refl
unseen h r (Route p n) o e = refl
unseen h r (AsSet name) o e = refl
unseen h r (RouteSet name) o e = refl

-- what crosses an inetnum is an inetnum
crosser : (k : Key) (s : Ends) → keys_cross k (Inetnum s) ≡ true → (t : Ends)
    × ((k ≡ Inetnum t) × (crosses t s ≡ true))
crosser (Inetnum t) s e = (t, (refl, e))
crosser (Mntner n) s e = cc
crosser (AsBlock t) s e = cc
crosser (AutNum n) s e = cc
crosser (Route p n) s e = cc
crosser (AsSet n) s e = cc
crosser (RouteSet n) s e = cc

-- an inetnum inside the prefix is crossed in one registry only by what crosses it in the other
crossed_too : (h : Holding) (r q : Reg) (s : Ends) → Sound r → IsHeld h r → Agree h r q →
    covers (space_of h) s ≡ true
    → crosses_registered r (Inetnum s) ≡ true → crosses_registered q (Inetnum s) ≡ true
crossed_too h r q s sound held agree inside e =
    let one = passing_one (λ x. keys_cross x.key (Inetnum s)) (values r) e in
    let other = crosser one.0.key s one.1.1 in
    let there : get r (Inetnum other.0) ≡ Some one.0 = ap (λ k. get r k) (sym other.1.0)
    ∙ stands_at r one.0 sound one.1.0 in
    let within : is_held h (Inetnum other.0) ≡ true =
    crosser_inside (space_of h) s other.0 inside other.1.1
    (inetnum_clear h r sound held other.0 one.0 there) in
    let too : get q (Inetnum other.0) ≡ Some one.0 = sym (agree (Inetnum other.0) within) ∙ there in
    some_passes (λ x. keys_cross x.key (Inetnum s)) one.0 (values q)
    (found_in q (Inetnum other.0) one.0 too) one.1.1

-- nothing crosses a key that crosses nothing
uncrossed : (r : Reg) (k : Key) → ((l : Key) → keys_cross k l ≡ false) → crosses_registered r k
    ≡ false
uncrossed r k alone = all_fail (λ x. keys_cross x.key k) (values r) (λ x i. keys_cross_back x.key k
    ∙ alone x.key)

module _ (h : Holding) (r q : Reg) (secrets : List (List ℕ)) (sound : Sound r) (sound_q : Sound q)
    (held : IsHeld h r) (held_q : IsHeld h q) (agree : Agree h r q) where
  crossed_alike : (k : Key) → is_within h k ≡ true → crosses_registered r k ≡ crosses_registered q k
  crossed_alike (Inetnum s) e =
      both_or_none _ _ (crossed_too h r q s sound held agree e)
      (crossed_too h q r s sound_q held_q (agree_back h r q agree) e)
  crossed_alike (Route p n) e = uncrossed r (Route p n) (λ l. refl)
      ∙ sym (uncrossed q (Route p n) (λ l. refl))
  crossed_alike (AsSet name) e = uncrossed r (AsSet name) (λ l. refl)
      ∙ sym (uncrossed q (AsSet name) (λ l. refl))
  crossed_alike (RouteSet name) e = uncrossed r (RouteSet name) (λ l. refl)
      ∙ sym (uncrossed q (RouteSet name) (λ l. refl))
  crossed_alike (Mntner name) e = cc
  crossed_alike (AsBlock s) e = cc
  crossed_alike (AutNum n) e = cc

  lacks_alike : (k : Key) → is_within h k ≡ true → lacks_origin r k ≡ lacks_origin q k
  lacks_alike (Route p n) e = ap is_none (agree (AutNum n) (and_parts _ _ e).1)
  lacks_alike (Inetnum s) e = refl
  lacks_alike (AsSet name) e = refl
  lacks_alike (RouteSet name) e = refl
  lacks_alike (Mntner name) e = refl
  lacks_alike (AsBlock s) e = refl
  lacks_alike (AutNum n) e = refl

  origin_asked : (p : PrefixParts) (n : ℕ) (stored : Option Obj) → has_number h n ≡ true →
      get r (AutNum n) ≡ stored
      → option_map_or (routes_pass r secrets p) stored false ≡ option_map_or
      (routes_pass q secrets p) stored false
  origin_asked p n None e f = refl
  origin_asked p n (Some x) e f = route_names_alike h r q secrets p x agree
      (theirs_of_key h r held (AutNum n) x refl e f)

  origin_alike : (k : Key) → is_within h k ≡ true → origin_refuses r secrets k ≡ origin_refuses q
      secrets k
  origin_alike (Route p n) e =
      let numbered = (and_parts _ _ e).1 in
      ap not (origin_asked p n (get r (AutNum n)) numbered refl)
      ∙ ap (λ v. not (option_map_or (routes_pass q secrets p) v false))
      (agree (AutNum n) numbered)
  origin_alike (Inetnum s) e = refl
  origin_alike (AsSet name) e = refl
  origin_alike (RouteSet name) e = refl
  origin_alike (Mntner name) e = refl
  origin_alike (AsBlock s) e = refl
  origin_alike (AutNum n) e = refl

  -- the parent of a set under an AS of the holders
  module _ (kind : SetKind) (of_sets : (name : List ℕ) → is_held h (key_of_kind kind name)
      ≡ is_under h name) (no_mntners : (name : List ℕ) → is_mntner (key_of_kind kind name)
      ≡ false) where
    parent_stored : (name : List ℕ) (parent : Parent) (key : Option Key) → is_under h name ≡ true →
        parent_of name ≡ Some parent → parent_key kind parent ≡ key
        → option_and_then (get r) key ≡ option_and_then (get q) key
    parent_stored name parent None under has e = refl
    parent_stored name parent (Some k) under has e =
        agree k (parent_held h kind name parent k of_sets under has e)

    lacked_alike : (name : List ℕ) (parent : Option Parent) → is_under h name ≡ true →
        parent_of name ≡ parent
        → option_map_or (λ parent. is_none (parent_object r kind parent)) parent false
        ≡ option_map_or (λ parent. is_none (parent_object q kind parent)) parent false
    lacked_alike name None under has = refl
    lacked_alike name (Some parent) under has =
        ap is_none (parent_stored name parent (parent_key kind parent) under has refl)

    parent_asked : (k : Key) (stored : Option Obj) → is_held h k ≡ true → is_mntner k ≡ false →
        get r k ≡ stored
        → option_map_or (lower_passes r secrets) stored false ≡ option_map_or
        (lower_passes q secrets) stored false
    parent_asked k None e other f = refl
    parent_asked k (Some x) e other f = lower_alike h r q secrets x agree
        (theirs_of_key h r held k x other e f)

    parent_says : (name : List ℕ) (parent : Parent) (key : Option Key) → is_under h name ≡ true →
        parent_of name ≡ Some parent → parent_key kind parent ≡ key
        → option_map_or (lower_passes r secrets) (option_and_then (get r) key) false
        ≡ option_map_or (lower_passes q secrets) (option_and_then (get q) key) false
    parent_says name parent None under has e = refl
    parent_says name parent (Some k) under has e =
        let in_both = parent_held h kind name parent k of_sets under has e in
        parent_asked k (get r k) in_both (parent_no_mntner kind parent k no_mntners e) refl
        ∙ ap (λ v. option_map_or (lower_passes q secrets) v false) (agree k in_both)

    refused_alike : (name : List ℕ) (parent : Option Parent) → is_under h name ≡ true →
        parent_of name ≡ parent
        →
        option_map_or
        (λ parent. not (option_map_or (lower_passes r secrets) (parent_object r kind parent)
        false)) parent false
        ≡ option_map_or
        (λ parent. not (option_map_or (lower_passes q secrets) (parent_object q kind parent)
        false)) parent false
    refused_alike name None under has = refl
    refused_alike name (Some parent) under has =
        ap not (parent_says name parent (parent_key kind parent) under has refl)

  uncovered_alike : (k : Key) → is_within h k ≡ true → IsKeyValue k → is_uncovered r k
      ≡ is_uncovered q k
  uncovered_alike (Inetnum s) e formed = ap is_none (inetnum_alike h r q agree s sound sound_q held
      held_q formed.ordered e)
  uncovered_alike (Route p n) e formed =
      let inside = (and_parts _ _ e).0 in
      let routes = routes_alike h r q agree p sound sound_q held held_q inside in
      let inetnum = inetnum_alike h r q agree (span_of p) sound sound_q held held_q
      (prefix_ordered p) inside in
      λ i. is_none (routes i) && is_none (inetnum i)
  uncovered_alike (AsSet name) e formed = lacked_alike kinds.AsSet (λ n. refl) (λ n. refl) name
      (parent_of name) e refl
  uncovered_alike (RouteSet name) e formed = lacked_alike kinds.RouteSet (λ n. refl) (λ n. refl)
      name (parent_of name) e refl
  uncovered_alike (Mntner name) e formed = cc
  uncovered_alike (AsBlock s) e formed = cc
  uncovered_alike (AutNum n) e formed = cc

  -- the closest inetnum answers alike
  inetnum_says : (s : Ends) → s.first ≤ s.last → covers (space_of h) s ≡ true →
      cover_refuses r secrets (Inetnum s) ≡ cover_refuses q secrets (Inetnum s)
  inetnum_says s ordered inside =
      let one = inetnum_inside h r sound held s ordered inside in
      let c = one.1.1.0 in
      let in_q : closest_inetnum q s ≡ Some one.0 =
      sym (inetnum_alike h r q agree s sound sound_q held held_q ordered inside) ∙ one.1.0 in
      ap (λ v. not (option_map_or (lower_passes r secrets) v false)) one.1.0
      ∙ ap not (lower_alike h r q secrets one.0 agree (inetnum_theirs h r held one.0 c.span c.there
      c.class_is one.1.1.1))
      ∙ sym (ap (λ v. not (option_map_or (lower_passes q secrets) v false)) in_q)

-- a closest route that passes in one registry is closest and passes in the other
route_passes_too : (h : Holding) (r q : Reg) (secrets : List (List ℕ)) → Sound r → Sound q →
    IsHeld h r → IsHeld h q → Agree h r q
    → (p : PrefixParts) → covers (space_of h) (span_of p) ≡ true
    → list_any (λ x. is_closest route_span (values r) (span_of p) x && routes_pass r secrets p x)
    (values r) ≡ true
    → list_any (λ x. is_closest route_span (values q) (span_of p) x && routes_pass q secrets p x)
    (values q) ≡ true
route_passes_too h r q secrets sound sound_q held held_q agree p inside e =
    let one = passing_one (λ x. is_closest route_span (values r) (span_of p) x && routes_pass r
    secrets p x) (values r) e in
    let x = one.0 in
    let parts = and_parts _ _ one.1.1 in
    let c = closest_said route_span r (span_of p) x sound (stands_at r x sound one.1.0) parts.0 in
    let d = route_carried h r q agree p x sound sound_q held held_q inside c in
    let theirs = route_theirs h r held x c.span c.there c.class_is
    (route_inside h r sound held p x inside c) in
    some_passes (λ x. is_closest route_span (values q) (span_of p) x && routes_pass q secrets p x)
    x (values q) (found_in q x.key x d.there)
    (and_from _ _ (closest_passes route_span q (span_of p) x sound_q d)
    (sym (route_names_alike h r q secrets p x agree theirs) ∙ parts.1))

-- what E13 asks of a route inside the prefix
route_asked : (h : Holding) (r : Reg) (secrets : List (List ℕ)) (p : PrefixParts) (n : ℕ) →
    Sound r → IsHeld h r → covers (space_of h) (span_of p) ≡ true
    → cover_refuses r secrets (Route p n)
    ≡ not (list_any (λ x. is_closest route_span (values r) (span_of p) x && routes_pass r
    secrets p x) (values r))
route_asked h r secrets p n sound held inside =
    routes_ask_the_closest r secrets p n sound
    ∙ ap
    (λ b.
    not (if b then list_any (λ x. is_closest route_span (values r) (span_of p) x && routes_pass
    r secrets p x) (values r) else option_map_or (routes_pass r secrets p)
    (closest_inetnum r (span_of p)) false))
    (route_covers h r sound held p inside)

module _ (h : Holding) (r q : Reg) (secrets : List (List ℕ)) (sound : Sound r) (sound_q : Sound q)
    (held : IsHeld h r) (held_q : IsHeld h q) (agree : Agree h r q) where
  route_says : (p : PrefixParts) (n : ℕ) → covers (space_of h) (span_of p) ≡ true →
      cover_refuses r secrets (Route p n) ≡ cover_refuses q secrets (Route p n)
  route_says p n inside =
      route_asked h r secrets p n sound held inside
      ∙ ap not (both_or_none _ _ (route_passes_too h r q secrets sound sound_q held held_q agree p
      inside)
      (route_passes_too h q r secrets sound_q sound held_q held (agree_back h r q agree) p inside))
      ∙ sym (route_asked h q secrets p n sound_q held_q inside)

  cover_says : (k : Key) → is_within h k ≡ true → IsKeyValue k → cover_refuses r secrets k
      ≡ cover_refuses q secrets k
  cover_says (Inetnum s) e formed = inetnum_says h r q secrets sound sound_q held held_q agree s
      formed.ordered e
  cover_says (Route p n) e formed = route_says p n (and_parts _ _ e).0
  cover_says (AsSet name) e formed = refused_alike h r q secrets sound sound_q held held_q agree
      kinds.AsSet (λ n. refl) (λ n. refl) name (parent_of name) e refl
  cover_says (RouteSet name) e formed = refused_alike h r q secrets sound sound_q held held_q agree
      kinds.RouteSet (λ n. refl) (λ n. refl) name (parent_of name) e refl
  cover_says (Mntner name) e formed = cc
  cover_says (AsBlock s) e formed = cc
  cover_says (AutNum n) e formed = cc

  place_alike : (k : Key) → is_within h k ≡ true → IsKeyValue k → by_place r secrets k ≡ by_place q
      secrets k
  place_alike k e formed =
      let sixteen = crossed_alike h r q secrets sound sound_q held held_q agree k e in
      let fourteen = lacks_alike h r q secrets sound sound_q held held_q agree k e in
      let fifteen = origin_alike h r q secrets sound sound_q held held_q agree k e in
      let twelve = uncovered_alike h r q secrets sound sound_q held held_q agree k e formed in
      let thirteen = cover_says k e formed in
      λ i. first_of (
      record { holds = sixteen i; code = E16 } ∷ (
      record { holds = fourteen i; code = E14 } ∷ (
      record { holds = fifteen i; code = E15 } ∷ (
      record { holds = twelve i; code = E12 } ∷ (
      record { holds = thirteen i; code = E13 } ∷ []))))) Add

  -- the names of an own object are known in both
  names_alike : (o : Obj) → list_all (is_holder h) (names_of o) ≡ true → names_unknown r o
      ≡ names_unknown q o
  names_alike o e = holders_known h r (names_of o) held e
      ∙ sym (holders_known h q (names_of o) held_q e)

  addition_alike : (o : Obj) → is_within h o.key ≡ true → list_all (is_holder h) (names_of o)
      ≡ true → IsKeyValue o.key → addition r secrets o ≡ addition q secrets o
  addition_alike o within names formed =
      let seen = unseen h r o.key o within in
      let seen_q = unseen h q o.key o within in
      let ten : names_unknown (seen_by (Some o) r) o ≡ names_unknown (seen_by (Some o) q) o =
      ap (λ t. names_unknown t o) seen ∙ names_alike o names
      ∙ sym (ap (λ t. names_unknown t o) seen_q) in
      let eleven : unauthorised (seen_by (Some o) r) secrets o ≡ unauthorised (seen_by (Some o) q)
      secrets o =
      ap (λ t. unauthorised t secrets o) seen ∙ ap not (passes_alike h r q secrets o.maintainers
      agree (names_theirs h o names).maintainers)
      ∙ sym (ap (λ t. unauthorised t secrets o) seen_q) in
      let rest = place_alike o.key within formed in
      λ i. first_of (record { holds = ten i; code = E10 }
      ∷ (record { holds = eleven i; code = E11 } ∷ [])) (rest i)

  -- the stored mnt-by answers alike
  stored_alike : (k : Key) (o : Obj) → is_held h k ≡ true → get r k ≡ Some o →
      unauthorised r secrets o ≡ unauthorised q secrets o
  stored_alike k o e f =
      ap not (passes_alike h r q secrets o.maintainers agree
      (maintainers_theirs h k o (held.theirs k o e f)))

  change_alike : (stored o : Obj) → unauthorised r secrets stored ≡ unauthorised q secrets stored →
      list_all (is_holder h) (names_of o) ≡ true → change r secrets stored o ≡ change q secrets
      stored o
  change_alike stored o eleven names =
      let ten = names_alike o names in
      λ i. first_of (record { holds = ten i; code = E10 }
      ∷ (record { holds = eleven i; code = E11 } ∷ []))
      (cond (fields_eq stored.paragraph o.paragraph) Unchanged Change)

  submission_alike : (o : Obj) → is_within h o.key ≡ true → list_all (is_holder h) (names_of o)
      ≡ true → IsKeyValue o.key → verdict r secrets (Submit o) ≡ verdict q secrets (Submit o)
  submission_alike o within names formed =
      let in_both = within_held h o.key within in
      elim (get r o.key) as (λ stored. get r o.key ≡ stored → submission stored r secrets o
      ≡ submission stored q secrets o) [
        | None ↦ λ f. addition_alike o within names formed
        | Some stored ↦ λ f. change_alike stored o (stored_alike o.key stored in_both f) names
      ] refl ∙ ap (λ stored. submission stored q secrets o) (agree o.key in_both)

  unused_alike : (k : Key) → is_within h k ≡ true → is_in_use r k ≡ is_in_use q k
  unused_alike (Mntner name) e = cc
  unused_alike (AsBlock s) e = refl
  unused_alike (AutNum n) e = refl
  unused_alike (Inetnum s) e = refl
  unused_alike (Route p n) e = refl
  unused_alike (AsSet name) e = refl
  unused_alike (RouteSet name) e = refl

  deletion_alike : (k : Key) → is_within h k ≡ true → verdict r secrets (DeleteItem k) ≡ verdict q
      secrets (DeleteItem k)
  deletion_alike k within =
      let in_both = within_held h k within in
      elim (get r k) as (λ stored. get r k ≡ stored → deletion stored r secrets k ≡ deletion stored
      q secrets k) [
        | None ↦ λ f. refl
        | Some stored ↦ λ f.
            let eleven = stored_alike k stored in_both f in
            let seventeen = unused_alike k within in
            λ i. first_of (record { holds = eleven i; code = E11 }
            ∷ (record { holds = seventeen i; code = E17 } ∷ [])) Delete
      ] refl ∙ ap (λ stored. deletion stored q secrets k) (agree k in_both)

  own_verdicts : (i : Item) → IsItem i → is_own h i ≡ true → verdict r secrets i ≡ verdict q
      secrets i
  own_verdicts (Submit o) formed own = let parts = and_parts _ _ own in submission_alike o parts.0
      parts.1 formed
  own_verdicts (DeleteItem k) formed own = deletion_alike k (and_parts _ _ own).0

-- an own item is judged alike in registries that agree on what is held
pub own_items_are_alike : (h : Holding) (r q : Reg) (secrets : List (List ℕ)) (i : Item) →
    Sound r → Sound q → IsHeld h r → IsHeld h q → Agree h r q
    → IsItem i → is_own h i ≡ true → IsAlike h r q secrets i
own_items_are_alike h r q secrets i sound sound_q held held_q agree formed own =
    let same = own_verdicts h r q secrets sound sound_q held held_q agree i formed own in
    record {
      verdicts = same;
      agree = λ k e. after_alike h r q (verdict r secrets i) i agree k e
          ∙ ap (λ v. get (after v q i) k) same;
      held = kept_after h r (verdict r secrets i) i held own;
      held_too = kept_after h q (verdict q secrets i) i held_q own;
    }
