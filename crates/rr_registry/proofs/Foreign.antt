-- A foreign item leaves what is held: about what is held it is refused, and about other things it
-- is aside.
use Rattle.std.proofs.Common.{◌≡◌, ◌≤◌, ℕ, Bool, true, false, not, ◌&&◌, List, refl, sym, ap, ◌∙◌}
use Rattle.std.specs.Prelude.{Option, None, Some, is_some, if◌then◌else◌}
use Rattle.std.specs.List.{list_any}
use Rattle.std.specs.Option.{option_map_or, option_and_then}
use Rattle.std.specs.FinMap.{get, values}
use Rattle.rr_number.specs.Parents.{parent_of}
use Rattle.rr_number.specs.Prefixes.{PrefixParts, span_of}
use Rattle.rr_number.specs.Spans.{Ends, covers}
use Rattle.rr_number.specs.declared.set_kind.SetKind.{SetKind}
use Rattle.rr_number.specs.declared.set_kind.SetKind.TheVariants as kinds
use Rattle.rr_number.specs.declared.set_name.parent.Parent.{Parent}
use Rattle.rr_object.specs.declared.code.Code.TheVariants.{E10, E11, E12, E13, E14, E15, E16, E18}
use Rattle.rr_object.specs.declared.key.Key.{Key}
use Rattle.rr_object.specs.declared.key.Key.TheVariants.{Mntner, AsBlock, AutNum, Inetnum, Route}
use Rattle.rr_object.specs.declared.key.Key.TheVariants.{AsSet, RouteSet}
use Rattle.rr_object.specs.KeyOrders.{IsKeyValue}
use Rattle.rr_object.specs.Keys.{key_of_kind}
use Rattle.rr_object.specs.Objects.{Obj}
use Rattle.rr_auth.specs.declared.item.Item.{Item}
use Rattle.rr_auth.specs.declared.item.Item.TheVariants.{Submit, Delete as DeleteItem}
use Rattle.rr_auth.specs.declared.verdict.Verdict.{Verdict}
use Rattle.rr_auth.specs.declared.verdict.Verdict.TheVariants.{Add}
use Rattle.rr_auth.specs.Authority.{lower_passes, routes_pass}
use Rattle.rr_auth.specs.Closest.{closest_inetnum, is_closest, route_span}
use Rattle.rr_auth.specs.Conditions.{names_unknown, unauthorised, is_uncovered, cover_refuses}
use Rattle.rr_auth.specs.Conditions.{lacks_origin, origin_refuses, crosses_registered}
use Rattle.rr_auth.specs.Laws.{IsItem, IsRefusal, key_about}
use Rattle.rr_auth.specs.Passing.{names_pass}
use Rattle.rr_auth.specs.Registries.{Reg, Sound, seen_by}
use Rattle.rr_auth.specs.SetParents.{parent_key, parent_object, parent_refuses}
use Rattle.rr_auth.specs.Verdicts.{addition, after, deletion, by_place, step, submission, verdict}
use Rattle.rr_auth.proofs.Covers.{closest_said}
use Rattle.rr_auth.specs.Elements.{IsIn}
use Rattle.rr_auth.proofs.Members.{all_fail, stands_at}
use Rattle.rr_auth.proofs.Refusing.{change_refused, deletion_refused, refused_if, refused_now}
use Rattle.rr_auth.proofs.RouteSpace.{routes_ask_the_closest}
use Rattle.rr_registry.specs.Holdings.{Agree, Holding, IsHeld, is_foreign, is_held, is_mntner}
use Rattle.rr_registry.specs.Holdings.{is_under, space_of}
use Rattle.rr_registry.specs.ConfinementLaws.{IsLeft}
use Rattle.rr_registry.proofs.Agreeing.{aside, held_alike}
use Rattle.rr_registry.proofs.Holders.{holders_fail, lower_fails, maintainers_theirs}
use Rattle.rr_registry.proofs.Holders.{route_names_fail}
use Rattle.rr_registry.proofs.Sets.{has_parent, parent_held, parent_no_mntner}
use Rattle.rr_registry.proofs.Space.{inetnum_inside, inetnum_theirs, route_covers, route_inside}
use Rattle.rr_registry.proofs.Space.{route_theirs, theirs_of_key}

-- a new object that the space above it refuses is refused
place_refused : (r : Reg) (secrets : List (List ℕ)) (k : Key) → cover_refuses r secrets k ≡ true →
    IsRefusal (by_place r secrets k)
place_refused r secrets k e =
    refused_if (crosses_registered r k) E16 _ (
    refused_if (lacks_origin r k) E14 _ (
    refused_if (origin_refuses r secrets k) E15 _ (
    refused_if (is_uncovered r k) E12 _ (
    refused_now (cover_refuses r secrets k) E13 Add e))))

addition_refused : (r : Reg) (secrets : List (List ℕ)) (o : Obj) → cover_refuses r secrets o.key
    ≡ true → IsRefusal (addition r secrets o)
addition_refused r secrets o e =
    refused_if (names_unknown (seen_by (Some o) r) o) E10 _ (
    refused_if (unauthorised (seen_by (Some o) r) secrets o) E11 _
    (place_refused r secrets o.key e))

-- a refusal leaves the registry
left_by_refusal : (h : Holding) (r : Reg) (v : Verdict) (i : Item) → IsRefusal v →
    Agree h r (after v r i)
left_by_refusal h r v i e k f = ap (λ w. get (after w r i) k) (sym e.is)

absent : {A : Type 0} (o : Option A) → is_some o ≡ true → o ≡ None → ⊥
absent None e f = cc
absent (Some x) e f = cc

module _ (h : Holding) (r : Reg) (secrets : List (List ℕ)) (sound : Sound r) (held : IsHeld h r)
    (foreign : is_foreign h r secrets ≡ true) where
  -- the closest inetnum of a span inside the prefix refuses
  inetnum_refuses : (s : Ends) → s.first ≤ s.last → covers (space_of h) s ≡ true →
      cover_refuses r secrets (Inetnum s) ≡ true
  inetnum_refuses s ordered inside =
      let one = inetnum_inside h r sound held s ordered inside in
      let c = one.1.1.0 in
      ap (λ v. not (option_map_or (lower_passes r secrets) v false)) one.1.0
      ∙ ap not (lower_fails h r secrets one.0 foreign (inetnum_theirs h r held one.0 c.span c.there
      c.class_is one.1.1.1))

  -- no closest route passes
  route_fails : (p : PrefixParts) (x : Obj) (b : Bool) → covers (space_of h) (span_of p) ≡ true →
      IsIn x (values r) → is_closest route_span (values r) (span_of p) x ≡ b
      → (b && routes_pass r secrets p x) ≡ false
  route_fails p x false inside i e = refl
  route_fails p x true inside i e =
      let there = stands_at r x sound i in
      let c = closest_said route_span r (span_of p) x sound there e in
      route_names_fail h r secrets p x foreign (route_theirs h r held x c.span there c.class_is
      (route_inside h r sound held p x inside c))

  route_refuses : (p : PrefixParts) (n : ℕ) → covers (space_of h) (span_of p) ≡ true →
      cover_refuses r secrets (Route p n) ≡ true
  route_refuses p n inside =
      routes_ask_the_closest r secrets p n sound
      ∙ ap
      (λ b.
      not (if b then list_any (λ x. is_closest route_span (values r) (span_of p) x &&
      routes_pass r secrets p x) (values r) else option_map_or (routes_pass r secrets p)
      (closest_inetnum r (span_of p)) false))
      (route_covers h r sound held p inside)
      ∙ ap not (all_fail (λ x. is_closest route_span (values r) (span_of p) x && routes_pass r
      secrets p x) (values r)
      (λ x i. route_fails p x (is_closest route_span (values r) (span_of p) x) inside i refl))

  parent_stored : (k : Key) (stored : Option Obj) → is_held h k ≡ true → is_mntner k ≡ false →
      get r k ≡ stored → not (option_map_or (lower_passes r secrets) stored false) ≡ true
  parent_stored k None e other f = refl
  parent_stored k (Some x) e other f =
      ap not (lower_fails h r secrets x foreign (theirs_of_key h r held k x other e f))

  parent_known : (kind : SetKind) (name : List ℕ) (parent : Parent) (key : Option Key) →
      ((name : List ℕ) → is_held h (key_of_kind kind name) ≡ is_under h name)
      → ((name : List ℕ) → is_mntner (key_of_kind kind name) ≡ false) → is_under h name ≡ true →
      parent_of name ≡ Some parent → parent_key kind parent ≡ key
      → not (option_map_or (lower_passes r secrets) (option_and_then (get r) key) false) ≡ true
  parent_known kind name parent None of_sets no_mntners under has e = refl
  parent_known kind name parent (Some k) of_sets no_mntners under has e =
      parent_stored k (get r k) (parent_held h kind name parent k of_sets under has e)
      (parent_no_mntner kind parent k no_mntners e) refl

  set_refuses : (kind : SetKind) (name : List ℕ) →
      ((name : List ℕ) → is_held h (key_of_kind kind name) ≡ is_under h name)
      → ((name : List ℕ) → is_mntner (key_of_kind kind name) ≡ false) → is_under h name ≡ true →
      parent_refuses r secrets kind name ≡ true
  set_refuses kind name of_sets no_mntners under =
      let parent = has_parent h name under in
      ap
      (λ v.
      option_map_or
      (λ parent. not (option_map_or (lower_passes r secrets) (parent_object r kind parent)
      false)) v false) parent.1
      ∙ parent_known kind name parent.0 (parent_key kind parent.0) of_sets no_mntners under
      parent.1 refl

  -- a new object under a key that is held is refused by what covers it
  new_refused : (k : Key) → is_held h k ≡ true → IsKeyValue k → get r k ≡ None →
      cover_refuses r secrets k ≡ true
  new_refused (Mntner name) e formed f =
      absurd (absent (get r (Mntner name)) (held.registered name e) f)
  new_refused (AsBlock s) e formed f = cc
  new_refused (AutNum n) e formed f = absurd (absent (get r (AutNum n)) (held.numbered n e) f)
  new_refused (Inetnum s) e formed f = inetnum_refuses s formed.ordered e
  new_refused (Route p n) e formed f = route_refuses p n e
  new_refused (AsSet name) e formed f = set_refuses kinds.AsSet name (λ n. refl) (λ n. refl) e
  new_refused (RouteSet name) e formed f = set_refuses kinds.RouteSet name (λ n. refl) (λ n. refl) e

  -- what stands under a key that is held passes for nobody else
  stored_fails : (k : Key) (o : Obj) → is_held h k ≡ true → get r k ≡ Some o → names_pass r secrets
      o.maintainers ≡ false
  stored_fails k o e f = holders_fail h r secrets o.maintainers foreign
      (maintainers_theirs h k o (held.theirs k o e f))

  submission_refused : (o : Obj) → is_held h o.key ≡ true → IsKeyValue o.key →
      IsRefusal (verdict r secrets (Submit o))
  submission_refused o e formed =
      elim (get r o.key) as (λ stored. get r o.key ≡ stored →
      IsRefusal (submission stored r secrets o)) [
        | None ↦ λ f. addition_refused r secrets o (new_refused o.key e formed f)
        | Some stored ↦ λ f. change_refused r secrets stored o (stored_fails o.key stored e f)
      ] refl

  deletion_of_held : (k : Key) → is_held h k ≡ true → IsRefusal (verdict r secrets (DeleteItem k))
  deletion_of_held k e =
      elim (get r k) as (λ stored. get r k ≡ stored → IsRefusal (deletion stored r secrets k)) [
        | None ↦ λ f. record { code = E18; is = refl }
        | Some stored ↦ λ f. deletion_refused r secrets k stored (stored_fails k stored e f)
      ] refl

  about_held : (i : Item) → is_held h (key_about i) ≡ true → IsItem i →
      IsRefusal (verdict r secrets i)
  about_held (Submit o) e formed = submission_refused o e formed
  about_held (DeleteItem k) e formed = deletion_of_held k e

  foreign_agrees : (i : Item) → IsItem i → Agree h r (step r secrets i)
  foreign_agrees i formed =
      elim (is_held h (key_about i)) as (λ b. is_held h (key_about i) ≡ b →
      Agree h r (step r secrets i)) [
        | true ↦ λ e. left_by_refusal h r (verdict r secrets i) i (about_held i e formed)
        | false ↦ λ e. aside h r (verdict r secrets i) i e
      ] refl

-- a foreign item leaves what is held
pub foreign_items_leave : (h : Holding) (r : Reg) (secrets : List (List ℕ)) (i : Item) → Sound r →
    IsHeld h r → IsItem i → is_foreign h r secrets ≡ true → IsLeft h r (step r secrets i)
foreign_items_leave h r secrets i sound held formed foreign =
    let agree = foreign_agrees h r secrets sound held foreign i formed in
    record { agree = agree; held = held_alike h r (step r secrets i) held agree }
