-- What the spans of a registry's objects say of its closest objects, and of what crosses a span.
use Rattle.std.proofs.Common.{◌≡◌, Bool, true, false, refl, sym, ap, ◌∙◌}
use Rattle.std.specs.Prelude.{Option, None, Some, is_some}
use Rattle.std.specs.FinMap.{contains_key, get, values}
use Rattle.rr_number.proofs.PrefixSpans.{spans_tell}
use Rattle.rr_number.specs.Prefixes.{IsMasked, PrefixParts, span_of}
use Rattle.rr_number.specs.Spans.{Ends, IsSpan, crosses}
use Rattle.rr_object.specs.declared.key.Key.{Key}
use Rattle.rr_object.specs.declared.key.Key.TheVariants.{AsBlock, AsSet, AutNum, Inetnum, Mntner}
use Rattle.rr_object.specs.declared.key.Key.TheVariants.{Route, RouteSet}
use Rattle.rr_object.specs.Objects.{Obj}
use Rattle.rr_auth.proofs.Covers.{closest_none, closest_there}
use Rattle.rr_auth.proofs.Members.{found_in, none_passes, passing_one, stands_at}
use Rattle.rr_auth.proofs.RouteSpace.{block_key, blocks_exact, blocks_nested, closest_routes_none}
use Rattle.rr_auth.proofs.RouteSpace.{closest_routes_there, inetnum_key, inetnums_exact}
use Rattle.rr_auth.proofs.RouteSpace.{inetnums_nested, route_key}
use Rattle.rr_auth.specs.Closest.{block_span, closest_block, closest_inetnum, closest_route_prefix}
use Rattle.rr_auth.specs.Closest.{inetnum_span, route_prefix, route_span}
use Rattle.rr_auth.specs.Conditions.{crosses_registered as crosses_key}
use Rattle.rr_auth.specs.Registries.{Reg, Sound, keys_cross}
use Rattle.rr_book.proofs.Crossing.{none_crosses}
use Rattle.rr_cover.proofs.Ordered.{crosses_found, crosses_missed}
use Rattle.rr_cover.specs.SpanMaps.{IsClosest, NoneCovers, SpanMap, crosses_some}
use Rattle.rr_index.specs.Private.{IsCrossedByNone, is_crossed}
use Rattle.rr_index.specs.SpanIndexes.{HasSpans}

there_is : {A : Type 0} (v : Option A) → is_some v ≡ true → (x : A) × (v ≡ Some x)
there_is None e = cc
there_is (Some x) e = (x, refl)

same_of : (a b : Bool) → (b ≡ true → a ≡ true) → (b ≡ false → a ≡ false) → a ≡ b
same_of a true f g = f refl
same_of a false f g = g refl

-- no span that is held crosses a key that none in the registry crosses
pub none_crossed : (r : Reg) (inetnums blocks routes : SpanMap (Unit {0})) →
    HasSpans r inetnums blocks routes → (k : Key) → IsCrossedByNone r k → is_crossed inetnums
    blocks k
    ≡ false
none_crossed r inetnums blocks routes has (Mntner n) apart = refl
none_crossed r inetnums blocks routes has (AsBlock s) apart = crosses_missed blocks s (λ t held.
    let one = there_is (get r (AsBlock t)) (sym (has.blocks_are t) ∙ held) in
    apart.apart (AsBlock t) one.0 one.1)
none_crossed r inetnums blocks routes has (AutNum n) apart = refl
none_crossed r inetnums blocks routes has (Inetnum s) apart = crosses_missed inetnums s (λ t held.
    let one = there_is (get r (Inetnum t)) (sym (has.inetnums_are t) ∙ held) in
    apart.apart (Inetnum t) one.0 one.1)
none_crossed r inetnums blocks routes has (Route p n) apart = refl
none_crossed r inetnums blocks routes has (AsSet n) apart = refl
none_crossed r inetnums blocks routes has (RouteSet n) apart = refl

module _ (r : Reg) (inetnums blocks routes : SpanMap (Unit {0})) (sound : Sound r)
    (has : HasSpans r inetnums blocks routes) where
  -- the closest inetnum is the one of the closest span
  pub inetnum_of_closest : (s t : Ends) (v : Unit {0}) → IsSpan s → IsClosest inetnums s t v →
      get r (Inetnum t) ≡ closest_inetnum r s
  inetnum_of_closest s t v is closest =
      let one = there_is (get r (Inetnum t)) (sym (has.inetnums_are t) ∙ ap is_some closest.held) in
      let key = sound.keyed (Inetnum t) one.0 one.1 in
      one.1 ∙ sym (closest_there inetnum_span r s one.0 inetnums_exact sound
      (inetnums_nested r sound) is.ordered (record {
        there = ap (λ k. get r k) key ∙ one.1;
        span = t;
        class_is = ap inetnum_span key;
        covering = closest.above;
        least = λ k x u f of_class over.
            closest.least u
            (has.inetnums_are u ∙ ap is_some
            (ap (λ l. get r l) (sym (inetnum_key k u of_class)) ∙ f)) over;
      }))

  pub no_inetnum : (s : Ends) → NoneCovers inetnums s → None ≡ closest_inetnum r s
  no_inetnum s none = sym (closest_none inetnum_span r s sound (λ k x u f of_class.
      none.none u
      (has.inetnums_are u ∙ ap is_some (ap (λ l. get r l) (sym (inetnum_key k u of_class))
      ∙ f))))

  -- the closest as-block is the one of the closest span
  pub block_of_closest : (s t : Ends) (v : Unit {0}) → IsSpan s → IsClosest blocks s t v →
      get r (AsBlock t) ≡ closest_block r s
  block_of_closest s t v is closest =
      let one = there_is (get r (AsBlock t)) (sym (has.blocks_are t) ∙ ap is_some closest.held) in
      let key = sound.keyed (AsBlock t) one.0 one.1 in
      one.1 ∙ sym (closest_there block_span r s one.0 blocks_exact sound (blocks_nested r sound)
      is.ordered (record {
        there = ap (λ k. get r k) key ∙ one.1;
        span = t;
        class_is = ap block_span key;
        covering = closest.above;
        least = λ k x u f of_class over.
            closest.least u
            (has.blocks_are u ∙ ap is_some (ap (λ l. get r l) (sym (block_key k u of_class))
            ∙ f)) over;
      }))

  pub no_block : (s : Ends) → NoneCovers blocks s → None ≡ closest_block r s
  no_block s none = sym (closest_none block_span r s sound (λ k x u f of_class.
      none.none u (has.blocks_are u ∙ ap is_some (ap (λ l. get r l) (sym (block_key k u of_class))
      ∙ f))))

  routed_span : (k : Key) (x : Obj) (u : Ends) → get r k ≡ Some x → route_span k ≡ Some u →
      contains_key routes u ≡ true
  routed_span k x u f of_class =
      let key = route_key k u of_class in
      let there : contains_key r (Route key.0 key.1.0) ≡ true =
      ap is_some (ap (λ l. get r l) (sym key.1.1.0) ∙ f) in
      ap (λ s. contains_key routes s) (sym key.1.1.1) ∙ has.routes_are key.0 key.1.0 there

  -- the prefix of the closest routes is the one of the closest span
  pub routes_of_closest : (p q : PrefixParts) (v : Unit {0}) → IsMasked q →
      IsClosest routes (span_of p) (span_of q) v → Some q ≡ closest_route_prefix r p
  routes_of_closest p q v masked closest =
      let is = has.routed (span_of q) (ap is_some closest.held) in
      let one = there_is (get r (Route is.prefix is.origin)) is.there in
      let key = sound.keyed (Route is.prefix is.origin) one.0 one.1 in
      let same : is.prefix ≡ q = spans_tell is.prefix q (has.masked is.prefix is.origin is.there)
      masked is.span_is in
      ap Some (sym same) ∙ sym (ap route_prefix key)
      ∙ sym (closest_routes_there r p one.0 sound (record {
        there = ap (λ k. get r k) key ∙ one.1;
        span = span_of q;
        class_is = ap route_span key ∙ ap Some is.span_is;
        covering = closest.above;
        least = λ k x u f of_class over. closest.least u (routed_span k x u f of_class) over;
      }))

  pub no_routes : (p : PrefixParts) → NoneCovers routes (span_of p) → None ≡ closest_route_prefix r
      p
  no_routes p none =
      sym
      (closest_routes_none r p sound (λ k x u f of_class.
      none.none u (routed_span k x u f of_class)))

  -- a key that crosses an inetnum's, or an as-block's, is one
  crossing_inetnum : (k : Key) (s : Ends) → keys_cross k (Inetnum s) ≡ true → (t : Ends)
      × ((k ≡ Inetnum t) × (crosses t s ≡ true))
  crossing_inetnum (Mntner n) s e = cc
  crossing_inetnum (AsBlock t) s e = cc
  crossing_inetnum (AutNum n) s e = cc
  crossing_inetnum (Inetnum t) s e = (t, (refl, e))
  crossing_inetnum (Route p n) s e = cc
  crossing_inetnum (AsSet n) s e = cc
  crossing_inetnum (RouteSet n) s e = cc

  crossing_block : (k : Key) (s : Ends) → keys_cross k (AsBlock s) ≡ true → (t : Ends)
      × ((k ≡ AsBlock t) × (crosses t s ≡ true))
  crossing_block (Mntner n) s e = cc
  crossing_block (AsBlock t) s e = (t, (refl, e))
  crossing_block (AutNum n) s e = cc
  crossing_block (Inetnum t) s e = cc
  crossing_block (Route p n) s e = cc
  crossing_block (AsSet n) s e = cc
  crossing_block (RouteSet n) s e = cc

  -- an inetnum crosses a span where its span does
  pub inetnums_cross : (s : Ends) → crosses_some inetnums s ≡ crosses_key r (Inetnum s)
  inetnums_cross s = same_of (crosses_some inetnums s) (crosses_key r (Inetnum s))
      (λ some.
      let one = passing_one (λ o. keys_cross o.key (Inetnum s)) (values r) some in
      let at = crossing_inetnum one.0.key s one.1.1 in
      crosses_found inetnums s at.0
      (has.inetnums_are at.0 ∙ ap is_some (ap (λ k. get r k) (sym at.1.0) ∙ stands_at r one.0 sound
      one.1.0)) at.1.1)
      (λ none. crosses_missed inetnums s (λ t held.
      let one = there_is (get r (Inetnum t)) (sym (has.inetnums_are t) ∙ held) in
      sym (ap (λ k. keys_cross k (Inetnum s)) (sound.keyed (Inetnum t) one.0 one.1))
      ∙ none_passes (λ o. keys_cross o.key (Inetnum s)) one.0 (values r) none
      (found_in r (Inetnum t) one.0 one.1)))

  -- and an as-block likewise
  pub blocks_cross : (s : Ends) → crosses_some blocks s ≡ crosses_key r (AsBlock s)
  blocks_cross s = same_of (crosses_some blocks s) (crosses_key r (AsBlock s))
      (λ some.
      let one = passing_one (λ o. keys_cross o.key (AsBlock s)) (values r) some in
      let at = crossing_block one.0.key s one.1.1 in
      crosses_found blocks s at.0
      (has.blocks_are at.0 ∙ ap is_some (ap (λ k. get r k) (sym at.1.0) ∙ stands_at r one.0 sound
      one.1.0)) at.1.1)
      (λ none. crosses_missed blocks s (λ t held.
      let one = there_is (get r (AsBlock t)) (sym (has.blocks_are t) ∙ held) in
      sym (ap (λ k. keys_cross k (AsBlock s)) (sound.keyed (AsBlock t) one.0 one.1))
      ∙ none_passes (λ o. keys_cross o.key (AsBlock s)) one.0 (values r) none
      (found_in r (AsBlock t) one.0 one.1)))

  -- no other key is crossed
  pub rest_cross : (k : Key) → ((s : Ends) → k ≡ Inetnum s → ⊥) → ((s : Ends) → k ≡ AsBlock s → ⊥)
      → false ≡ crosses_key r k
  rest_cross (Mntner n) a b = sym (none_crosses (Mntner n) (values r) refl)
  rest_cross (AsBlock s) a b = absurd (b s refl)
  rest_cross (AutNum n) a b = sym (none_crosses (AutNum n) (values r) refl)
  rest_cross (Inetnum s) a b = absurd (a s refl)
  rest_cross (Route p n) a b = sym (none_crosses (Route p n) (values r) refl)
  rest_cross (AsSet n) a b = sym (none_crosses (AsSet n) (values r) refl)
  rest_cross (RouteSet n) a b = sym (none_crosses (RouteSet n) (values r) refl)
