-- The spans of a registry's objects, as objects come and go.
-- Keys of a class tie exactly where their spans do, so a key that comes or goes is a span of one of
-- the three maps. It is long because each map is shown for both changes, and as it was otherwise.
use Rattle.std.proofs.Common.{◌≡◌, ◌||◌, ◌&&◌, ℕ, Bool, true, false, cond, not, refl, sym, ap}
use Rattle.std.proofs.Common.{subst, ◌∙◌}
use Rattle.std.specs.Prelude.{Option, None, Some, is_some}
use Rattle.std.specs.FinMap.{contains_key, empty, get, insert, remove, get-empty, get-insert}
use Rattle.std.specs.FinMap.{get-remove}
use Rattle.std.specs.Ordering.{eq_by_cmp, is_eq, nat_cmp, ordering_then}
use Rattle.std.proofs.Math.Bool.{or-true}
use Rattle.std.proofs.lemmas.Bool.{true≢false}
use Rattle.rr_number.proofs.PrefixSpans.{spans_tell}
use Rattle.rr_number.proofs.SpanOrder.{span_cmp_total}
use Rattle.rr_number.specs.Prefixes.{IsMasked, PrefixParts, span_of}
use Rattle.rr_number.specs.Spans.{Ends, span_cmp}
use Rattle.rr_object.proofs.Digits.{then_equal}
use Rattle.rr_object.specs.declared.key.Key.{Key}
use Rattle.rr_object.specs.declared.key.Key.TheVariants.{AsBlock, AsSet, AutNum, Inetnum, Mntner}
use Rattle.rr_object.specs.declared.key.Key.TheVariants.{Route, RouteSet}
use Rattle.rr_object.specs.KeyOrders.{key_cmp}
use Rattle.rr_object.specs.Objects.{Obj}
use Rattle.rr_object.proofs.KeyLaws.{keys_total, same_key, tied_key}
use Rattle.rr_auth.specs.Registries.{Reg}
use Rattle.rr_cover.proofs.Ties.{same_tied, tied_same}
use Rattle.rr_cover.specs.SpanMaps.{SpanMap}
use Rattle.rr_index.specs.Private.{IsTold}
use Rattle.rr_index.specs.SpanIndexes.{HasSpans, IsRouted}

some_or : {A : Type 0} (b : Bool) (x : A) (v : Option A) → is_some (cond b (Some x) v)
    ≡ (b || is_some v)
some_or true x v = refl
some_or false x v = refl

none_or : {A : Type 0} (b : Bool) (v : Option A) → is_some (cond b None v) ≡ (not b && is_some v)
none_or true v = refl
none_or false v = refl

right_of : (a b : Bool) → (not a && b) ≡ true → b ≡ true
right_of true b e = cc
right_of false b e = e

-- the keys of a registry with one more, or one less
pub keys_in : (r : Reg) (k : Key) (o : Obj) (q : Key) → contains_key (insert r k o) q
    ≡ (eq_by_cmp key_cmp q k || contains_key r q)
keys_in r k o q = ap is_some (get-insert keys_total r k o q) ∙ some_or (eq_by_cmp key_cmp q k) o
    (get r q)

pub keys_out : (r : Reg) (k q : Key) → contains_key (remove r k) q
    ≡ (not (eq_by_cmp key_cmp q k) && contains_key r q)
keys_out r k q = ap is_some (get-remove keys_total r k q) ∙ none_or (eq_by_cmp key_cmp q k)
    (get r q)

spans_in : {T : Type 0} (m : SpanMap T) (s : Ends) (v : T) (t : Ends) → contains_key (insert m s v)
    t ≡ (eq_by_cmp span_cmp t s || contains_key m t)
spans_in m s v t = ap is_some (get-insert span_cmp_total m s v t)
    ∙ some_or (eq_by_cmp span_cmp t s) v (get m t)

spans_out : {T : Type 0} (m : SpanMap T) (s t : Ends) → contains_key (remove m s) t
    ≡ (not (eq_by_cmp span_cmp t s) && contains_key m t)
spans_out m s t = ap is_some (get-remove span_cmp_total m s t) ∙ none_or (eq_by_cmp span_cmp t s)
    (get m t)

-- keys of a class tie where their spans do
pub inetnums_tie : (s t : Ends) → eq_by_cmp key_cmp (Inetnum s) (Inetnum t) ≡ eq_by_cmp span_cmp s t
inetnums_tie s t =
    ap is_eq (ap (ordering_then (nat_cmp s.first t.first)) (then_equal (nat_cmp s.last t.last)))

blocks_tie : (s t : Ends) → eq_by_cmp key_cmp (AsBlock s) (AsBlock t) ≡ eq_by_cmp span_cmp s t
blocks_tie s t =
    ap is_eq (ap (ordering_then (nat_cmp s.first t.first)) (then_equal (nat_cmp s.last t.last)))

-- the prefix of a route's key
prefix_or : PrefixParts → Key → PrefixParts
prefix_or p (Mntner n) = p
prefix_or p (AsBlock s) = p
prefix_or p (AutNum n) = p
prefix_or p (Inetnum s) = p
prefix_or p (Route q n) = q
prefix_or p (AsSet n) = p
prefix_or p (RouteSet n) = p

same_prefix : (p q : PrefixParts) (n m : ℕ) → eq_by_cmp key_cmp (Route p n) (Route q m) ≡ true →
    p ≡ q
unfolding prefix_or
same_prefix p q n m e = ap (prefix_or p) (same_key (Route p n) (Route q m) e)

pub has_none : HasSpans empty empty empty empty
has_none = record {
  inetnums_are = λ s. ap is_some (get-empty span_cmp s)
      ∙ sym (ap is_some (get-empty key_cmp (Inetnum s)));
  blocks_are = λ s. ap is_some (get-empty span_cmp s)
      ∙ sym (ap is_some (get-empty key_cmp (AsBlock s)));
  routed = λ s at. absurd (true≢false (sym at ∙ ap is_some (get-empty span_cmp s)));
  routes_are = λ p n there.
      absurd (true≢false (sym there ∙ ap is_some (get-empty key_cmp (Route p n))));
  masked = λ p n there.
      absurd (true≢false (sym there ∙ ap is_some (get-empty key_cmp (Route p n))));
}

module _ (r : Reg) (inetnums blocks routes : SpanMap (Unit {0}))
    (has : HasSpans r inetnums blocks routes) where
  routed_in : (k : Key) (o : Obj) (s : Ends) → IsRouted r s → IsRouted (insert r k o) s
  routed_in k o s is = record {
    prefix = is.prefix;
    span_is = is.span_is;
    origin = is.origin;
    there = keys_in r k o (Route is.prefix is.origin)
        ∙ ap (λ b. eq_by_cmp key_cmp (Route is.prefix is.origin) k || b) is.there
        ∙ or-true (eq_by_cmp key_cmp (Route is.prefix is.origin) k);
  }

  routed_out : (k : Key) (s : Ends) → (is : IsRouted r s) →
      eq_by_cmp key_cmp (Route is.prefix is.origin) k ≡ false → IsRouted (remove r k) s
  routed_out k s is other = record {
    prefix = is.prefix;
    span_is = is.span_is;
    origin = is.origin;
    there = keys_out r k (Route is.prefix is.origin) ∙ (λ i. not (other i) && is.there i);
  }

  stayed : (k : Key) (q : Key) → contains_key (remove r k) q ≡ true → contains_key r q ≡ true
  stayed k q there = right_of (eq_by_cmp key_cmp q k) (contains_key r q)
      (sym (keys_out r k q) ∙ there)

  pub added_inetnum : (s : Ends) (o : Obj) → HasSpans (insert r (Inetnum s) o)
      (insert inetnums s tt) blocks routes
  added_inetnum s o = record {
    inetnums_are = λ t. spans_in inetnums s tt t
        ∙ (λ i. sym (inetnums_tie t s) i || has.inetnums_are t i)
        ∙ sym (keys_in r (Inetnum s) o (Inetnum t));
    blocks_are = λ t. has.blocks_are t ∙ sym (keys_in r (Inetnum s) o (AsBlock t));
    routed = λ t at. routed_in (Inetnum s) o t (has.routed t at);
    routes_are = λ p n there. has.routes_are p n (sym (keys_in r (Inetnum s) o (Route p n))
        ∙ there);
    masked = λ p n there. has.masked p n (sym (keys_in r (Inetnum s) o (Route p n)) ∙ there);
  }

  pub added_block : (s : Ends) (o : Obj) → HasSpans (insert r (AsBlock s) o) inetnums
      (insert blocks s tt) routes
  added_block s o = record {
    inetnums_are = λ t. has.inetnums_are t ∙ sym (keys_in r (AsBlock s) o (Inetnum t));
    blocks_are = λ t. spans_in blocks s tt t ∙ (λ i. sym (blocks_tie t s) i || has.blocks_are t i)
        ∙ sym (keys_in r (AsBlock s) o (AsBlock t));
    routed = λ t at. routed_in (AsBlock s) o t (has.routed t at);
    routes_are = λ p n there. has.routes_are p n (sym (keys_in r (AsBlock s) o (Route p n))
        ∙ there);
    masked = λ p n there. has.masked p n (sym (keys_in r (AsBlock s) o (Route p n)) ∙ there);
  }

  pub added_other : (k : Key) (o : Obj) → ((s : Ends) → eq_by_cmp key_cmp (Inetnum s) k ≡ false) →
      ((s : Ends) → eq_by_cmp key_cmp (AsBlock s) k ≡ false)
      → ((p : PrefixParts) (n : ℕ) → eq_by_cmp key_cmp (Route p n) k ≡ false) →
      HasSpans (insert r k o) inetnums blocks routes
  added_other k o no_inetnum no_block no_route = record {
    inetnums_are = λ t. has.inetnums_are t ∙ ap (λ b. b || contains_key r (Inetnum t))
        (sym (no_inetnum t)) ∙ sym (keys_in r k o (Inetnum t));
    blocks_are = λ t. has.blocks_are t ∙ ap (λ b. b || contains_key r (AsBlock t))
        (sym (no_block t)) ∙ sym (keys_in r k o (AsBlock t));
    routed = λ t at. routed_in k o t (has.routed t at);
    routes_are = λ p n there. has.routes_are p n (ap (λ b. b || contains_key r (Route p n))
        (sym (no_route p n)) ∙ sym (keys_in r k o (Route p n)) ∙ there);
    masked = λ p n there. has.masked p n (ap (λ b. b || contains_key r (Route p n))
        (sym (no_route p n)) ∙ sym (keys_in r k o (Route p n)) ∙ there);
  }

  route_key_in : (p q : PrefixParts) (n m : ℕ) (o : Obj) (P : Type 0) →
      contains_key (insert r (Route p n) o) (Route q m) ≡ true
      → (q ≡ p → P) → (contains_key r (Route q m) ≡ true → P) → P
  route_key_in p q n m o P there same other =
      elim (eq_by_cmp key_cmp (Route q m) (Route p n)) as
      (λ b. eq_by_cmp key_cmp (Route q m) (Route p n) ≡ b → (b || contains_key r (Route q m))
      ≡ true → P) [
        | true ↦ λ e f. same (same_prefix q p m n e)
        | false ↦ λ e f. other f
      ] refl (sym (keys_in r (Route p n) o (Route q m)) ∙ there)

  pub added_route : (p : PrefixParts) (n : ℕ) (o : Obj) → IsMasked p →
      HasSpans (insert r (Route p n) o) inetnums blocks (insert routes (span_of p) tt)
  added_route p n o masked = record {
    inetnums_are = λ t. has.inetnums_are t ∙ sym (keys_in r (Route p n) o (Inetnum t));
    blocks_are = λ t. has.blocks_are t ∙ sym (keys_in r (Route p n) o (AsBlock t));
    routed = λ t at.
        elim (eq_by_cmp span_cmp t (span_of p)) as (λ b. eq_by_cmp span_cmp t (span_of p) ≡ b →
        (b || contains_key routes t) ≡ true → IsRouted (insert r (Route p n) o) t) [
          | true ↦ λ e f. record {
            prefix = p;
            span_is = sym (tied_same t (span_of p) e);
            origin = n;
            there = keys_in r (Route p n) o (Route p n) ∙ ap (λ b. b || contains_key r (Route p n))
                (tied_key (Route p n));
          }
          | false ↦ λ e f. routed_in (Route p n) o t (has.routed t f)
        ] refl (sym (spans_in routes (span_of p) tt t) ∙ at);
    routes_are = λ q m there.
        spans_in routes (span_of p) tt (span_of q)
        ∙ route_key_in p q n m o
        ((eq_by_cmp span_cmp (span_of q) (span_of p) || contains_key routes (span_of q))
        ≡ true) there
        (λ same. ap (λ b. b || contains_key routes (span_of q))
        (same_tied (span_of q) (span_of p) (ap span_of same)))
        (λ other. ap (λ b. eq_by_cmp span_cmp (span_of q) (span_of p) || b)
        (has.routes_are q m other) ∙ or-true (eq_by_cmp span_cmp (span_of q) (span_of p)));
    masked = λ q m there. route_key_in p q n m o (IsMasked q) there
        (λ same. subst IsMasked (sym same) masked) (has.masked q m);
  }

  pub removed_inetnum : (s : Ends) → HasSpans (remove r (Inetnum s)) (remove inetnums s) blocks
      routes
  removed_inetnum s = record {
    inetnums_are = λ t. spans_out inetnums s t
        ∙ (λ i. not (sym (inetnums_tie t s) i) && has.inetnums_are t i)
        ∙ sym (keys_out r (Inetnum s) (Inetnum t));
    blocks_are = λ t. has.blocks_are t ∙ sym (keys_out r (Inetnum s) (AsBlock t));
    routed = λ t at. routed_out (Inetnum s) t (has.routed t at) refl;
    routes_are = λ p n there. has.routes_are p n (stayed (Inetnum s) (Route p n) there);
    masked = λ p n there. has.masked p n (stayed (Inetnum s) (Route p n) there);
  }

  pub removed_block : (s : Ends) → HasSpans (remove r (AsBlock s)) inetnums (remove blocks s) routes
  removed_block s = record {
    inetnums_are = λ t. has.inetnums_are t ∙ sym (keys_out r (AsBlock s) (Inetnum t));
    blocks_are = λ t. spans_out blocks s t ∙ (λ i. not (sym (blocks_tie t s) i) && has.blocks_are t
        i) ∙ sym (keys_out r (AsBlock s) (AsBlock t));
    routed = λ t at. routed_out (AsBlock s) t (has.routed t at) refl;
    routes_are = λ p n there. has.routes_are p n (stayed (AsBlock s) (Route p n) there);
    masked = λ p n there. has.masked p n (stayed (AsBlock s) (Route p n) there);
  }

  pub removed_other : (k : Key) → ((s : Ends) → eq_by_cmp key_cmp (Inetnum s) k ≡ false) →
      ((s : Ends) → eq_by_cmp key_cmp (AsBlock s) k ≡ false)
      → ((p : PrefixParts) (n : ℕ) → eq_by_cmp key_cmp (Route p n) k ≡ false) →
      HasSpans (remove r k) inetnums blocks routes
  removed_other k no_inetnum no_block no_route = record {
    inetnums_are = λ t. has.inetnums_are t ∙ ap (λ b. not b && contains_key r (Inetnum t))
        (sym (no_inetnum t)) ∙ sym (keys_out r k (Inetnum t));
    blocks_are = λ t. has.blocks_are t ∙ ap (λ b. not b && contains_key r (AsBlock t))
        (sym (no_block t)) ∙ sym (keys_out r k (AsBlock t));
    routed = λ t at. let is = has.routed t at in routed_out k t is (no_route is.prefix is.origin);
    routes_are = λ p n there. has.routes_are p n (stayed k (Route p n) there);
    masked = λ p n there. has.masked p n (stayed k (Route p n) there);
  }

  -- a route of a prefix that has another
  pub removed_route_other : (p : PrefixParts) (n m : ℕ) → contains_key (remove r (Route p n))
      (Route p m) ≡ true → HasSpans (remove r (Route p n)) inetnums blocks routes
  removed_route_other p n m other = record {
    inetnums_are = λ t. has.inetnums_are t ∙ sym (keys_out r (Route p n) (Inetnum t));
    blocks_are = λ t. has.blocks_are t ∙ sym (keys_out r (Route p n) (AsBlock t));
    routed = λ t at.
        let is = has.routed t at in
        elim (eq_by_cmp key_cmp (Route is.prefix is.origin) (Route p n)) as
        (λ b. eq_by_cmp key_cmp (Route is.prefix is.origin) (Route p n) ≡ b →
        IsRouted (remove r (Route p n)) t) [
          | true ↦ λ e. record {
            prefix = is.prefix;
            span_is = is.span_is;
            origin = m;
            there = subst (λ x. contains_key (remove r (Route p n)) (Route x m) ≡ true)
                (sym (same_prefix is.prefix p is.origin n e)) other;
          }
          | false ↦ λ e. routed_out (Route p n) t is e
        ] refl;
    routes_are = λ q m there. has.routes_are q m (stayed (Route p n) (Route q m) there);
    masked = λ q m there. has.masked q m (stayed (Route p n) (Route q m) there);
  }

  -- the last route of a prefix
  pub removed_route_last : (p : PrefixParts) (n : ℕ) → IsMasked p →
      ((m : ℕ) → contains_key (remove r (Route p n)) (Route p m) ≡ false)
      → HasSpans (remove r (Route p n)) inetnums blocks (remove routes (span_of p))
  removed_route_last p n masked none = record {
    inetnums_are = λ t. has.inetnums_are t ∙ sym (keys_out r (Route p n) (Inetnum t));
    blocks_are = λ t. has.blocks_are t ∙ sym (keys_out r (Route p n) (AsBlock t));
    routed = λ t at.
        elim (eq_by_cmp span_cmp t (span_of p)) as (λ b. eq_by_cmp span_cmp t (span_of p) ≡ b →
        (not b && contains_key routes t) ≡ true → IsRouted (remove r (Route p n)) t) [
          | true ↦ λ e f. cc
          | false ↦ λ e f.
              let is = has.routed t f in
              routed_out (Route p n) t is (
              elim (eq_by_cmp key_cmp (Route is.prefix is.origin) (Route p n)) as
              (λ b. eq_by_cmp key_cmp (Route is.prefix is.origin) (Route p n) ≡ b → b ≡ false) [
                | true ↦ λ g.
                    absurd
                    (true≢false
                    (sym
                    (same_tied t (span_of p)
                    (sym is.span_is ∙ ap span_of (same_prefix is.prefix p is.origin n g))) ∙ e))
                | false ↦ λ g. refl
              ] refl)
        ] refl (sym (spans_out routes (span_of p) t) ∙ at);
    routes_are = λ q m there.
        let before = stayed (Route p n) (Route q m) there in
        spans_out routes (span_of p) (span_of q)
        ∙ elim (eq_by_cmp span_cmp (span_of q) (span_of p)) as (λ b. eq_by_cmp span_cmp (span_of q)
        (span_of p) ≡ b → (not b && contains_key routes (span_of q)) ≡ true) [
          | true ↦ λ e.
              let same = spans_tell q p (has.masked q m before) masked
              (tied_same (span_of q) (span_of p) e) in
              absurd
              (true≢false
              (sym (subst (λ x. contains_key (remove r (Route p n)) (Route x m) ≡ true) same
              there) ∙ none m))
          | false ↦ λ e. has.routes_are q m before
        ] refl;
    masked = λ q m there. has.masked q m (stayed (Route p n) (Route q m) there);
  }

  -- a key that is no span and no route's
  pub added_rest : (k : Key) (o : Obj) → ((s : Ends) → k ≡ Inetnum s → ⊥) →
      ((s : Ends) → k ≡ AsBlock s → ⊥) → ((p : PrefixParts) (n : ℕ) → k ≡ Route p n → ⊥)
      → HasSpans (insert r k o) inetnums blocks routes
  added_rest (Mntner n) o a b c = added_other (Mntner n) o (λ s. refl) (λ s. refl) (λ p m. refl)
  added_rest (AsBlock s) o a b c = absurd (b s refl)
  added_rest (AutNum n) o a b c = added_other (AutNum n) o (λ s. refl) (λ s. refl) (λ p m. refl)
  added_rest (Inetnum s) o a b c = absurd (a s refl)
  added_rest (Route p n) o a b c = absurd (c p n refl)
  added_rest (AsSet n) o a b c = added_other (AsSet n) o (λ s. refl) (λ s. refl) (λ p m. refl)
  added_rest (RouteSet n) o a b c = added_other (RouteSet n) o (λ s. refl) (λ s. refl) (λ p m. refl)

  pub removed_rest : (k : Key) → ((s : Ends) → k ≡ Inetnum s → ⊥) →
      ((s : Ends) → k ≡ AsBlock s → ⊥) → ((p : PrefixParts) (n : ℕ) → k ≡ Route p n → ⊥)
      → HasSpans (remove r k) inetnums blocks routes
  removed_rest (Mntner n) a b c = removed_other (Mntner n) (λ s. refl) (λ s. refl) (λ p m. refl)
  removed_rest (AsBlock s) a b c = absurd (b s refl)
  removed_rest (AutNum n) a b c = removed_other (AutNum n) (λ s. refl) (λ s. refl) (λ p m. refl)
  removed_rest (Inetnum s) a b c = absurd (a s refl)
  removed_rest (Route p n) a b c = absurd (c p n refl)
  removed_rest (AsSet n) a b c = removed_other (AsSet n) (λ s. refl) (λ s. refl) (λ p m. refl)
  removed_rest (RouteSet n) a b c = removed_other (RouteSet n) (λ s. refl) (λ s. refl) (λ p m. refl)

  pub removed_told : (k : Key) (p : PrefixParts) (n : ℕ) (told : Bool) → k ≡ Route p n →
      IsMasked p → IsTold r k told
      → HasSpans (remove r k) inetnums blocks (cond told routes (remove routes (span_of p)))
  removed_told k p n true is masked other =
      let m = subst (λ (l : Key). IsTold r l true) is other in
      subst (λ (l : Key). HasSpans (remove r l) inetnums blocks routes) (sym is)
      (removed_route_other p n m.0 m.1)
  removed_told k p n false is masked none =
      subst (λ (l : Key). HasSpans (remove r l) inetnums blocks (remove routes (span_of p)))
      (sym is)
      (removed_route_last p n masked (subst (λ (l : Key). IsTold r l false) is none))
