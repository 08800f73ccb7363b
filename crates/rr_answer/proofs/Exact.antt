-- What is at exactly the span of a prefix: its inetnum and its routes.
use Rattle.std.proofs.Common.{◌≡◌, ℕ, Bool, true, false, cond, ◌&&◌, ◌||◌, T, List, [], ◌∷◌, arith}
use Rattle.std.proofs.Common.{refl, sym, ap, subst, true≢false, ◌∙◌}
use Rattle.std.specs.Prelude.{Option, None, Some, filter, is_some, map}
use Rattle.std.specs.List.{cons_option}
use Rattle.std.specs.Option.{option_map_or}
use Rattle.std.specs.Cmp.{tied_itself}
use Rattle.std.specs.Ordering.{eq_by_cmp, is_lt}
use Rattle.std.specs.FinMap.{entries, entries_sorted, get, get-entries, is_sorted, values}
use Rattle.std.specs.FinMap.{find as find_entry}
use Rattle.std.specs.FinMap.Entries.{below_all}
use Rattle.std.proofs.lemmas.Bool.{and_from, and_parts}
use Rattle.std.proofs.lemmas.Bool.Decides.{nat_tests}
use Rattle.rr_number.specs.Prefixes.{IsMasked, PrefixParts, span_of}
use Rattle.rr_number.specs.Spans.{Ends, covers}
use Rattle.rr_number.proofs.PrefixSpans.{cover_each_other}
use Rattle.rr_object.specs.declared.key.Key.{Key}
use Rattle.rr_object.specs.declared.key.Key.TheVariants.{Mntner, AsBlock, AutNum, Inetnum, Route}
use Rattle.rr_object.specs.declared.key.Key.TheVariants.{AsSet, RouteSet}
use Rattle.rr_object.specs.KeyOrders.{IsKeyValue, key_cmp}
use Rattle.rr_object.specs.Objects.{Obj}
use Rattle.rr_object.proofs.KeyLaws.{keys_total, same_key, tied_key}
use Rattle.rr_auth.specs.Closest.{origin_at, same_prefix}
use Rattle.rr_auth.specs.Registries.{Reg, Sound}
use Rattle.rr_auth.proofs.Members.{both_or_none}
use Rattle.rr_book.specs.Listings.{addresses}
use Rattle.rr_answer.proofs.Routes.{same_parts}
use Rattle.rr_answer.specs.Selections.{is_at, is_route_of}

-- the key is of an inetnum or a route at exactly the span
abbrev at_key : Ends → Key → Bool
at_key s k = option_map_or (λ t. covers t s) (addresses k) false && option_map_or (λ t. covers s t)
    (addresses k) false

covers_itself : (s : Ends) → covers s s ≡ true
covers_itself s = grind (arith, nat_tests)

same_ends : (s t : Ends) → covers t s ≡ true → covers s t ≡ true → s ≡ t
same_ends s t up down =
    let first : s.first ≡ t.first = grind (arith, nat_tests) in
    let last : s.last ≡ t.last = grind (arith, nat_tests) in
    λ i. record { first = first i; last = last i }

at_inetnum : (s : Ends) → at_key s (Inetnum s) ≡ true
at_inetnum s = and_from (covers s s) (covers s s) (covers_itself s) (covers_itself s)

or_none : (b : Bool) → (b || false) ≡ b
or_none true = refl
or_none false = refl

route_is : (b : Bool) (n : ℕ) → is_some (cond b (Some n) None) ≡ b
route_is true n = refl
route_is false n = refl

same_itself : (p : PrefixParts) → same_prefix p p ≡ true
same_itself p = grind (arith, nat_tests)

-- such a key is the inetnum's of the span, or one of a route of the prefix
at_is : (p : PrefixParts) → IsMasked p → (k : Key) → IsKeyValue k → at_key (span_of p) k
    ≡ (eq_by_cmp key_cmp (Inetnum (span_of p)) k || is_some (origin_at p k))
at_is p masked (Mntner n) is = refl
at_is p masked (AsBlock s) is = refl
at_is p masked (AutNum n) is = refl
at_is p masked (Inetnum t) is =
    let s = span_of p in
    both_or_none (at_key s (Inetnum t)) (eq_by_cmp key_cmp (Inetnum s) (Inetnum t))
    (λ at. let parts = and_parts (covers t s) (covers s t) at in
    ap (λ u. eq_by_cmp key_cmp (Inetnum s) (Inetnum u)) (sym (same_ends s t parts.0 parts.1))
    ∙ tied_key (Inetnum s))
    (λ tied. ap (at_key s) (sym (same_key (Inetnum s) (Inetnum t) tied)) ∙ at_inetnum s)
    ∙ sym (or_none (eq_by_cmp key_cmp (Inetnum s) (Inetnum t)))
at_is p masked (Route q n) is =
    let s = span_of p in
    both_or_none (at_key s (Route q n)) (same_prefix q p)
    (λ at. let parts = and_parts (covers (span_of q) s) (covers s (span_of q)) at in
    ap (λ x. same_prefix x p) (cover_each_other q p is.masked masked parts.0 parts.1) ∙ same_itself
    p)
    (λ same. ap (λ x. at_key s (Route x n)) (same_parts q p same) ∙ at_inetnum s)
    ∙ sym (route_is (same_prefix q p) n)
at_is p masked (AsSet n) is = refl
at_is p masked (RouteSet n) is = refl

first_of : (a b : Bool) → T (a && b) → T a
first_of true b h = tt
first_of false b h = h

second_of : (a b : Bool) → T (a && b) → T b
second_of true b h = h
second_of false b h = absurd h

nothing_at : (t : Bool) → false ≡ t → t ≡ true → ⊥
nothing_at true e f = true≢false (sym e)
nothing_at false e f = true≢false (sym f)

-- the second key is not below the first
abbrev IsNotAbove : Key → Key → Type 0
IsNotAbove k l = T (is_lt (key_cmp l k)) → ⊥

missed : (k l : Key) → IsNotAbove k l → (es : List (Key × Obj)) → T (below_all key_cmp l es) →
    find_entry key_cmp k es ≡ None
missed k l apart [] below = refl
missed k l apart (e ∷ es) below =
    elim (eq_by_cmp key_cmp k e.0) as (λ b. eq_by_cmp key_cmp k e.0 ≡ b →
    cond b (Some e.1) (find_entry key_cmp k es) ≡ None) [
      | true ↦ λ tied.
          absurd (apart (subst (λ m. T (is_lt (key_cmp l m))) (sym (same_key k e.0 tied))
          (first_of (is_lt (key_cmp l e.0)) (below_all key_cmp l es) below)))
      | false ↦ λ tied. missed k l apart es
          (second_of (is_lt (key_cmp l e.0)) (below_all key_cmp l es) below)
    ] refl

never_below : (k : Key) → IsNotAbove k k
never_below k below = subst (λ o. T (is_lt o)) (tied_itself keys_total k) below

-- the entry of the key of the span's inetnum comes once, and before those of routes
none_later : (p : PrefixParts) (k : Key) (es : List (Key × Obj)) → T (below_all key_cmp k es) →
    (i t : Bool) → eq_by_cmp key_cmp (Inetnum (span_of p)) k ≡ i → is_some (origin_at p k) ≡ t
    → (i || t) ≡ true → find_entry key_cmp (Inetnum (span_of p)) es ≡ None
none_later p k es below true t tied at some = missed (Inetnum (span_of p)) k
    (subst (IsNotAbove (Inetnum (span_of p))) (same_key (Inetnum (span_of p)) k tied)
    (never_below (Inetnum (span_of p)))) es below
none_later p (Route q n) es below false t tied at some = missed (Inetnum (span_of p)) (Route q n)
    (λ h. h) es below
none_later p (Mntner n) es below false t tied at some = absurd (nothing_at t at some)
none_later p (AsBlock s) es below false t tied at some = absurd (nothing_at t at some)
none_later p (AutNum n) es below false t tied at some = absurd (nothing_at t at some)
none_later p (Inetnum s) es below false t tied at some = absurd (nothing_at t at some)
none_later p (AsSet n) es below false t tied at some = absurd (nothing_at t at some)
none_later p (RouteSet n) es below false t tied at some = absurd (nothing_at t at some)

-- the key of the span's inetnum is none of a route
alone : (p : PrefixParts) (k : Key) → eq_by_cmp key_cmp (Inetnum (span_of p)) k ≡ true →
    is_some (origin_at p k) ≡ false
alone p k tied = ap (λ l. is_some (origin_at p l)) (sym (same_key (Inetnum (span_of p)) k tied))

one_more : (o : Obj) (all routes : List Obj) (found : Option Obj) (a i t : Bool) → a ≡ (i || t) →
    (i ≡ true → t ≡ false) → ((i || t) ≡ true → found ≡ None)
    → all ≡ cons_option found routes → cond a (o ∷ all) all ≡ cons_option (cond i (Some o) found)
    (cond t (o ∷ routes) routes)
one_more o all routes found a true t is apart none rest =
    ap (λ b. cond b (o ∷ all) all) is ∙ ap (λ os. o ∷ os) (rest ∙ ap (λ f. cons_option f routes)
    (none refl)) ∙ ap (λ b. o ∷ cond b (o ∷ routes) routes) (sym (apart refl))
one_more o all routes found a false true is apart none rest =
    ap (λ b. cond b (o ∷ all) all) is ∙ ap (λ os. o ∷ os) (rest ∙ ap (λ f. cons_option f routes)
    (none refl)) ∙ ap (λ f. cons_option f (o ∷ routes)) (sym (none refl))
one_more o all routes found a false false is apart none rest = ap (λ b. cond b (o ∷ all) all) is
    ∙ rest

nothing : (x : Obj) → None ≡ Some x → ⊥
nothing x e = cc

after : (e : Key × Obj) (es : List (Key × Obj)) (k : Key) (o : Obj) → T (below_all key_cmp e.0 es)
    → find_entry key_cmp k es ≡ Some o → find_entry key_cmp k (e ∷ es) ≡ Some o
after e es k o below there =
    elim (eq_by_cmp key_cmp k e.0) as (λ b. eq_by_cmp key_cmp k e.0 ≡ b →
    cond b (Some e.1) (find_entry key_cmp k es) ≡ Some o) [
      | true ↦ λ tied.
          absurd
          (nothing o (sym (missed e.0 e.0 (never_below e.0) es below)
          ∙ ap (λ l. find_entry key_cmp l es) (sym (same_key k e.0 tied)) ∙ there))
      | false ↦ λ tied. there
    ] refl

among : (p : PrefixParts) → IsMasked p → (es : List (Key × Obj)) → T (is_sorted key_cmp es) →
    ((k : Key) (o : Obj) → find_entry key_cmp k es ≡ Some o → (o.key ≡ k) × IsKeyValue k)
    → filter (is_at (span_of p)) (map (λ e. e.1) es) ≡ cons_option
    (find_entry key_cmp (Inetnum (span_of p)) es) (filter (is_route_of p) (map (λ e. e.1) es))
among p masked [] sorted good = refl
among p masked (e ∷ es) sorted good =
    let below = first_of (below_all key_cmp e.0 es) (is_sorted key_cmp es) sorted in
    let own = good e.0 e.1 (ap (λ b. cond b (Some e.1) (find_entry key_cmp e.0 es))
    (tied_key e.0)) in
    let rest = among p masked es (second_of (below_all key_cmp e.0 es) (is_sorted key_cmp es)
    sorted) (λ k o there. good k o (after e es k o below there)) in
    let i = eq_by_cmp key_cmp (Inetnum (span_of p)) e.0 in
    let t = is_some (origin_at p e.0) in
    ap (λ k. cond (at_key (span_of p) k) (e.1 ∷ filter (is_at (span_of p)) (map (λ x. x.1) es))
    (filter (is_at (span_of p)) (map (λ x. x.1) es))) own.0
    ∙ one_more e.1 (filter (is_at (span_of p)) (map (λ x. x.1) es))
    (filter (is_route_of p) (map (λ x. x.1) es)) (find_entry key_cmp (Inetnum (span_of p)) es)
    (at_key (span_of p) e.0) i t (at_is p masked e.0 own.1) (alone p e.0)
    (none_later p e.0 es below i t refl refl) rest
    ∙ ap (λ k. cons_option (cond i (Some e.1) (find_entry key_cmp (Inetnum (span_of p)) es))
    (cond (is_some (origin_at p k)) (e.1 ∷ filter (is_route_of p) (map (λ x. x.1) es))
    (filter (is_route_of p) (map (λ x. x.1) es)))) (sym own.0)

-- the inetnum of a prefix's span, if there is one, before its routes
pub inetnum_before_routes : (r : Reg) (p : PrefixParts) → Sound r → IsMasked p →
    cons_option (get r (Inetnum (span_of p))) (filter (is_route_of p) (values r))
    ≡ filter (is_at (span_of p)) (values r)
inetnum_before_routes r p sound masked =
    ap (λ found. cons_option found (filter (is_route_of p) (values r)))
    (get-entries r (Inetnum (span_of p)))
    ∙ sym (among p masked (entries r) (entries_sorted r) (λ k o there. let at = get-entries r k
    ∙ there in (sound.keyed k o at, sound.formed k o at)))
