-- The keys that spans and prefixes choose, and the objects to which they lead.
-- Sorted entries that find the same are equal, so keys in order lead to the filtered objects. It
-- is long because choosing is split by the seven classes of key, and each loop has its step.
-- Boolean regroupings and ties of keys are given by hand. `covering`, `ObjectMap`, `inetnum_keys`
-- and `Originated` need it.
use Rattle.std.proofs.Common.{◌≡◌, ◌<◌, ◌+◌, ℕ, Bool, true, false, cond, ◌&&◌, ◌||◌, T, List, []}
use Rattle.std.proofs.Common.{◌∷◌, get_or, length, map, take, refl, sym, ap, subst, ◌∙◌}
use Rattle.std.specs.Prelude.{Option, None, Some, is_some}
use Rattle.std.specs.BTreeSet.{BTreeSet, Updates, contains}
use Rattle.std.specs.Cmp.{eq_by_cmp_equiv}
use Rattle.std.specs.FinMap.{contains_key, contains_key-keys, entries, entries_sorted, get}
use Rattle.std.specs.FinMap.{get-entries, is_sorted, keys, values, find as find_entry}
use Rattle.std.specs.FinMap.Entries.{below_all, find-where_key, is_sorted-where_key, same_entries}
use Rattle.std.specs.FinMap.Entries.{where_key}
use Rattle.std.specs.List.{AllByRecursion, cons_option, filter, filter_map, list_any}
use Rattle.std.specs.List.Sorted.{IsStrictlySortedBy}
use Rattle.std.specs.Map.{values_of}
use Rattle.std.specs.Option.{option_map_or}
use Rattle.std.specs.declared.cmp.Ordering.{Ordering}
use Rattle.std.specs.declared.cmp.Ordering.TheVariants.{Less}
use Rattle.std.specs.Ordering.{eq_by_cmp, is_lt}
use Rattle.std.proofs.lemmas.List.Folds.{list_any_more}
use Rattle.rr_object.proofs.KeyLaws.{keys_exact, keys_total, same_key}
use Rattle.rr_auth.proofs.Members.{both_or_none, stands_at}
use Rattle.rr_auth.specs.Closest.{origin_at, same_prefix}
use Rattle.rr_auth.specs.Registries.{Reg, Sound}
use Rattle.rr_book.proofs.KeysUnderSets.{updated_keys}
use Rattle.rr_book.specs.Listings.{addresses}
use Rattle.rr_cover.proofs.Ties.{same_tied, tied_same}
use Rattle.rr_cover.proofs.Held.{any_filter}
use Rattle.rr_cover.specs.SpanMaps.{SpanMap}
use Rattle.rr_index.proofs.Gathered.{both}
use Rattle.rr_index.proofs.Kept.{one_order}
use Rattle.rr_index.proofs.Ranges.{origins_between, same_picked, values_between}
use Rattle.rr_index.proofs.Routed.{itself, same_parts}
use Rattle.rr_index.proofs.Spans.{inetnums_tie}
use Rattle.rr_index.specs.ChosenKeyParts.{is_among, is_chosen}
use Rattle.rr_index.specs.KeyRangeParts.{lies_between}
use Rattle.rr_index.specs.SpanIndexes.{HasSpans}
use Rattle.rr_number.proofs.PrefixSpans.{spans_tell}
use Rattle.rr_number.specs.AsNumbers.{greatest_as_number}
use Rattle.rr_number.specs.Prefixes.{IsMasked, PrefixParts, span_of}
use Rattle.rr_number.specs.Spans.{Ends, span_cmp}
use Rattle.rr_object.specs.contracts.key.KeyOrd.TheImpl as derived
use Rattle.rr_object.specs.declared.key.Key.{Key}
use Rattle.rr_object.specs.declared.key.Key.TheVariants.{AsBlock, AsSet, AutNum, Inetnum, Mntner}
use Rattle.rr_object.specs.declared.key.Key.TheVariants.{Route, RouteSet}
use Rattle.rr_object.specs.KeyOrders.{IsKeyValue, key_cmp}
use Rattle.rr_object.specs.Objects.{Obj}

pub eq_swap : (a b : Key) → eq_by_cmp key_cmp a b ≡ eq_by_cmp key_cmp b a
eq_swap a b = (eq_by_cmp_equiv keys_total).symm a b

or_last : (a b : Bool) → cond a true b ≡ (b || a)
or_last true true = refl
or_last true false = refl
or_last false true = refl
or_last false false = refl

or_none : (b : Bool) → (b || false) ≡ b
or_none true = refl
or_none false = refl

pub any_mapped : {A B : Type 0} (p : B → Bool) (f : A → B) (xs : List A) → list_any p (map f xs)
    ≡ list_any (λ x. p (f x)) xs
any_mapped p f [] = refl
any_mapped p f (x ∷ xs) = ap (λ b. p (f x) || b) (any_mapped p f xs)

-- one more inetnum's key
pub inetnum_more : (spans : List Ends) (i : ℕ) (s : Ends) (before after : BTreeSet Key) →
    i < length spans → s ≡ get_or spans i s → Updates (derived.ghosts).cmp before after (Inetnum s)
    true
    → ((k : Key) → contains key_cmp before k ≡ is_chosen (take i spans) [] k) → (k : Key) →
    contains key_cmp after k ≡ is_chosen (take (i + 1) spans) [] k
inetnum_more spans i s before after inside is update so (Mntner n) = updated_keys before after
    (Inetnum s) true update (Mntner n) ∙ so (Mntner n)
inetnum_more spans i s before after inside is update so (AsBlock t) = updated_keys before after
    (Inetnum s) true update (AsBlock t) ∙ so (AsBlock t)
inetnum_more spans i s before after inside is update so (AutNum n) = updated_keys before after
    (Inetnum s) true update (AutNum n) ∙ so (AutNum n)
inetnum_more spans i s before after inside is update so (Inetnum t) =
    updated_keys before after (Inetnum s) true update (Inetnum t)
    ∙ ap (λ b. cond b true (contains key_cmp before (Inetnum t))) (eq_swap (Inetnum s) (Inetnum t)
    ∙ inetnums_tie t s)
    ∙ ap (cond (eq_by_cmp span_cmp t s) true) (so (Inetnum t))
    ∙ or_last (eq_by_cmp span_cmp t s) (is_among (take i spans) t)
    ∙ ap (λ u. is_among (take i spans) t || eq_by_cmp span_cmp t u) is
    ∙ sym (list_any_more (eq_by_cmp span_cmp t) spans i s inside)
inetnum_more spans i s before after inside is update so (Route p n) = updated_keys before after
    (Inetnum s) true update (Route p n) ∙ so (Route p n)
inetnum_more spans i s before after inside is update so (AsSet n) = updated_keys before after
    (Inetnum s) true update (AsSet n) ∙ so (AsSet n)
inetnum_more spans i s before after inside is update so (RouteSet n) = updated_keys before after
    (Inetnum s) true update (RouteSet n) ∙ so (RouteSet n)

-- no key is chosen by nothing
pub none_chosen : (k : Key) → is_chosen [] [] k ≡ false
none_chosen (Mntner n) = refl
none_chosen (AsBlock t) = refl
none_chosen (AutNum n) = refl
none_chosen (Inetnum t) = refl
none_chosen (Route p n) = refl
none_chosen (AsSet n) = refl
none_chosen (RouteSet n) = refl

chosen_more : (prefixes : List PrefixParts) (i : ℕ) (q : PrefixParts) → i < length prefixes →
    q ≡ get_or prefixes i q → (k : Key)
    → is_chosen [] (map span_of (take (i + 1) prefixes)) k
    ≡ (is_chosen [] (map span_of (take i prefixes)) k || is_chosen [] (span_of q ∷ []) k)
chosen_more prefixes i q inside is (Mntner n) = refl
chosen_more prefixes i q inside is (AsBlock t) = refl
chosen_more prefixes i q inside is (AutNum n) = refl
chosen_more prefixes i q inside is (Inetnum t) = refl
chosen_more prefixes i q inside is (Route p n) =
    let test : PrefixParts → Bool = λ x. eq_by_cmp span_cmp (span_of p) (span_of x) in
    any_mapped (eq_by_cmp span_cmp (span_of p)) span_of (take (i + 1) prefixes)
    ∙ list_any_more test prefixes i q inside
    ∙ ap (λ x. list_any test (take i prefixes) || test x) (sym is)
    ∙ (λ i'. sym (any_mapped (eq_by_cmp span_cmp (span_of p)) span_of (take i prefixes)) i' || sym
    (or_none (test q)) i')
chosen_more prefixes i q inside is (AsSet n) = refl
chosen_more prefixes i q inside is (RouteSet n) = refl

regrouped : (old c a b : Bool) → ((old || (c && a)) || (c && b)) ≡ (old || (c && (a || b)))
regrouped true c a b = refl
regrouped false true a b = refl
regrouped false false a b = refl

-- the keys of the routes of one more prefix
pub routes_more : (r : Reg) (prefixes : List PrefixParts) (i : ℕ) (q : PrefixParts)
    (old before after : BTreeSet Key) → i < length prefixes → q ≡ get_or prefixes i q
    →
    ((k : Key) → contains key_cmp before k
    ≡
    (contains key_cmp old k ||
    (contains_key r k && is_chosen [] (map span_of (take i prefixes)) k)))
    →
    ((k : Key) → contains key_cmp after k
    ≡ (contains key_cmp before k || (contains_key r k && is_chosen [] (span_of q ∷ []) k)))
    → (k : Key) → contains key_cmp after k
    ≡
    (contains key_cmp old k ||
    (contains_key r k && is_chosen [] (map span_of (take (i + 1) prefixes)) k))
routes_more r prefixes i q old before after inside is so step k =
    step k
    ∙ ap (λ b. b || (contains_key r k && is_chosen [] (span_of q ∷ []) k)) (so k)
    ∙ regrouped (contains key_cmp old k) (contains_key r k)
    (is_chosen [] (map span_of (take i prefixes)) k) (is_chosen [] (span_of q ∷ []) k)
    ∙ ap (λ b. contains key_cmp old k || (contains_key r k && b))
    (sym (chosen_more prefixes i q inside is k))

-- no prefix chooses none of the keys
pub nothing_more : (r : Reg) (keys : BTreeSet Key) (k : Key) → contains key_cmp keys k
    ≡ (contains key_cmp keys k || (contains_key r k && is_chosen [] [] k))
nothing_more r keys k =
    sym (or_none (contains key_cmp keys k))
    ∙ ap (λ b. contains key_cmp keys k || b) (sym (and_none (contains_key r k))
    ∙ ap (λ b. contains_key r k && b) (sym (none_chosen k)))
  where
    and_none : (b : Bool) → (b && false) ≡ false
    and_none true = refl
    and_none false = refl

-- a key stands under one of the entries
abbrev pub is_at_some : Key → List (Key × Obj) → Bool
is_at_some k es = list_any (λ e. eq_by_cmp key_cmp k e.0) es

next_key : (a b c : Bool) → (cond a true b || c) ≡ (b || (a || c))
next_key true true c = refl
next_key true false c = refl
next_key false true c = refl
next_key false false c = refl

-- one more key of the entries
pub entry_more : (all : Key → Bool) (left rest : List (Key × Obj)) (e : Key × Obj) (key : Key)
    (before after : BTreeSet Key) → left ≡ e ∷ rest → key ≡ e.0
    → Updates (derived.ghosts).cmp before after key true →
    ((k : Key) → (contains key_cmp before k || is_at_some k left) ≡ all k)
    → (k : Key) → (contains key_cmp after k || is_at_some k rest) ≡ all k
entry_more all left rest e key before after step is update so k =
    ap (λ b. b || is_at_some k rest) (updated_keys before after key true update k)
    ∙ ap (λ b. cond b true (contains key_cmp before k) || is_at_some k rest)
    (eq_swap key k ∙ ap (eq_by_cmp key_cmp k) is)
    ∙ next_key (eq_by_cmp key_cmp k e.0) (contains key_cmp before k) (is_at_some k rest)
    ∙ ap (λ es. contains key_cmp before k || is_at_some k es) (sym step)
    ∙ so k

kept_case : (p : Key → Bool) (k : Key) (e : Key × Obj) (es : List (Key × Obj)) (a b : Bool) →
    p e.0 ≡ a → eq_by_cmp key_cmp k e.0 ≡ b
    → is_at_some k (filter (λ x. p x.0) es) ≡ (is_at_some k es && p k) →
    is_at_some k (cond a (e ∷ filter (λ x. p x.0) es) (filter (λ x. p x.0) es))
    ≡ ((b || is_at_some k es) && p k)
kept_case p k e es true true passes tied rest =
    ap (λ x. x || is_at_some k (filter (λ y. p y.0) es)) tied
    ∙ sym (ap p (same_key k e.0 tied) ∙ passes)
kept_case p k e es true false passes tied rest =
    ap (λ x. x || is_at_some k (filter (λ y. p y.0) es)) tied ∙ rest
kept_case p k e es false true passes tied rest = rest ∙ ap (λ x. is_at_some k es && x) fails
    ∙ none_passes (is_at_some k es) ∙ sym fails
  where
    fails : p k ≡ false
    fails = ap p (same_key k e.0 tied) ∙ passes

    none_passes : (b : Bool) → (b && false) ≡ false
    none_passes true = refl
    none_passes false = refl
kept_case p k e es false false passes tied rest = rest

any_kept : (p : Key → Bool) (k : Key) (es : List (Key × Obj)) →
    is_at_some k (filter (λ x. p x.0) es) ≡ (is_at_some k es && p k)
any_kept p k [] = refl
any_kept p k (e ∷ es) = kept_case p k e es (p e.0) (eq_by_cmp key_cmp k e.0) refl refl
    (any_kept p k es)

-- a key of a route of the prefix is one whose prefix has its span
origin_chosen : (q : PrefixParts) → IsMasked q → (k : Key) → IsKeyValue k → is_some (origin_at q k)
    ≡ is_chosen [] (span_of q ∷ []) k
origin_chosen q masked (Mntner n) is = refl
origin_chosen q masked (AsBlock t) is = refl
origin_chosen q masked (AutNum n) is = refl
origin_chosen q masked (Inetnum t) is = refl
origin_chosen q masked (Route p n) is =
    chosen_if (same_prefix p q)
    ∙ both_or_none (same_prefix p q) (eq_by_cmp span_cmp (span_of p) (span_of q))
    (λ same. same_tied (span_of p) (span_of q) (ap span_of (same_parts p q same)))
    (λ tied. ap (λ x. same_prefix x q)
    (spans_tell p q is.masked masked (tied_same (span_of p) (span_of q) tied)) ∙ itself q)
    ∙ sym (or_none (eq_by_cmp span_cmp (span_of p) (span_of q)))
  where
    chosen_if : (b : Bool) → is_some (cond b (Some n) None) ≡ b
    chosen_if true = refl
    chosen_if false = refl
origin_chosen q masked (AsSet n) is = refl
origin_chosen q masked (RouteSet n) is = refl

module _ (r : Reg) (sound : Sound r) where
  there_or_not : (k : Key) (a b : Bool) → ((o : Obj) → get r k ≡ Some o → a ≡ b) →
      (contains_key r k && a) ≡ (contains_key r k && b)
  there_or_not k a b same =
      elim (get r k) as (λ v. get r k ≡ v → (is_some v && a) ≡ (is_some v && b)) [
        | None ↦ λ e. refl
        | Some o ↦ λ e. same o e
      ] refl

  -- the keys between the least and the greatest of a prefix are those of its routes
  pub routes_between : (q : PrefixParts) (first last : Key) → IsMasked q → first ≡ Route q 0 →
      last ≡ Route q greatest_as_number → (k : Key)
      → is_at_some k (filter (λ e. lies_between first last e.0) (entries r))
      ≡ (contains_key r k && is_chosen [] (span_of q ∷ []) k)
  routes_between q first last masked low high k =
      (λ i. is_at_some k (filter (λ (e : Key × Obj). lies_between (low i) (high i) e.0)
      (entries r)))
      ∙ any_kept (lies_between (Route q 0) (Route q greatest_as_number)) k (entries r)
      ∙ ap (λ b. b && lies_between (Route q 0) (Route q greatest_as_number) k)
      (sym (contains_key-keys r k ∙ any_mapped (eq_by_cmp key_cmp k) (λ (e : Key × Obj). e.0)
      (entries r)))
      ∙ there_or_not k (lies_between (Route q 0) (Route q greatest_as_number) k)
      (is_chosen [] (span_of q ∷ []) k) (λ o at.
      let formed = sound.formed k o at in
      origins_between q k formed ∙ origin_chosen q masked k formed)

  -- the keys that were chosen in turn
  pub chosen_both : (spans routed : List Ends) (first all : BTreeSet Key) →
      ((k : Key) → contains key_cmp first k ≡ is_chosen spans [] k)
      →
      ((k : Key) → contains key_cmp all k
      ≡ (contains key_cmp first k || (contains_key r k && is_chosen [] routed k)))
      → (k : Key) (o : Obj) → get r k ≡ Some o → contains key_cmp all k ≡ is_chosen spans routed k
  chosen_both spans routed first all inetnums more k o at =
      more k
      ∙ (λ i. inetnums k i || (ap is_some at i && is_chosen [] routed k))
      ∙ joined k
    where
      joined : (l : Key) → (is_chosen spans [] l || is_chosen [] routed l) ≡ is_chosen spans routed
          l
      joined (Mntner n) = refl
      joined (AsBlock t) = refl
      joined (AutNum n) = refl
      joined (Inetnum t) = or_none (is_among spans t)
      joined (Route p n) = refl
      joined (AsSet n) = refl
      joined (RouteSet n) = refl

-- the entries to which keys lead
abbrev led : Key → Option Obj → List (Key × Obj) → List (Key × Obj)
led k None es = es
led k (Some o) es = (k, o) ∷ es

abbrev led_all : (Key → Option Obj) → List Key → List (Key × Obj)
led_all f [] = []
led_all f (k ∷ ks) = led k (f k) (led_all f ks)

led_values : (f : Key → Option Obj) (ks : List Key) → values_of (led_all f ks) ≡ filter_map f ks
led_values f [] = refl
led_values f (k ∷ ks) =
    elim (f k) as (λ v. values_of (led k v (led_all f ks)) ≡ cons_option v (filter_map f ks)) [
      | None ↦ led_values f ks
      | Some o ↦ ap (λ os. o ∷ os) (led_values f ks)
    ]

less_true : (o : Ordering) → o ≡ Less → T (is_lt o)
less_true o e = subst (λ r. T (is_lt r)) (sym e) tt

led_below : (f : Key → Option Obj) (k : Key) (ks : List Key) →
    AllByRecursion (λ y. key_cmp k y ≡ Less) ks → T (below_all key_cmp k (led_all f ks))
led_below f k [] h = tt
led_below f k (l ∷ ks) h =
    elim (f l) as (λ v. T (below_all key_cmp k (led l v (led_all f ks)))) [
      | None ↦ led_below f k ks h.1
      | Some o ↦ both (is_lt (key_cmp k l)) (below_all key_cmp k (led_all f ks))
          (less_true (key_cmp k l) h.0) (led_below f k ks h.1)
    ]

led_sorted : (f : Key → Option Obj) (ks : List Key) → IsStrictlySortedBy key_cmp ks →
    T (is_sorted key_cmp (led_all f ks))
unfolding IsStrictlySortedBy
led_sorted f [] h = tt
led_sorted f (k ∷ ks) h =
    elim (f k) as (λ v. T (is_sorted key_cmp (led k v (led_all f ks)))) [
      | None ↦ led_sorted f ks h.1
      | Some o ↦ both (below_all key_cmp k (led_all f ks)) (is_sorted key_cmp (led_all f ks))
          (led_below f k ks h.0) (led_sorted f ks h.1)
    ]

both_none : (b : Bool) → ◌≡◌ {A = Option Obj} (cond b None None) None
both_none true = refl
both_none false = refl

led_one : (f : Key → Option Obj) (q k : Key) (ks : List Key) → find_entry key_cmp q (led_all f ks)
    ≡ cond (list_any (eq_by_cmp key_cmp q) ks) (f q) None
    → (v : Option Obj) → f k ≡ v → (b : Bool) → eq_by_cmp key_cmp q k ≡ b
    → find_entry key_cmp q (led k v (led_all f ks)) ≡ cond (b || list_any (eq_by_cmp key_cmp q) ks)
    (f q) None
led_one f q k ks rest None is true e =
    let at : f q ≡ None = ap f (same_key q k e) ∙ is in
    rest ∙ ap (λ v. cond (list_any (eq_by_cmp key_cmp q) ks) v None) at ∙ both_none
    (list_any (eq_by_cmp key_cmp q) ks) ∙ sym at
led_one f q k ks rest None is false e = rest
led_one f q k ks rest (Some o) is true e =
    ap (λ b. cond b (Some o) (find_entry key_cmp q (led_all f ks))) e
    ∙ sym (ap f (same_key q k e) ∙ is)
led_one f q k ks rest (Some o) is false e =
    ap (λ b. cond b (Some o) (find_entry key_cmp q (led_all f ks))) e ∙ rest

-- an entry is found where its key is among those that lead
led_found : (f : Key → Option Obj) (q : Key) (ks : List Key) → find_entry key_cmp q (led_all f ks)
    ≡ cond (list_any (eq_by_cmp key_cmp q) ks) (f q) None
led_found f q [] = refl
led_found f q (k ∷ ks) = led_one f q k ks (led_found f q ks) (f k) refl (eq_by_cmp key_cmp q k) refl

module _ (r : Reg) (sound : Sound r) where
  -- keys in order that choose as a test does lead to the objects that pass it
  pub led_to : (p : Key → Bool) (ks : BTreeSet Key) → IsStrictlySortedBy (derived.ghosts).cmp
      ks.keys → ((k : Key) (o : Obj) → get r k ≡ Some o → contains key_cmp ks k ≡ p k)
      → filter_map (λ k. get r k) ks.keys ≡ filter (λ o. p o.key) (values r)
  led_to p ks rise is =
      sym (led_values (λ k. get r k) ks.keys)
      ∙ ap values_of (same_entries key_cmp keys_total keys_exact (led_all (λ k. get r k) ks.keys)
      (where_key key_cmp p (entries r))
      (led_sorted (λ k. get r k) ks.keys
      (subst (λ (cmp : Key → Key → Ordering). IsStrictlySortedBy cmp ks.keys) one_order rise))
      (is_sorted-where_key key_cmp p (entries r) (entries_sorted r))
      (λ q. led_found (λ k. get r k) q ks.keys ∙ chosen_or_not q
      ∙ sym (find-where_key key_cmp p q (λ x tied. ap p (sym (keys_exact q x tied)))
      (entries r) ∙ ap (λ v. cond (p q) v None) (sym (get-entries r q)))))
      ∙ values_between r sound p
    where
      chosen_or_not : (q : Key) → cond (list_any (eq_by_cmp key_cmp q) ks.keys) (get r q) None
          ≡ cond (p q) (get r q) None
      chosen_or_not q =
          elim (get r q) as (λ v. get r q ≡ v → cond (list_any (eq_by_cmp key_cmp q) ks.keys) v
          None ≡ cond (p q) v None) [
            | None ↦ λ e. both_none (list_any (eq_by_cmp key_cmp q) ks.keys) ∙ sym (both_none (p q))
            | Some o ↦ λ e. ap (λ b. cond b (Some o) None) (is q o e)
          ] refl

  -- the inetnums and routes whose spans pass a test, by the spans that are held of them and pass it
  pub listed_by : (inetnums blocks routes : SpanMap (Unit {0})) → HasSpans r inetnums blocks routes
      → (p : Ends → Bool) (spans routed : List Ends)
      → spans ≡ filter p (keys inetnums) → routed ≡ filter p (keys routes)
      → filter (λ o. is_chosen spans routed o.key) (values r)
      ≡ filter (λ o. option_map_or p (addresses o.key) false) (values r)
  listed_by inetnums blocks routes has p spans routed are_spans are_routed =
      same_picked (λ o. is_chosen spans routed o.key) (λ o. option_map_or p (addresses o.key)
      false) (values r)
      (λ o at. passes o.key (ap is_some (stands_at r o sound at)))
    where
      among : (m : SpanMap (Unit {0})) (ss : List Ends) (t : Ends) → ss ≡ filter p (keys m) →
          contains_key m t ≡ true → is_among ss t ≡ p t
      among m ss t are held =
          ap (λ xs. is_among xs t) are
          ∙ any_filter p (keys m) t
          ∙ ap (λ b. b && p t) (sym (contains_key-keys m t) ∙ held)

      passes : (k : Key) → contains_key r k ≡ true → is_chosen spans routed k ≡ option_map_or p
          (addresses k) false
      passes (Mntner n) there = refl
      passes (AsBlock t) there = refl
      passes (AutNum n) there = refl
      passes (Inetnum t) there = among inetnums spans t are_spans (has.inetnums_are t ∙ there)
      passes (Route q n) there = among routes routed (span_of q) are_routed
          (has.routes_are q n there)
      passes (AsSet n) there = refl
      passes (RouteSet n) there = refl
