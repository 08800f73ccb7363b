-- Objects whose keys rise: each is put after those before it.
-- Where keys rise, each object goes last, so it is enough to ask the spans gone over. Inetnums and
-- AS blocks share one module; the five other classes are told apart and cross nothing. That all
-- before the last are below it is an induction by hand. `are_in_order`, `none_cross` and
-- `GoneOver::go_over` need it.
use Rattle.std.proofs.Common.{◌≡◌, ◌⊎◌, ◌||◌, ℕ, ◌+◌, ◌-◌, ◌<◌, ◌≤◌, Bool, true, false, ◌&&◌, inl}
use Rattle.std.proofs.Common.{inr, List, [], ◌∷◌, ◌++◌, length, get_or, take, drop, refl, sym, ap}
use Rattle.std.proofs.Common.{subst, ◌∙◌, add-one, arith}
use Rattle.std.specs.Prelude.{map}
use Rattle.std.specs.Cmp.{ranked}
use Rattle.std.specs.declared.cmp.Ordering.{Ordering}
use Rattle.std.specs.declared.cmp.Ordering.TheVariants.{Less, Equal, Greater}
use Rattle.std.specs.FinMap.{empty}
use Rattle.std.specs.FinMap.Entries.{below_all, by_order}
use Rattle.std.specs.Ordering.{eq_by_cmp, is_eq, is_lt, nat_cmp, ordering_reverse, ordering_then}
use Rattle.std.proofs.Math.Seq.{drop-cons}
use Rattle.std.proofs.lemmas.Bool.{and_from, and_parts, both_ways, false_from_ne_true, or_cases}
use Rattle.std.proofs.lemmas.Bool.{or_from, or_left, or_right}
use Rattle.std.proofs.lemmas.List.{drop_all, take-append-drop, take_all, take_more}
use Rattle.std.proofs.lemmas.List.Folds.{list_any-append}
use Rattle.rr_number.specs.Spans.{Ends, crosses}
use Rattle.rr_object.proofs.Digits.{then_equal}
use Rattle.rr_object.proofs.KeyLaws.{keys_total, same_key, tied_key}
use Rattle.rr_object.specs.declared.key.Key.{Key}
use Rattle.rr_object.specs.declared.key.Key.TheVariants.{AsBlock, AsSet, AutNum, Inetnum, Mntner}
use Rattle.rr_object.specs.declared.key.Key.TheVariants.{Route, RouteSet}
use Rattle.rr_object.specs.KeyOrders.{IsKeyValue, key_cmp}
use Rattle.rr_object.specs.Objects.{Obj}
use Rattle.rr_auth.specs.Elements.{IsIn}
use Rattle.rr_auth.proofs.Members.{all_fail, passing_one, some_passes}
use Rattle.rr_auth.specs.Registries.{keys_cross, is_crossed_by_some}
use Rattle.rr_book.proofs.Crossing.{none_crosses}
use Rattle.rr_book.proofs.Order.{empty_book}
use Rattle.rr_book.specs.Books.{book_of, entry, is_in_order, put_in}
use Rattle.rr_registry.proofs.Gathering.{clash_next, none_apart, taken_in}
use Rattle.rr_registry.proofs.Held.{crossing_block, crossing_inetnum}
use Rattle.rr_registry.specs.declared.open_spans.OpenSpans.{OpenSpans}
use Rattle.rr_registry.specs.Loading.{clash, gathered, is_key_of_some}
use Rattle.rr_registry.specs.OpenSpanParts.{AreGoneOver, HasGoneOver, IsJoined, IsGoneOver}
use Rattle.rr_registry.specs.OpenSpanParts.{GoesOver, ComesAfter}
use Rattle.rr_registry.specs.Private.{IsApart, IsGathered, is_below}

less : (r : Ordering) → is_lt r ≡ true → r ≡ Less
less Less e = refl
less Equal e = absurd (cc)
less Greater e = absurd (cc)

above : (k l : Key) → key_cmp k l ≡ Less → key_cmp l k ≡ Greater
above k l e = keys_total.antisymm l k ∙ ap ordering_reverse e

-- a key that is below another is below all that this is below
below_more : (k l : Key) → key_cmp k l ≡ Less → (os : List Obj) →
    below_all key_cmp l (map entry os) ≡ true → below_all key_cmp k (map entry os) ≡ true
below_more k l e [] h = refl
below_more k l e (x ∷ xs) h =
    let parts = and_parts (is_lt (key_cmp l x.key)) (below_all key_cmp l (map entry xs)) h in
    and_from _ _ (ap is_lt (keys_total.trans k l x.key e (less _ parts.0)))
    (below_more k l e xs parts.1)

below_rest : (r : Ordering) (o x : Obj) (xs : List Obj) → key_cmp o.key x.key ≡ r →
    is_in_order (x ∷ xs) ≡ true
    → (is_lt r && below_all key_cmp o.key (map entry xs)) ≡ is_lt r
below_rest Less o x xs e rise = below_more o.key x.key e xs
    (and_parts (below_all key_cmp x.key (map entry xs)) _ rise).0
below_rest Equal o x xs e rise = refl
below_rest Greater o x xs e rise = refl

under : (a b c : Bool) → (b ≡ true → a ≡ c) → (a && b) ≡ (c && b)
under a true c f = ap (λ x. x && true) (f refl)
under true false true f = refl
under true false false f = refl
under false false true f = refl
under false false false f = refl

-- the keys of objects rise where the first is below the second and the others rise
pub rises_by_first : (o : Obj) (os : List Obj) → is_in_order (o ∷ os)
    ≡ (is_below o os && is_in_order os)
rises_by_first o [] = refl
rises_by_first o (x ∷ xs) =
    under (is_lt (key_cmp o.key x.key) && below_all key_cmp o.key (map entry xs))
    (is_in_order (x ∷ xs)) (is_lt (key_cmp o.key x.key))
    (λ rise. below_rest (key_cmp o.key x.key) o x xs refl rise)

pub rises_on : (all rest later : List Obj) (o : Obj) → is_in_order all ≡ is_in_order rest →
    rest ≡ o ∷ later → is_below o later ≡ true → is_in_order all ≡ is_in_order later
rises_on all rest later o same is below = same ∙ ap is_in_order is ∙ rises_by_first o later
    ∙ ap (λ b. b && is_in_order later) below

pub rises_not : (all rest later : List Obj) (o : Obj) → is_in_order all ≡ is_in_order rest →
    rest ≡ o ∷ later → is_below o later ≡ false → false ≡ is_in_order all
rises_not all rest later o same is below = sym (same ∙ ap is_in_order is ∙ rises_by_first o later
    ∙ ap (λ b. b && is_in_order later) below)

-- a list is its first object and those after it
pub first_and_rest : (os : List Obj) (o : Obj) → 1 ≤ length os → o ≡ get_or os 0 o →
    os ≡ o ∷ take (length os - 1) (drop 1 os)
first_and_rest [] o some is = absurd (omega arith)
first_and_rest (x ∷ xs) o some is = λ i.
    sym is i ∷ sym (take_all (length (x ∷ xs) - 1) xs (omega arith)) i

-- a key that is below all of a list is below its last
below_last : (k : Key) (os : List Obj) (o : Obj) → below_all key_cmp k (map entry (os ++ o ∷ []))
    ≡ true → key_cmp k o.key ≡ Less
below_last k [] o e = less _ (and_parts (is_lt (key_cmp k o.key)) true e).0
below_last k (x ∷ os) o e =
    below_last k os o
    (and_parts (is_lt (key_cmp k x.key)) (below_all key_cmp k (map entry (os ++ o ∷ []))) e).1

below_prefix : (k : Key) (xs ys : List Obj) → below_all key_cmp k (map entry (xs ++ ys)) ≡ true →
    below_all key_cmp k (map entry xs) ≡ true
below_prefix k [] ys e = refl
below_prefix k (x ∷ xs) ys e =
    let parts = and_parts (is_lt (key_cmp k x.key)) (below_all key_cmp k (map entry (xs ++ ys))) e
    in and_from _ _ parts.0 (below_prefix k xs ys parts.1)

prefix_in_order : (xs ys : List Obj) → is_in_order (xs ++ ys) ≡ true → is_in_order xs ≡ true
prefix_in_order [] ys e = refl
prefix_in_order (x ∷ xs) ys e =
    let parts = and_parts (below_all key_cmp x.key (map entry (xs ++ ys))) (is_in_order (xs ++ ys))
    e in and_from _ _ (below_prefix x.key xs ys parts.0) (prefix_in_order xs ys parts.1)

-- the first objects of some that rise, with the next of them
first_rise : (os : List Obj) (i : ℕ) (o : Obj) → i < length os → o ≡ get_or os i o → is_in_order os
    ≡ true → is_in_order (take i os ++ o ∷ []) ≡ true
first_rise os i o inside is rise =
    let cut : take (i + 1) os ≡ take i os ++ o ∷ [] = take_more os i o inside
    ∙ ap (λ x. take i os ++ x ∷ []) (sym is) in
    ap is_in_order (sym cut) ∙ prefix_in_order (take (i + 1) os) (drop (i + 1) os)
    (ap is_in_order (take-append-drop (i + 1) os) ∙ rise)

module _ (o : Obj) where
  -- the key of the last is none of those before it, and that is where the object is put
  new_key : (os : List Obj) → is_in_order (os ++ o ∷ []) ≡ true → is_key_of_some o.key os ≡ false
  new_key [] rise = refl
  new_key (x ∷ xs) rise =
      let parts = and_parts (below_all key_cmp x.key (map entry (xs ++ o ∷ [])))
      (is_in_order (xs ++ o ∷ [])) rise in
      or_from _ _ (ap is_eq (above x.key o.key (below_last x.key xs o parts.0)))
      (new_key xs parts.1)

  put_last : (os : List Obj) → is_in_order (os ++ o ∷ []) ≡ true → put_in o os ≡ os ++ o ∷ []
  put_last [] rise = refl
  put_last (x ∷ xs) rise =
      let parts = and_parts (below_all key_cmp x.key (map entry (xs ++ o ∷ [])))
      (is_in_order (xs ++ o ∷ [])) rise in
      ap (λ r. by_order r (o ∷ x ∷ xs) (o ∷ xs) (x ∷ put_in o xs))
      (above x.key o.key (below_last x.key xs o parts.0)) ∙ ap (λ ys. x ∷ ys)
      (put_last xs parts.1)

-- those before the last have keys below its key
all_below : (os : List Obj) (o : Obj) → is_in_order (os ++ o ∷ []) ≡ true → (x : Obj) → IsIn x os →
    key_cmp x.key o.key ≡ Less
all_below [] o rise x i = absurd i
all_below (y ∷ ys) o rise x (inl is) =
    let parts = and_parts (below_all key_cmp y.key (map entry (ys ++ o ∷ [])))
    (is_in_order (ys ++ o ∷ [])) rise in
    ap (λ (z : Obj). key_cmp z.key o.key) is ∙ below_last y.key ys o parts.0
all_below (y ∷ ys) o rise x (inr i) =
    let parts = and_parts (below_all key_cmp y.key (map entry (ys ++ o ∷ [])))
    (is_in_order (ys ++ o ∷ [])) rise in all_below ys o parts.1 x i

-- a key is that of some of objects and one more, where it is that of some of them or of this one
or_none : (a b : Bool) → (a || (b || false)) ≡ (a || b)
or_none true b = refl
or_none false true = refl
or_none false false = refl

one_more : (k : Key) (os : List Obj) (o : Obj) → is_key_of_some k (os ++ o ∷ [])
    ≡ (is_key_of_some k os || eq_by_cmp key_cmp k o.key)
one_more k os o = list_any-append (λ x. eq_by_cmp key_cmp k x.key) os (o ∷ [])
    ∙ or_none (is_key_of_some k os) (eq_by_cmp key_cmp k o.key)

or_no_more : (a b : Bool) → b ≡ false → (a || b) ≡ a
or_no_more true b e = refl
or_no_more false b e = e

-- the spans of the keys of a class that objects have
abbrev pub spans_of : (Ends → Key) → List Obj → Ends → Bool
spans_of key os s = is_key_of_some (key s) os

-- what is told of spans that are gone over
abbrev pub GoesOn : OpenSpans → Ends → OpenSpans → Type 0
GoesOn before s now = (gone more : Ends → Bool) → HasGoneOver gone before → ComesAfter gone s →
    IsJoined gone s more → GoesOver gone s more now

-- spans of a class stay gone over after an object of another
others_passed : (key : Ends → Key) (os : List Obj) (o : Obj) (passed : OpenSpans) →
    ((s : Ends) → eq_by_cmp key_cmp (key s) o.key ≡ false)
    → HasGoneOver (spans_of key os) passed → HasGoneOver (spans_of key (os ++ o ∷ [])) passed
others_passed key os o passed other held =
    subst (λ (gone : Ends → Bool). HasGoneOver gone passed)
    (λ i s. sym (one_more (key s) os o ∙ or_no_more (spans_of key os s)
    (eq_by_cmp key_cmp (key s) o.key) (other s)) i) held

module _ (key : Ends → Key) (same_span : (s t : Ends) → key s ≡ key t → s ≡ t)
    (below : (s t : Ends) → key_cmp (key s) (key t) ≡ Less → (s.first ≤ t.first)
    × (s.first ≡ t.first → s.last ≤ t.last))
    (crossing : (k : Key) (s : Ends) → keys_cross k (key s) ≡ true → (t : Ends)
    × ((k ≡ key t) × (crosses t s ≡ true)))
    (os : List Obj) (o : Obj) (s : Ends) (is : o.key ≡ key s) (rise : is_in_order (os ++ o ∷ [])
    ≡ true) where
  span_rises : ComesAfter (spans_of key os) s
  span_rises t held =
      let one = passing_one (λ x. eq_by_cmp key_cmp (key t) x.key) os held in
      below t s (ap (λ k. key_cmp k (key s)) (same_key (key t) one.0.key one.1.1)
      ∙ ap (key_cmp one.0.key) (sym is) ∙ all_below os o rise one.0 one.1.0)

  span_joined : IsJoined (spans_of key os) s (spans_of key (os ++ o ∷ []))
  span_joined = record {
    each = λ t held. elim (or_cases (spans_of key os t) (eq_by_cmp key_cmp (key t) o.key)
        (sym (one_more (key t) os o) ∙ held)) as (λ _. (t ≡ s) ⊎ (spans_of key os t ≡ true)) [
          | inl old ↦ inr old
          | inr own ↦ inl (same_span t s (same_key (key t) o.key own ∙ is))
        ];
    own = one_more (key s) os o ∙ or_right (spans_of key os s) (eq_by_cmp key_cmp (key s) o.key)
        (ap (λ k. eq_by_cmp key_cmp k o.key) (sym is) ∙ tied_key o.key);
    old = λ t held. one_more (key t) os o ∙ or_left (spans_of key os t)
        (eq_by_cmp key_cmp (key t) o.key) held;
  }

  span_free : ((t : Ends) → spans_of key os t ≡ true → crosses t s ≡ false) →
      is_crossed_by_some o.key os ≡ false
  span_free apart = all_fail (λ x. keys_cross x.key o.key) os
      (λ x i. false_from_ne_true (keys_cross x.key o.key) (λ crossed.
      let at = crossing x.key s (ap (keys_cross x.key) (sym is) ∙ crossed) in
      let held = some_passes (λ y. eq_by_cmp key_cmp (key at.0) y.key) x os i
      (ap (λ k. eq_by_cmp key_cmp k x.key) (sym at.1.0) ∙ tied_key x.key) in
      both_ways _ (apart at.0 held) at.1.1))

  -- what is told of spans goes for the objects of a class
  span_passed : (before now : OpenSpans) → HasGoneOver (spans_of key os) before →
      GoesOn before s now
      → (is_crossed_by_some o.key os ≡ false) × HasGoneOver (spans_of key (os ++ o ∷ [])) now
  span_passed before now held told =
      let p = told (spans_of key os) (spans_of key (os ++ o ∷ [])) held span_rises span_joined in
      (span_free p.free, p.passed)

words_below : (a b c d : ℕ) → ordering_then (nat_cmp a c) (ordering_then (nat_cmp b d) Equal)
    ≡ Less → (a ≤ c) × (a ≡ c → b ≤ d)
words_below a b c d e =
    elim (nat_cmp a c) as (λ r. nat_cmp a c ≡ r →
    ordering_then r (ordering_then (nat_cmp b d) Equal) ≡ Less → (a ≤ c) × (a ≡ c → b ≤ d)) [
      | Less ↦ λ f g. let low : a < c = ranked a c Less (sym f) in
          (omega (arith, low), λ same. omega (arith, low, same))
      | Equal ↦ λ f g. let low : b < d = ranked b d Less (sym (sym (then_equal (nat_cmp b d)) ∙ g))
          in let same : a ≡ c = ranked a c Equal (sym f) in
          (omega (arith, same), λ _. omega (arith, low))
      | Greater ↦ λ f g. absurd (cc)
    ] refl e

module _ (os : List Obj) (o : Obj) (inetnums blocks : OpenSpans)
    (held : AreGoneOver os inetnums blocks) where
  pub inetnum_passed : (s : Ends) (now : OpenSpans) → o.key ≡ Inetnum s →
      is_in_order (os ++ o ∷ []) ≡ true → GoesOn inetnums s now → IsGoneOver os o now blocks
  inetnum_passed s now is rise told =
      let p = span_passed Inetnum (λ t u e. cc) (λ t u e. words_below t.first t.last u.first u.last
      e) crossing_inetnum os o s is rise inetnums now held.inetnums_are told in
      record {
        free = p.0;
        passed = record {
          inetnums_are = p.1;
          blocks_are = others_passed AsBlock
              os o blocks (λ t. ap (eq_by_cmp key_cmp (AsBlock t)) is) held.blocks_are;
        };
      }

  pub block_passed : (s : Ends) (now : OpenSpans) → o.key ≡ AsBlock s → is_in_order (os ++ o ∷ [])
      ≡ true → GoesOn blocks s now → IsGoneOver os o inetnums now
  block_passed s now is rise told =
      let p = span_passed AsBlock (λ t u e. cc) (λ t u e. words_below t.first t.last u.first u.last
      e) crossing_block os o s is rise blocks now held.blocks_are told in
      record {
        free = p.0;
        passed = record {
          inetnums_are = others_passed Inetnum os o inetnums
              (λ t. ap (eq_by_cmp key_cmp (Inetnum t)) is) held.inetnums_are;
          blocks_are = p.1;
        };
      }

  no_span_passed : (k : Key) → o.key ≡ k → is_crossed_by_some k os ≡ false →
      ((s : Ends) → eq_by_cmp key_cmp (Inetnum s) k ≡ false) →
      ((s : Ends) → eq_by_cmp key_cmp (AsBlock s) k ≡ false) → IsGoneOver os o inetnums blocks
  no_span_passed k is free no_inetnum no_block = record {
    free = ap (λ l. is_crossed_by_some l os) is ∙ free;
    passed = record {
      inetnums_are = others_passed Inetnum os o inetnums (λ s. ap (eq_by_cmp key_cmp (Inetnum s))
          is ∙ no_inetnum s) held.inetnums_are;
      blocks_are = others_passed AsBlock os o blocks (λ s. ap (eq_by_cmp key_cmp (AsBlock s)) is
          ∙ no_block s) held.blocks_are;
    };
  }

  pub rest_passed : (k : Key) → o.key ≡ k → ((s : Ends) → k ≡ Inetnum s → ⊥) →
      ((s : Ends) → k ≡ AsBlock s → ⊥) → IsGoneOver os o inetnums blocks
  rest_passed (Mntner n) is a b = no_span_passed (Mntner n) is (none_crosses (Mntner n) os refl)
      (λ s. refl) (λ s. refl)
  rest_passed (AsBlock s) is a b = absurd (b s refl)
  rest_passed (AutNum n) is a b = no_span_passed (AutNum n) is (none_crosses (AutNum n) os refl)
      (λ s. refl) (λ s. refl)
  rest_passed (Inetnum s) is a b = absurd (a s refl)
  rest_passed (Route p n) is a b = no_span_passed (Route p n) is (none_crosses (Route p n) os refl)
      (λ s. refl) (λ s. refl)
  rest_passed (AsSet n) is a b = no_span_passed (AsSet n) is (none_crosses (AsSet n) os refl)
      (λ s. refl) (λ s. refl)
  rest_passed (RouteSet n) is a b = no_span_passed (RouteSet n) is
      (none_crosses (RouteSet n) os refl) (λ s. refl) (λ s. refl)

-- the first n objects of a list were gathered as they stand, and gone over
pub record IsReached (os before left : List Obj) (n : ℕ) (inetnums blocks : OpenSpans) :
    Type 0 where
  pub apart : IsApart before
  pub same_clash : clash before (n + 1) left ≡ clash [] 1 os
  pub same_whole : gathered (book_of before) left ≡ gathered empty os
  pub passed : AreGoneOver before inetnums blocks

abbrev pub IsReachedAt : List Obj → ℕ → OpenSpans → OpenSpans → Type 0
IsReachedAt os n inetnums blocks = IsReached os (take n os) (drop n os) n inetnums blocks

pub none_reached : (os : List Obj) (inetnums blocks : OpenSpans) → AreGoneOver [] inetnums blocks →
    IsReachedAt os 0 inetnums blocks
none_reached os inetnums blocks held = record {
  apart = none_apart;
  same_clash = refl;
  same_whole = ap (λ r. gathered r os) empty_book;
  passed = held;
}

-- an object that none before it crosses was taken in after them
more_reached : (os before rest : List Obj) (n : ℕ) (o : Obj)
    (inetnums blocks more_inetnums more_blocks : OpenSpans)
    → IsReached os before (o ∷ rest) n inetnums blocks → is_in_order (before ++ o ∷ []) ≡ true →
    IsKeyValue o.key → IsGoneOver before o more_inetnums more_blocks
    → IsReached os (before ++ o ∷ []) rest (n + 1) more_inetnums more_blocks
more_reached os before rest n o inetnums blocks more_inetnums more_blocks held rise formed passed =
    let grown = before ++ o ∷ [] in
    let taken = taken_in before (n + 1) o grown held.apart formed (new_key o before rise)
    passed.free (sym (put_last o before rise)) in
    record {
      apart = taken.apart;
      same_clash = sym (clash_next before grown (n + 1) o rest taken) ∙ held.same_clash;
      same_whole = ap (λ r. gathered r rest) taken.put ∙ held.same_whole;
      passed = passed.passed;
    }

-- the object after the first n of a list that rises
pub next_reached : (os : List Obj) (n : ℕ) (o : Obj) (k : Key)
    (inetnums blocks more_inetnums more_blocks : OpenSpans) → n < length os → o ≡ get_or os n o →
    o.key ≡ k → is_in_order os ≡ true
    → IsKeyValue o.key → IsReachedAt os n inetnums blocks
    → ((xs : List Obj) (x : Obj) → x.key ≡ k → is_in_order (xs ++ x ∷ []) ≡ true →
    AreGoneOver xs inetnums blocks → IsGoneOver xs x more_inetnums more_blocks)
    → IsReachedAt os (n + 1) more_inetnums more_blocks
next_reached os n o k inetnums blocks more_inetnums more_blocks inside is own rise formed held told
    =
    let left : drop n os ≡ o ∷ drop (n + 1) os = drop-cons os n o inside
    ∙ (λ i. sym is i ∷ drop (sym (add-one n) i) os) in
    let prefix_rises = first_rise os n o inside is rise in
    subst (λ (xs : List Obj). IsReached os xs (drop (n + 1) os) (n + 1) more_inetnums more_blocks)
    (sym (take_more os n o inside ∙ ap (λ x. take n os ++ x ∷ []) (sym is)))
    (more_reached os (take n os) (drop (n + 1) os) n o inetnums blocks more_inetnums more_blocks
    (subst (λ (xs : List Obj). IsReached os (take n os) xs n inetnums blocks) left held)
    prefix_rises formed (told (take n os) o own prefix_rises held.passed))

-- all were gathered
pub all_reached : (os : List Obj) (n : ℕ) (inetnums blocks : OpenSpans) → length os ≤ n →
    IsReachedAt os n inetnums blocks → IsGathered os os
all_reached os n inetnums blocks past held =
    let all = take_all n os past in
    let none = drop_all n os past in
    record {
      free = sym held.same_clash ∙ ap (clash (take n os) (n + 1)) none;
      apart = subst IsApart all held.apart;
      whole = ap book_of (sym all) ∙ ap (gathered (book_of (take n os))) (sym none)
          ∙ held.same_whole;
    }
