-- Objects under their keys, and their spans, as objects are put together.
use Rattle.std.proofs.Common.{◌≡◌, ◌⊎◌, ℕ, Bool, true, false, cond, ◌||◌, inl, inr, List, [], ◌∷◌}
use Rattle.std.proofs.Common.{refl, sym, ap, subst, ◌∙◌}
use Rattle.std.specs.Prelude.{Err, Ok, OnOk, Option, Result, Some, is_some, map}
use Rattle.std.specs.BTreeMap.{insert_entry, is_at, values}
use Rattle.std.specs.declared.cmp.Ordering.TheVariants.{Less, Equal, Greater}
use Rattle.std.specs.FinMap.{contains_key, empty, get-empty, get-insert, insert}
use Rattle.std.specs.FinMap.Entries.{by_order}
use Rattle.std.specs.Map.{lookup, values_of}
use Rattle.std.specs.Ordering.{eq_by_cmp, is_eq, match_ordering, nat_cmp, ordering_then}
use Rattle.rr_number.proofs.SpanOrder.{span_cmp_total}
use Rattle.rr_number.specs.Spans.{Ends, crosses, span_cmp}
use Rattle.rr_object.proofs.DerivedOrder.{derived_order}
use Rattle.rr_object.proofs.Digits.{then_equal}
use Rattle.rr_object.specs.contracts.key.KeyOrd.TheImpl as derived
use Rattle.rr_object.specs.declared.key.Key.{Key}
use Rattle.rr_object.specs.declared.key.Key.TheVariants.{AsBlock, AsSet, AutNum, Inetnum, Mntner}
use Rattle.rr_object.specs.declared.key.Key.TheVariants.{Route, RouteSet}
use Rattle.rr_object.specs.KeyOrders.{IsKeyValue, key_cmp}
use Rattle.rr_object.specs.Objects.{Obj}
use Rattle.rr_object.proofs.KeyLaws.{keys_exact, same_key, tied_key}
use Rattle.rr_auth.proofs.Members.{none_passes, passing_one, some_passes}
use Rattle.rr_auth.specs.Registries.{keys_cross, is_crossed_by_some}
use Rattle.rr_book.proofs.Crossing.{none_crosses}
use Rattle.rr_book.specs.Books.{entry, put_in}
use Rattle.rr_cover.proofs.Ordered.{crosses_found, crosses_missed}
use Rattle.rr_cover.specs.SpanMaps.{SpanMap, crosses_some}
use Rattle.rr_registry.proofs.Gathering.{is_overlap, none_apart, taken_in}
use Rattle.rr_registry.specs.declared.gathered.Gathered.{Gathered}
use Rattle.rr_registry.specs.declared.load.LoadFault.{LoadFault}
use Rattle.rr_registry.specs.declared.load.LoadFault.TheVariants.{Memory, Overlap}
use Rattle.rr_registry.specs.Loading.{clash_of, is_key_of_some}
use Rattle.rr_registry.specs.Private.{HoldsSpans, IsApart, IsConsistent, IsEntered, IsTakenIn}

-- the derived order of keys is their order
pub one_order : (derived.ghosts).cmp ≡ key_cmp
one_order = λ i a b. derived_order a b i

some_or : {A : Type 0} (b : Bool) (x : A) (v : Option A) → is_some (cond b (Some x) v)
    ≡ (b || is_some v)
some_or true x v = refl
some_or false x v = refl

-- a key is looked up where it is some object's
looked : (k : Key) (os : List Obj) → is_some (lookup (is_at (key_cmp k)) (map entry os))
    ≡ is_key_of_some k os
looked k [] = refl
looked k (o ∷ os) = some_or (eq_by_cmp key_cmp k o.key) o
    (lookup (is_at (key_cmp k)) (map entry os)) ∙ ap (λ b. eq_by_cmp key_cmp k o.key || b)
    (looked k os)

pub stands : (es : List (Key × Obj)) (os : List Obj) (k : Key) → es ≡ map entry os →
    is_some (lookup (is_at ((derived.ghosts).cmp k)) es) ≡ is_key_of_some k os
stands es os k keyed = (λ i. is_some (lookup (is_at (one_order i k)) (keyed i))) ∙ looked k os

-- one more entry is that of one more object
entries_put : (o : Obj) (os : List Obj) → insert_entry key_cmp (map entry os) o.key o ≡ map entry
    (put_in o os)
entries_put o [] = refl
entries_put o (x ∷ xs) =
    elim (key_cmp o.key x.key) as (λ r. key_cmp o.key x.key ≡ r
    → match_ordering r ((o.key, o) ∷ (entry x ∷ map entry xs)) ((x.key, o) ∷ map entry xs)
    (entry x ∷ insert_entry key_cmp (map entry xs) o.key o)
    ≡ map entry (by_order r (o ∷ x ∷ xs) (o ∷ xs) (x ∷ put_in o xs))) [
      | Less ↦ λ e. refl
      | Equal ↦ λ e. ap (λ (k : Key). (k, o) ∷ map entry xs) (sym (keys_exact o.key x.key e))
      | Greater ↦ λ e. ap (λ es. entry x ∷ es) (entries_put o xs)
    ] refl

own_values : (os : List Obj) → values_of (map entry os) ≡ os
own_values [] = refl
own_values (o ∷ os) = ap (λ xs. o ∷ xs) (own_values os)

pub grown_entries : (old new : List (Key × Obj)) (os : List Obj) (k : Key) (o : Obj) →
    old ≡ map entry os → k ≡ o.key → new ≡ insert_entry (derived.ghosts).cmp old k o →
    new ≡ map entry (put_in o os)
grown_entries old new os k o keyed same put =
    put ∙ (λ i. insert_entry (one_order i) (keyed i) (same i) o) ∙ entries_put o os

pub grown_values : (new : List (Key × Obj)) (grown : List Obj) → new ≡ map entry grown →
    values_of new ≡ grown
grown_values new grown is = ap values_of is ∙ own_values grown

inetnums_tie : (s t : Ends) → eq_by_cmp key_cmp (Inetnum s) (Inetnum t) ≡ eq_by_cmp span_cmp s t
inetnums_tie s t =
    ap is_eq (ap (ordering_then (nat_cmp s.first t.first)) (then_equal (nat_cmp s.last t.last)))

blocks_tie : (s t : Ends) → eq_by_cmp key_cmp (AsBlock s) (AsBlock t) ≡ eq_by_cmp span_cmp s t
blocks_tie s t =
    ap is_eq (ap (ordering_then (nat_cmp s.first t.first)) (then_equal (nat_cmp s.last t.last)))

spans_in : (m : SpanMap (Unit {0})) (s t : Ends) → contains_key (insert m s tt) t
    ≡ (eq_by_cmp span_cmp t s || contains_key m t)
spans_in m s t = ap is_some (get-insert span_cmp_total m s tt t) ∙ some_or (eq_by_cmp span_cmp t s)
    tt _

pub crossing_inetnum : (k : Key) (s : Ends) → keys_cross k (Inetnum s) ≡ true → (t : Ends)
    × ((k ≡ Inetnum t) × (crosses t s ≡ true))
crossing_inetnum (Mntner n) s e = cc
crossing_inetnum (AsBlock t) s e = cc
crossing_inetnum (AutNum n) s e = cc
crossing_inetnum (Inetnum t) s e = (t, (refl, e))
crossing_inetnum (Route p n) s e = cc
crossing_inetnum (AsSet n) s e = cc
crossing_inetnum (RouteSet n) s e = cc

pub crossing_block : (k : Key) (s : Ends) → keys_cross k (AsBlock s) ≡ true → (t : Ends)
    × ((k ≡ AsBlock t) × (crosses t s ≡ true))
crossing_block (Mntner n) s e = cc
crossing_block (AsBlock t) s e = (t, (refl, e))
crossing_block (AutNum n) s e = cc
crossing_block (Inetnum t) s e = cc
crossing_block (Route p n) s e = cc
crossing_block (AsSet n) s e = cc
crossing_block (RouteSet n) s e = cc

same_of : (a b : Bool) → (b ≡ true → a ≡ true) → (b ≡ false → a ≡ false) → a ≡ b
same_of a true f g = f refl
same_of a false f g = g refl

-- spans of a class cross a span where an object's key does
module _ (os : List Obj) (key : Ends → Key) (spans : SpanMap (Unit {0}))
    (are : (s : Ends) → contains_key spans s ≡ is_key_of_some (key s) os)
    (crossed : (s t : Ends) → keys_cross (key s) (key t) ≡ crosses s t)
    (crossing : (k : Key) (s : Ends) → keys_cross k (key s) ≡ true → (t : Ends)
    × ((k ≡ key t) × (crosses t s ≡ true))) where
  spans_cross : (s : Ends) → crosses_some spans s ≡ is_crossed_by_some (key s) os
  spans_cross s = same_of (crosses_some spans s) (is_crossed_by_some (key s) os)
      (λ some.
      let one = passing_one (λ o. keys_cross o.key (key s)) os some in
      let at = crossing one.0.key s one.1.1 in
      crosses_found spans s at.0
      (are at.0 ∙ some_passes (λ o. eq_by_cmp key_cmp (key at.0) o.key) one.0 os one.1.0
      (ap (λ k. eq_by_cmp key_cmp k one.0.key) (sym at.1.0) ∙ tied_key one.0.key)) at.1.1)
      (λ none. crosses_missed spans s (λ t held.
      let one = passing_one (λ o. eq_by_cmp key_cmp (key t) o.key) os (sym (are t) ∙ held) in
      sym (crossed t s)
      ∙ ap (λ k. keys_cross k (key s)) (same_key (key t) one.0.key one.1.1)
      ∙ none_passes (λ o. keys_cross o.key (key s)) one.0 os none one.1.0))

module _ (os : List Obj) (inetnums blocks : SpanMap (Unit {0}))
    (has : HoldsSpans os inetnums blocks) where
  pub inetnums_cross : (s : Ends) → crosses_some inetnums s ≡ is_crossed_by_some (Inetnum s) os
  inetnums_cross s = spans_cross os Inetnum inetnums has.inetnums_are (λ t u. refl)
      crossing_inetnum s

  pub blocks_cross : (s : Ends) → crosses_some blocks s ≡ is_crossed_by_some (AsBlock s) os
  blocks_cross s = spans_cross os AsBlock blocks has.blocks_are (λ t u. refl) crossing_block s

  pub inetnum_entered : (s : Ends) → crosses_some inetnums s ≡ false → IsEntered os (Inetnum s)
      (insert inetnums s tt) blocks
  inetnum_entered s free = record {
    free = sym (inetnums_cross s) ∙ free;
    inetnums_are = λ t. spans_in inetnums s t ∙ (λ i. sym (inetnums_tie t s) i || has.inetnums_are
        t i);
    blocks_are = λ t. has.blocks_are t;
  }

  pub block_entered : (s : Ends) → crosses_some blocks s ≡ false → IsEntered os (AsBlock s)
      inetnums (insert blocks s tt)
  block_entered s free = record {
    free = sym (blocks_cross s) ∙ free;
    inetnums_are = λ t. has.inetnums_are t;
    blocks_are = λ t. spans_in blocks s t ∙ (λ i. sym (blocks_tie t s) i || has.blocks_are t i);
  }

  other_entered : (k : Key) → is_crossed_by_some k os ≡ false →
      ((s : Ends) → eq_by_cmp key_cmp (Inetnum s) k ≡ false) →
      ((s : Ends) → eq_by_cmp key_cmp (AsBlock s) k ≡ false) → IsEntered os k inetnums blocks
  other_entered k free no_inetnum no_block = record {
    free = free;
    inetnums_are = λ t. has.inetnums_are t ∙ ap (λ b. b || is_key_of_some (Inetnum t) os)
        (sym (no_inetnum t));
    blocks_are = λ t. has.blocks_are t ∙ ap (λ b. b || is_key_of_some (AsBlock t) os)
        (sym (no_block t));
  }

  pub rest_entered : (k : Key) → ((s : Ends) → k ≡ Inetnum s → ⊥) →
      ((s : Ends) → k ≡ AsBlock s → ⊥) → IsEntered os k inetnums blocks
  rest_entered (Mntner n) a b = other_entered (Mntner n) (none_crosses (Mntner n) os refl)
      (λ s. refl) (λ s. refl)
  rest_entered (AsBlock s) a b = absurd (b s refl)
  rest_entered (AutNum n) a b = other_entered (AutNum n) (none_crosses (AutNum n) os refl)
      (λ s. refl) (λ s. refl)
  rest_entered (Inetnum s) a b = absurd (a s refl)
  rest_entered (Route p n) a b = other_entered (Route p n) (none_crosses (Route p n) os refl)
      (λ s. refl) (λ s. refl)
  rest_entered (AsSet n) a b = other_entered (AsSet n) (none_crosses (AsSet n) os refl) (λ s. refl)
      (λ s. refl)
  rest_entered (RouteSet n) a b = other_entered (RouteSet n) (none_crosses (RouteSet n) os refl)
      (λ s. refl) (λ s. refl)

-- the object whose span was entered was taken in
pub entered_is_taken : (before after : Gathered) (n : ℕ) (o : Obj) → IsConsistent before →
    IsKeyValue o.key → is_key_of_some o.key (values before.objects) ≡ false
    → IsEntered (values before.objects) o.key after.spans.inetnums after.spans.blocks →
    after.objects.entries ≡ map entry (put_in o (values before.objects))
    → IsTakenIn (values before.objects) n o (values after.objects) × IsConsistent after
entered_is_taken before after n o held formed new entered grown =
    let os = values before.objects in
    let same : values after.objects ≡ put_in o os = grown_values after.objects.entries
    (put_in o os) grown in
    let taken = taken_in os n o (values after.objects) held.apart formed new entered.free same in (
      taken,
      record {
        apart = taken.apart;
        keyed = grown ∙ ap (map entry) (sym same);
        spans = record {
          inetnums_are = λ s. entered.inetnums_are s
              ∙ sym (taken.joined (λ x. eq_by_cmp key_cmp (Inetnum s) x.key));
          blocks_are = λ s. entered.blocks_are s
              ∙ sym (taken.joined (λ x. eq_by_cmp key_cmp (AsBlock s) x.key));
        };
      },
    )

pub nothing_held : (g : Gathered) → g.objects.entries ≡ [] → g.spans.inetnums ≡ empty →
    g.spans.blocks ≡ empty → IsConsistent g
nothing_held g none inetnums blocks =
    let no_values : values g.objects ≡ [] = ap values_of none in
    record {
      apart = subst IsApart (sym no_values) none_apart;
      keyed = none ∙ ap (map entry) (sym no_values);
      spans = record {
        inetnums_are = λ s. ap (λ m. contains_key m s) inetnums ∙ ap is_some (get-empty span_cmp s)
            ∙ ap (is_key_of_some (Inetnum s)) (sym no_values);
        blocks_are = λ s. ap (λ m. contains_key m s) blocks ∙ ap is_some (get-empty span_cmp s)
            ∙ ap (is_key_of_some (AsBlock s)) (sym no_values);
      };
    }

-- what becomes of an object of a key whose span could not be entered
pub faulty : (os : List Obj) (n : ℕ) (k : Key) (fault : LoadFault) → is_key_of_some k os ≡ false →
    (fault ≡ Memory) ⊎ ((fault ≡ Overlap n) × (is_crossed_by_some k os ≡ true))
    → (fault ≡ Memory) ⊎ ((o : Obj) → o.key ≡ k → clash_of os n o ≡ Some fault)
faulty os n k fault new (inl memory) = inl memory
faulty os n k fault new (inr (is, crossed)) =
    inr (λ o own. is_overlap os n o (ap (λ l. is_key_of_some l os) own ∙ new)
    (ap (λ l. is_crossed_by_some l os) own ∙ crossed) ∙ ap Some (sym is))

-- what follows from a good result
pub both_good : {X E P Q R : Type 0} (r : Result X E) → OnOk r P → OnOk r Q → (P → Q → R) → OnOk r R
both_good (Ok x) p q f = f p q
both_good (Err e) p q f = tt

-- a span that crosses one of its class crosses an object's
pub crossed_fault : (fault : LoadFault) (n : ℕ) (crosses : Bool) (P : List Obj → Type 0) (k : Key)
    → ((os : List Obj) → P os → crosses ≡ true → is_crossed_by_some k os ≡ true)
    → (fault ≡ Memory) ⊎ ((fault ≡ Overlap n) × (crosses ≡ true)) → (fault ≡ Memory)
    ⊎ ((os : List Obj) → P os → (fault ≡ Overlap n) × (is_crossed_by_some k os ≡ true))
crossed_fault fault n crosses P k crossed (inl memory) = inl memory
crossed_fault fault n crosses P k crossed (inr (is, so)) = inr (λ os p. (is, crossed os p so))
