-- The names of the mntners among objects.
use Rattle.std.proofs.Common.{◌≡◌, ◌+◌, ◌<◌, ℕ, Bool, true, false, cond, ◌||◌, List, length, get_or}
use Rattle.std.proofs.Common.{take, refl, sym, ap, ◌∙◌}
use Rattle.std.specs.BTreeMap.{is_at}
use Rattle.std.specs.BTreeSet.{BTreeSet, contains}
use Rattle.std.specs.Cmp.Lexicographic.{slice_cmp}
use Rattle.std.specs.List.{list_any}
use Rattle.std.specs.Ordering.{nat_cmp}
use Rattle.std.specs.Str.{bytes_eq}
use Rattle.std.proofs.lemmas.List.Folds.{list_any_more}
use Rattle.std.proofs.lemmas.Map.Text.{is_eq-slice_cmp}
use Rattle.rr_object.specs.declared.key.Key.{Key}
use Rattle.rr_object.specs.declared.key.Key.TheVariants.{AsBlock, AsSet, AutNum, Inetnum, Mntner}
use Rattle.rr_object.specs.declared.key.Key.TheVariants.{Route, RouteSet}
use Rattle.rr_object.specs.Objects.{Obj}
use Rattle.rr_object.specs.Keys.{is_mntner_of}

turned : (b s : Bool) → cond b true s ≡ (s || b)
turned true true = refl
turned true false = refl
turned false true = refl
turned false false = refl

-- one more name among them
pub one_more : (old new : BTreeSet (List ℕ)) (own copy : List ℕ) (k : Key) → copy ≡ own →
    k ≡ Mntner own
    → ((n : List ℕ) → contains (slice_cmp nat_cmp) new n ≡ cond (is_at (slice_cmp nat_cmp copy) n)
    true (contains (slice_cmp nat_cmp) old n))
    → (n : List ℕ) → contains (slice_cmp nat_cmp) new n
    ≡ (contains (slice_cmp nat_cmp) old n || is_mntner_of n k)
one_more old new own copy k same is update n =
    update n
    ∙ ap (λ c. cond (is_at (slice_cmp nat_cmp c) n) true (contains (slice_cmp nat_cmp) old n)) same
    ∙ ap (λ b. cond b true (contains (slice_cmp nat_cmp) old n)) (is_eq-slice_cmp own n)
    ∙ turned (bytes_eq own n) (contains (slice_cmp nat_cmp) old n)
    ∙ ap (λ l. contains (slice_cmp nat_cmp) old n || is_mntner_of n l) (sym is)

or_false : (s : Bool) → s ≡ (s || false)
or_false true = refl
or_false false = refl

-- and none more for a key of another class
pub no_more : (k : Key) → ((n : List ℕ) → k ≡ Mntner n → ⊥) → (s : Bool) (n : List ℕ) →
    s ≡ (s || is_mntner_of n k)
no_more (Mntner m) other s n = absurd (other m refl)
no_more (AsBlock t) other s n = or_false s
no_more (AutNum m) other s n = or_false s
no_more (Inetnum t) other s n = or_false s
no_more (Route p m) other s n = or_false s
no_more (AsSet m) other s n = or_false s
no_more (RouteSet m) other s n = or_false s

-- the names of the first objects, with one more of them
pub named_more : (os : List Obj) (i : ℕ) (o : Obj) (k : Key) (old new : BTreeSet (List ℕ)) →
    i < length os → o ≡ get_or os i o → k ≡ o.key
    → ((n : List ℕ) → contains (slice_cmp nat_cmp) old n ≡ list_any (λ x. is_mntner_of n x.key)
    (take i os))
    → ((n : List ℕ) → contains (slice_cmp nat_cmp) new n
    ≡ (contains (slice_cmp nat_cmp) old n || is_mntner_of n k))
    → (n : List ℕ) → contains (slice_cmp nat_cmp) new n ≡ list_any (λ x. is_mntner_of n x.key)
    (take (i + 1) os)
named_more os i o k old new inside is own before step n =
    step n
    ∙ (λ j. before n j || is_mntner_of n (own j))
    ∙ ap (λ (x : Obj). list_any (λ y. is_mntner_of n y.key) (take i os) || is_mntner_of n x.key) is
    ∙ sym (list_any_more (λ x. is_mntner_of n x.key) os i o inside)
