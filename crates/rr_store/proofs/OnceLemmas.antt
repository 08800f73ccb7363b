-- Names that are gone through from the last to the first, each kept once.
use Rattle.std.proofs.Common.{◌≡◌, ◌<◌, ℕ, Bool, true, false, not, cond, ◌||◌, List, [], ◌∷◌, ◌++◌}
use Rattle.std.proofs.Common.{length, map, reverse, refl, sym, ap, ◌∙◌, arith, Bor, Ordering}
use Rattle.std.proofs.Common.{bytes_eq, nat_cmp}
use Rattle.std.specs.Prelude.{if◌then◌else◌}
use Rattle.std.specs.BTreeSet.{BTreeSet, contains, Updates}
use Rattle.std.specs.Cmp.{eq_by_cmp_equiv}
use Rattle.std.specs.Cmp.Lexicographic.{nat_list_cmp_total, slice_cmp}
use Rattle.std.specs.List.{list_any}
use Rattle.std.proofs.lemmas.List.{map-append, reverse-append}
use Rattle.std.proofs.lemmas.Map.Text.{is_eq-slice_cmp}
use Rattle.rr_store.specs.Entries.{once}

abbrev pub Lent : Type 0
Lent = Bor (List ℕ)

abbrev pub by_name : Lent → Lent → Ordering
by_name a b = slice_cmp nat_cmp a.now b.now

-- of the names that were gone through, in their order, each was kept once, the last one first, and
-- the set has them all
pub record IsOnce (done kept : List (List ℕ)) (seen : BTreeSet Lent) : Type 0 where
  pub same : reverse kept ≡ once done
  pub all : (name : Lent) → contains by_name seen name ≡ list_any (bytes_eq name.now) done

pub none_yet : (kept : List (List ℕ)) (seen : BTreeSet Lent) → kept ≡ [] → seen.keys ≡ [] →
    IsOnce [] kept seen
none_yet kept seen none empty = record {
  same = ap reverse none;
  all = λ name.
      ap (list_any _) empty;
}

bytes_turned : (a b : List ℕ) → bytes_eq a b ≡ bytes_eq b a
bytes_turned a b = sym (is_eq-slice_cmp a b) ∙ (eq_by_cmp_equiv nat_list_cmp_total).symm a b
    ∙ is_eq-slice_cmp b a

either : (b c : Bool) → cond b true c ≡ (b || c)
either true c = refl
either false c = refl

negated : (b : Bool) → not b ≡ true → b ≡ false
negated true e = sym e
negated false e = refl

granted : (b : Bool) → not b ≡ false → b ≡ true
granted true e = refl
granted false e = sym e

-- one more name is in the set
one_more : (done : List (List ℕ)) (name : Lent) (old new : BTreeSet Lent) →
    ((n : Lent) → contains by_name old n ≡ list_any (bytes_eq n.now) done) → Updates by_name old
    new name true
    → (n : Lent) → contains by_name new n ≡ list_any (bytes_eq n.now) (name.now ∷ done)
one_more done name old new before update n =
    update.0 n
    ∙ ap (λ b. cond b true (contains by_name old n)) (is_eq-slice_cmp name.now n.now ∙ bytes_turned
    name.now n.now)
    ∙ ap (λ b. cond (bytes_eq n.now name.now) true b) (before n)
    ∙ either (bytes_eq n.now name.now) (list_any (bytes_eq n.now) done)

-- a name that is not among those is kept
pub kept_more : (done kept : List (List ℕ)) (name : Lent) (old new : BTreeSet Lent) →
    IsOnce done kept old → Updates by_name old new name true →
    true ≡ not (contains by_name old name)
    → IsOnce (name.now ∷ done) (kept ++ name.now ∷ []) new
kept_more done kept name old new before update fresh =
    let absent : list_any (bytes_eq name.now) done ≡ false =
    negated _ (ap not (sym (before.all name)) ∙ sym fresh) in
    record {
      same = reverse-append kept (name.now ∷ []) ∙ ap (λ l. name.now ∷ l) before.same
          ∙ sym (ap (λ b. if b then once done else name.now ∷ once done) absent);
      all = one_more done name old new before.all update;
    }

-- a name that is among them is passed over
pub passed_over : (done kept : List (List ℕ)) (name : Lent) (old new : BTreeSet Lent) →
    IsOnce done kept old → Updates by_name old new name true →
    false ≡ not (contains by_name old name)
    → IsOnce (name.now ∷ done) kept new
passed_over done kept name old new before update again =
    let present : list_any (bytes_eq name.now) done ≡ true =
    granted _ (ap not (sym (before.all name)) ∙ sym again) in
    record {
      same = before.same ∙ sym (ap (λ b. if b then once done else name.now ∷ once done) present);
      all = one_more done name old new before.all update;
    }

-- the names that were gone through, with the one before them
pub turned : (names : List Lent) (name : Lent) → reverse (map (λ n. n.now) (names ++ name ∷ []))
    ≡ name.now ∷ reverse (map (λ n. n.now) names)
turned names name = ap reverse (map-append (λ n. n.now) names (name ∷ [])) ∙ reverse-append
    (map (λ n. n.now) names) (name.now ∷ [])

-- up to one name stands once
pub once_few : (names : List (List ℕ)) → length names < 2 → once names ≡ names
once_few [] few = refl
once_few (name ∷ []) few = refl
once_few (a ∷ b ∷ names) few = absurd (omega (arith, few))
