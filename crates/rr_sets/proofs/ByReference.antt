-- Whose word a set takes, by the set's names in order.
use Rattle.std.proofs.Common.{◌≡◌, ◌↔◌, ◌||◌, ◌<◌, ◌+◌, ℕ, Bool, true, false, cond, arith, take}
use Rattle.std.proofs.Common.{get_or, List, [], ◌∷◌, Bor, Contains, IsTrue, length, not, refl, sym}
use Rattle.std.proofs.Common.{ap, ◌∙◌, subst, inl, inr}
use Rattle.std.specs.Prelude.{◌==◌}
use Rattle.std.specs.BTreeSet.{BTreeSet, contains, Updates}
use Rattle.std.specs.Cmp.Lexicographic.{nat_list_cmp_total, slice_cmp}
use Rattle.std.specs.List.{filter, list_any}
use Rattle.std.specs.Ordering.{nat_cmp}
use Rattle.std.specs.Str.{bytes_eq}
use Rattle.std.proofs.lemmas.Bool.{cases_Bool, eqb-true}
use Rattle.std.proofs.lemmas.Cmp.{eq_by_cmp_equiv}
use Rattle.std.proofs.lemmas.List.Folds.{list_any_more}
use Rattle.std.proofs.lemmas.Map.Text.{is_eq-slice_cmp}
use Rattle.rr_auth.specs.Registries.{Reg}
use Rattle.rr_graph.proofs.Lists.{Contains-filter, Contains-map, Contains-nil}
use Rattle.rr_object.specs.Objects.{Obj}
use Rattle.rr_object.specs.Parts.{ByRefParts}
use Rattle.rr_sets.specs.Lists.{IsReferrer, ListsOnce, lent}
use Rattle.rr_sets.specs.SetObjects.{takes}

four : (a b c d : Bool) → ((a || b) || (c || d)) ≡ ((a || c) || (b || d))
four true b c d = refl
four false true true d = refl
four false true false d = refl
four false false true d = refl
four false false false d = refl

none_passes : {Y : Type 0} (ys : List Y) → list_any (λ y. false) ys ≡ false
none_passes [] = refl
none_passes (y ∷ ys) = none_passes ys

-- some element passes one of two tests where some passes the first, or some passes the second
one_or_other : {Y : Type 0} (f g : Y → Bool) (ys : List Y) → list_any (λ y. f y || g y) ys
    ≡ (list_any f ys || list_any g ys)
one_or_other f g [] = refl
one_or_other f g (y ∷ ys) = ap (λ b. (f y || g y) || b) (one_or_other f g ys) ∙ four (f y) (g y)
    (list_any f ys) (list_any g ys)

-- a pair is found among two lists from either side
from_either_side : {X Y : Type 0} (p : X → Y → Bool) (xs : List X) (ys : List Y) →
    list_any (λ x. list_any (p x) ys) xs ≡ list_any (λ y. list_any (λ x. p x y) xs) ys
from_either_side p [] ys = sym (none_passes ys)
from_either_side p (x ∷ xs) ys = ap (λ b. list_any (p x) ys || b) (from_either_side p xs ys)
    ∙ sym (one_or_other (p x) (λ y. list_any (λ z. p z y) xs) ys)

last_first : (b x : Bool) → cond b true x ≡ (x || b)
last_first true true = refl
last_first true false = refl
last_first false true = refl
last_first false false = refl

same_either_way : (a b : List ℕ) → bytes_eq a b ≡ bytes_eq b a
same_either_way a b = sym (is_eq-slice_cmp a b) ∙ (eq_by_cmp_equiv nat_list_cmp_total).symm a b
    ∙ is_eq-slice_cmp b a

-- a set of names with one more
pub names_more : (names : List (List ℕ)) (i : ℕ) (name : List ℕ) (old new : BTreeSet (List ℕ)) →
    i < length names → name ≡ get_or names i name → Updates (slice_cmp nat_cmp) old new name true
    → ((q : List ℕ) → contains (slice_cmp nat_cmp) old q ≡ list_any (bytes_eq q) (take i names)) →
    (q : List ℕ) → contains (slice_cmp nat_cmp) new q ≡ list_any (bytes_eq q)
    (take (i + 1) names)
names_more names i name old new inside is update before q =
    update.0 q
    ∙ ap (λ b. cond b true (contains (slice_cmp nat_cmp) old q))
    (is_eq-slice_cmp name q ∙ same_either_way name q ∙ ap (bytes_eq q) is)
    ∙ ap (cond (bytes_eq q (get_or names i name)) true) (before q)
    ∙ last_first (bytes_eq q (get_or names i name)) (list_any (bytes_eq q) (take i names))
    ∙ sym (list_any_more (bytes_eq q) names i name inside)

-- an object's word is taken where a test for the names passes one of its maintainers
word_taken : (by_ref : ByRefParts) (has : List ℕ → Bool) →
    ((q : List ℕ) → has q ≡ list_any (bytes_eq q) by_ref.names) → (o : Obj) →
    (by_ref.any || list_any has o.maintainers) ≡ takes by_ref o
word_taken by_ref has is o =
    ap (λ b. by_ref.any || b) (ap (λ (p : List ℕ → Bool). list_any p o.maintainers) (λ i q. is q i)
    ∙ from_either_side bytes_eq o.maintainers by_ref.names)

pub words_taken : (by_ref : ByRefParts) (has : List ℕ → Bool) (objects : List (Bor Obj)) →
    ((q : List ℕ) → has q ≡ list_any (bytes_eq q) by_ref.names)
    → filter (λ (o : Bor Obj). by_ref.any || list_any has o.now.maintainers) objects
    ≡ filter (λ (o : Bor Obj). takes by_ref o.now) objects
words_taken by_ref has objects is = ap (λ (p : Bor Obj → Bool). filter p objects)
    (λ i o. word_taken by_ref has is o.now i)

nobody : (any : Bool) (names maintainers : List (List ℕ)) → (any || not (length names == 0))
    ≡ false →
    (any || list_any (λ name. list_any (λ maintainer. bytes_eq maintainer name) maintainers) names)
    ≡ false
nobody true names maintainers e = e
nobody false [] maintainers e = refl
nobody false (name ∷ names) maintainers e =
    elim (cases_Bool (length (name ∷ names) == 0)) [
      | inl empty ↦ let none : length (name ∷ names) ≡ 0 = eqb-true (length (name ∷ names)) 0 empty
          in absurd (omega (arith, none))
      | inr some ↦ let wrong : true ≡ false = sym (ap not some) ∙ e in cc
    ]

-- where nobody may say so, no object belongs
pub none_belong : (r : Reg) (name : List ℕ) (by_ref : ByRefParts) (objects : List (Bor Obj)) →
    objects ≡ [] → (by_ref.any || not (length by_ref.names == 0)) ≡ false
    → (o : Obj) → Contains (lent objects) o ↔ (IsReferrer r name o × IsTrue (takes by_ref o))
none_belong r name by_ref objects none e o = (
  λ has. absurd (Contains-nil o (subst (λ (os : List (Bor Obj)). Contains (lent os) o) none has)),
  λ (_, taken). let not_taken = nobody by_ref.any by_ref.names o.maintainers e in cc,
)

-- the referrers whose word is taken belong
pub those_belong : (r : Reg) (name : List ℕ) (by_ref : ByRefParts)
    (referrers objects : List (Bor Obj)) → ListsOnce (IsReferrer r name) referrers
    → objects ≡ filter (λ (o : Bor Obj). takes by_ref o.now) referrers → (o : Obj) →
    Contains (lent objects) o ↔ (IsReferrer r name o × IsTrue (takes by_ref o))
those_belong r name by_ref referrers objects lists is o = (on, from) where
  on : Contains (lent objects) o → IsReferrer r name o × IsTrue (takes by_ref o)
  on has =
      let b = (Contains-map (λ (x : Bor Obj). x.now) objects o).0 has in
      let both = (Contains-filter (λ (x : Bor Obj). takes by_ref x.now) referrers b.0).0
      (subst (λ (l : List (Bor Obj)). Contains l b.0) is b.1) in (
        (lists.same o).0 ((Contains-map (λ (x : Bor Obj). x.now) referrers o).1 (b.0, both.0, b.2)),
        subst (λ (x : Obj). IsTrue (takes by_ref x)) b.2 both.1,
      )

  from : IsReferrer r name o × IsTrue (takes by_ref o) → Contains (lent objects) o
  from (refers, taken) =
      let b = (Contains-map (λ (x : Bor Obj). x.now) referrers o).0 ((lists.same o).1 refers) in
      let both = (Contains-filter (λ (x : Bor Obj). takes by_ref x.now) referrers b.0).1
      (b.1, subst (λ (x : Obj). IsTrue (takes by_ref x)) (sym b.2) taken) in
      (Contains-map (λ (x : Bor Obj). x.now) objects o).1
      (b.0, subst (λ (l : List (Bor Obj)). Contains l b.0) (sym is) both, b.2)
