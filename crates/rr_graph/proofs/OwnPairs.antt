-- Pairs of nodes and values.
use Rattle.std.proofs.Common.{◌≡◌, ℕ, ◌+◌, ◌<◌, ◌↔◌, true, cond, List, ◌++◌, length, get_or, map}
use Rattle.std.proofs.Common.{take, Contains, IsTrue, Ordering, sym, ap, ◌∙◌, subst, inl, inr}
use Rattle.std.specs.BTreeSet.{BTreeSet, Updates, contains}
use Rattle.std.specs.Cmp.{IsTotalOrder}
use Rattle.std.specs.Ordering.{eq_by_cmp}
use Rattle.std.proofs.lemmas.Bool.{cases_Bool, true≢false}
use Rattle.std.proofs.lemmas.Cmp.{eq_by_cmp_equiv}
use Rattle.std.proofs.lemmas.List.Elements.{Contains-append_cases, Contains-append_left}
use Rattle.std.proofs.lemmas.List.Elements.{Contains-append_right}
use Rattle.std.proofs.lemmas.Map.Lookups.{CmpEqualImpliesEq}
use Rattle.std.proofs.lemmas.Map.Views.{tells_apart}
use Rattle.rr_graph.specs.ReversedParts.{IsOwnPair}
use Rattle.rr_graph.proofs.Backwards.{Contains-take, Contains-take_cases}
use Rattle.rr_graph.proofs.Lists.{Contains-map}

-- one more node, with its values
pub IsOwnPair-more : {N V : Type 0} (own : N → V → Type 0) (nodes : List N) (i : ℕ) (node : N)
    (values : List V) (old new : List (N × V)) → i < length nodes → node ≡ get_or nodes i node →
    ((p : N × V) → Contains old p ↔ IsOwnPair own (take i nodes) p) →
    ((v : V) → Contains values v ↔ own node v) → new ≡ old ++ map (λ v. (node, v)) values →
    (p : N × V) → Contains new p ↔ IsOwnPair own (take (i + 1) nodes) p
IsOwnPair-more {N} {V} own nodes i node values old new inside is before has_own added p =
    (on, from) where
      on : Contains new p → IsOwnPair own (take (i + 1) nodes) p
      on has = elim (Contains-append_cases old (map (λ v. (node, v)) values) p
          (subst (λ (l : List (N × V)). Contains l p) added has)) [
            | inl there ↦ let r = (before p).0 there in
                (Contains-take nodes i node p.0 inside is (inl r.0), r.1)
            | inr mapped ↦
                let r = (Contains-map (λ (v : V). (node, v)) values p).0 mapped in
                let at_node : node ≡ p.0 = ap (λ (q : N × V). q.0) r.2 in
                let at_value : r.0 ≡ p.1 = ap (λ (q : N × V). q.1) r.2 in (
                  Contains-take nodes i node p.0 inside is (inr at_node),
                  subst (own p.0) at_value
                      (subst (λ (n : N). own n r.0) at_node ((has_own r.0).0 r.1)),
                )
          ]

      from : IsOwnPair own (take (i + 1) nodes) p → Contains new p
      from (among, owned) = rw added (elim (Contains-take_cases nodes i node p.0 inside is among) [
        | inl earlier ↦ Contains-append_left old (map (λ v. (node, v)) values) p
            ((before p).1 (earlier, owned))
        | inr same ↦
            let owned' : own node p.1 = subst (λ (n : N). own n p.1) (sym same) owned in
            Contains-append_right old (map (λ v. (node, v)) values) p
            ((Contains-map (λ (v : V). (node, v)) values p).1 (
              p.1,
              (has_own p.1).1 owned',
              λ j.
                  (same j, p.1),
            ))
      ])

module _ {N V : Type 0} {cmp : V → V → Ordering} (order : IsTotalOrder cmp)
    (exact : CmpEqualImpliesEq cmp) (node : N) where
  -- one more pair, of the node: its value is added
  pub values_more-same : (pairs : List (N × V)) (i : ℕ) (pair : N × V) (old new : BTreeSet V) →
      i < length pairs → pair ≡ get_or pairs i pair → pair.0 ≡ node →
      ((v : V) → IsTrue (contains cmp old v) ↔ Contains (take i pairs) (node, v)) →
      Updates cmp old new pair.1 true → (v : V) → IsTrue (contains cmp new v)
      ↔ Contains (take (i + 1) pairs) (node, v)
  values_more-same pairs i pair old new inside is same before update v = (on, from) where
    on : contains cmp new v ≡ true → Contains (take (i + 1) pairs) (node, v)
    on has = elim (cases_Bool (eq_by_cmp cmp pair.1 v)) [
      | inl alike ↦ Contains-take pairs i pair (node, v) inside is
          (inr (λ j. (same j, tells_apart exact pair.1 v alike j)))
      | inr other ↦ Contains-take pairs i pair (node, v) inside is
          (inl ((before v).0 (sym (update.2 v other) ∙ has)))
    ]

    from : Contains (take (i + 1) pairs) (node, v) → contains cmp new v ≡ true
    from has = elim (cases_Bool (eq_by_cmp cmp pair.1 v)) [
      | inl alike ↦ update.0 v ∙ ap (λ b. cond b true (contains cmp old v)) alike
      | inr other ↦ update.2 v other ∙ elim (Contains-take_cases pairs i pair (node, v) inside is
          has) [
            | inl earlier ↦ (before v).1 earlier
            | inr it ↦
                absurd
                (true≢false
                (sym (subst (λ (w : V). eq_by_cmp cmp pair.1 w ≡ true) (ap (λ (q : N × V). q.1) it)
                ((eq_by_cmp_equiv order).refl pair.1)) ∙ other))
          ]
    ]

  -- one more pair, of another node: no value is added
  pub values_more-other : (pairs : List (N × V)) (i : ℕ) (pair : N × V) (old : BTreeSet V) →
      i < length pairs → pair ≡ get_or pairs i pair → (pair.0 ≡ node → ⊥) →
      ((v : V) → IsTrue (contains cmp old v) ↔ Contains (take i pairs) (node, v)) → (v : V) →
      IsTrue (contains cmp old v) ↔ Contains (take (i + 1) pairs) (node, v)
  values_more-other pairs i pair old inside is other before v = (
    λ has. Contains-take pairs i pair (node, v) inside is (inl ((before v).0 has)),
    λ has. elim (Contains-take_cases pairs i pair (node, v) inside is has) [
      | inl earlier ↦ (before v).1 earlier
      | inr it ↦ absurd (other (ap (λ (q : N × V). q.0) it))
    ],
  )
