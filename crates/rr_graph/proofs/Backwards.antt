-- Edges gathered under the nodes to which they lead.
use Rattle.std.proofs.Common.{◌≡◌, ℕ, ◌+◌, ◌<◌, ◌⊎◌, ◌↔◌, true, false, cond, List, [], ◌∷◌, ◌++◌}
use Rattle.std.proofs.Common.{length, get_or, take, Contains, Ordering, sym, ap, ◌∙◌, subst, inl}
use Rattle.std.proofs.Common.{inr}
use Rattle.std.specs.BTreeMap.{is_at}
use Rattle.std.proofs.lemmas.Bool.{cases_Bool}
use Rattle.std.proofs.lemmas.List.{take_more}
use Rattle.std.proofs.lemmas.List.Elements.{Contains-append_left, Contains-push}
use Rattle.std.proofs.lemmas.List.Elements.{Contains-push_cases}
use Rattle.std.proofs.lemmas.Map.Lookups.{CmpEqualImpliesEq}
use Rattle.std.proofs.lemmas.Map.Views.{tells_apart}
use Rattle.std.specs.Cmp.{IsTotalOrder}
use Rattle.std.proofs.lemmas.Cmp.{eq_by_cmp_equiv}
use Rattle.rr_graph.specs.ReversedParts.{AddsBackward, IsBackward}
use Rattle.rr_graph.specs.declared.labels.Edge.{Edge}
use Rattle.rr_graph.proofs.Listings.{Contains-cons_cases}
use Rattle.rr_graph.proofs.Lists.{Contains-head, Contains-later, Contains-nil}

-- an element of one more of a list is one of those before it or that one
pub Contains-take_cases : {X : Type 0} (xs : List X) (i : ℕ) (x y : X) → i < length xs →
    x ≡ get_or xs i x → Contains (take (i + 1) xs) y → Contains (take i xs) y ⊎ (x ≡ y)
Contains-take_cases {X} xs i x y inside is has =
    Contains-push_cases (take i xs) x y
    (subst (λ (l : List X). Contains l y)
    (take_more xs i x inside ∙ ap (λ (z : X). take i xs ++ z ∷ []) (sym is)) has)

-- and the other way
pub Contains-take : {X : Type 0} (xs : List X) (i : ℕ) (x y : X) → i < length xs →
    x ≡ get_or xs i x → Contains (take i xs) y ⊎ (x ≡ y) → Contains (take (i + 1) xs) y
Contains-take {X} xs i x y inside is has =
    subst (λ (l : List X). Contains l y)
    (sym (take_more xs i x inside ∙ ap (λ (z : X). take i xs ++ z ∷ []) (sym is)))
    (elim has [
      | inl before ↦ Contains-append_left (take i xs) (x ∷ []) y before
      | inr same ↦ subst (Contains (take i xs ++ x ∷ [])) same (Contains-push (take i xs) x)
    ])

module _ {N L : Type 0} where
  -- an edge is its end and its label
  edge_same : (e : Edge N L) (to : N) (label : L) → e.to ≡ to → e.label ≡ label →
      e ≡ record { to = to; label = label }
  edge_same e to label p q = λ i. record { to = p i; label = q i }

  -- no edges add nothing
  pub AddsBackward-none : (old : N → List (Edge N L)) (tail : N) → AddsBackward old tail [] old
  AddsBackward-none old tail head back = (
    λ has. inl has,
    λ has. elim has [
      | inl there ↦ there
      | inr both ↦
          absurd (Contains-nil (record { to = head; label = back.label }) both.1)
    ],
  )

  -- one more edge, under its head
  pub AddsBackward-more : {cmp : N → N → Ordering} (order : IsTotalOrder cmp)
      (exact : CmpEqualImpliesEq cmp) (old now new : N → List (Edge N L)) (tail : N)
      (edges : List (Edge N L)) (edge : Edge N L) → AddsBackward old tail edges now →
      ((node : N) → new node ≡ cond (is_at (cmp edge.to) node)
      (now edge.to ++ record { to = tail; label = edge.label } ∷ []) (now node)) →
      AddsBackward old tail (edge ∷ edges) new
  AddsBackward-more {cmp} order exact old now new tail edges edge before step head back =
      (on, from) where
        turned : Edge N L
        turned = record { to = tail; label = edge.label }

        at_head : is_at (cmp edge.to) head ≡ true → new head ≡ now head ++ turned ∷ []
        at_head same = step head ∙ ap (λ b. cond b (now edge.to ++ turned ∷ []) (now head)) same
            ∙ ap (λ (n : N). now n ++ turned ∷ []) (tells_apart exact edge.to head same)

        elsewhere : is_at (cmp edge.to) head ≡ false → new head ≡ now head
        elsewhere other = step head ∙ ap (λ b. cond b (now edge.to ++ turned ∷ []) (now head)) other

        asked : Edge N L
        asked = record { to = head; label = back.label }

        later : Contains (old head) back ⊎ ((back.to ≡ tail) × Contains edges asked) →
            Contains (old head) back ⊎ ((back.to ≡ tail) × Contains (edge ∷ edges) asked)
        later (inl there) = inl there
        later (inr both) = inr (both.0, Contains-later edge edges asked both.1)

        on : Contains (new head) back → Contains (old head) back
            ⊎ ((back.to ≡ tail) × Contains (edge ∷ edges) asked)
        on has = elim (cases_Bool (is_at (cmp edge.to) head)) [
          | inl same ↦
              elim (Contains-push_cases (now head) turned back
              (subst (λ (l : List (Edge N L)). Contains l back) (at_head same) has)) [
                | inl there ↦ later ((before head back).0 there)
                | inr is ↦ inr (
                  sym (ap (λ (e : Edge N L). e.to) is),
                  subst (Contains (edge ∷ edges))
                      (edge_same edge head back.label (tells_apart exact edge.to head same)
                      (ap (λ (e : Edge N L). e.label) is)) (Contains-head edge edges),
                )
              ]
          | inr other ↦
              later ((before head back).0 (subst (λ (l : List (Edge N L)). Contains l back)
              (elsewhere other) has))
        ]

        grown : Contains (now head) back → Contains (new head) back
        grown has = elim (cases_Bool (is_at (cmp edge.to) head)) [
          | inl same ↦ rw (at_head same) (Contains-append_left (now head) (turned ∷ []) back has)
          | inr other ↦ rw (elsewhere other) has
        ]

        from : Contains (old head) back ⊎ ((back.to ≡ tail) × Contains (edge ∷ edges) asked) →
            Contains (new head) back
        from (inl there) = grown ((before head back).1 (inl there))
        from (inr both) = elim (Contains-cons_cases edge edges asked both.1) [
          | inl first ↦
              let same : is_at (cmp edge.to) head ≡ true =
              subst (λ (n : N). is_at (cmp edge.to) n ≡ true) (ap (λ (e : Edge N L). e.to) first)
              ((eq_by_cmp_equiv order).refl edge.to) in
              let is : turned ≡ back =
              sym (edge_same back tail edge.label both.0
              (sym (ap (λ (e : Edge N L). e.label) first))) in
              rw (at_head same) (subst (Contains (now head ++ turned ∷ [])) is
              (Contains-push (now head) turned))
          | inr among ↦ grown ((before head back).1 (inr (both.0, among)))
        ]

  -- no tails, no edges
  pub IsBackward-none : (edge : N → N → L → Type 0) (none : N → List (Edge N L)) (nodes : List N) →
      nodes ≡ [] → ((node : N) → none node ≡ []) → IsBackward edge nodes none
  IsBackward-none edge none nodes empty nothing head back = (
    λ has.
        absurd (Contains-nil back (subst (λ (l : List (Edge N L)). Contains l back) (nothing head)
        has)),
    λ has. absurd (Contains-nil back.to (subst (λ (l : List N). Contains l back.to) empty has.0)),
  )

  -- one more tail
  pub IsBackward-more : (edge : N → N → L → Type 0) (old new : N → List (Edge N L))
      (nodes : List N) (i : ℕ) (tail : N) (edges : List (Edge N L)) → i < length nodes →
      tail ≡ get_or nodes i tail → IsBackward edge (take i nodes) old →
      ((to : N) (label : L) → Contains edges (record { to = to; label = label }) ↔ edge tail to
      label) → AddsBackward old tail edges new → IsBackward edge (take (i + 1) nodes) new
  IsBackward-more edge old new nodes i tail edges inside is before leave added head back = (
    λ has. elim ((added head back).0 has) [
      | inl there ↦ let r = (before head back).0 there in
          (Contains-take nodes i tail back.to inside is (inl r.0), r.1)
      | inr both ↦ (
        Contains-take nodes i tail back.to inside is (inr (sym both.0)),
        subst (λ (n : N). edge n head back.label) (sym both.0) ((leave head back.label).0 both.1),
      )
    ],
    λ has. (added head back).1 (elim (Contains-take_cases nodes i tail back.to inside is has.0) [
      | inl earlier ↦ inl ((before head back).1 (earlier, has.1))
      | inr same ↦
          inr (
            sym same,
            (leave head back.label).1 (subst (λ (n : N). edge n head back.label)
                (sym same) has.1),
          )
    ]),
  )
