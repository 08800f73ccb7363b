-- Runs of edges to one node, and what they make of its values.
use Rattle.std.proofs.Common.{suc, ◌≡◌, ℕ, ◌+◌, ◌-◌, ◌<◌, ◌≤◌, Bool, true, false, not, ◌⊎◌, ◌↔◌}
use Rattle.std.proofs.Common.{List, [], ◌∷◌, ◌++◌, length, get_or, map, take, drop, Contains}
use Rattle.std.proofs.Common.{Option, Some, refl, sym, ap, ◌∙◌, subst, inl, inr, arith}
use Rattle.std.specs.List.{filter_map}
use Rattle.std.specs.Option.{is_some}
use Rattle.std.proofs.Math.Seq.{drop-cons, take-add}
use Rattle.std.proofs.lemmas.List.{length-drop, length-take-le, take-append-drop, take_all}
use Rattle.std.proofs.lemmas.List.Elements.{Contains-append_cases, Contains-append_left}
use Rattle.std.proofs.lemmas.List.Elements.{Contains-append_right, Contains-push}
use Rattle.rr_graph.specs.EffectParts.{Makes}
use Rattle.rr_graph.specs.SettledParts.{IsMade, IsPassed, IsRun}
use Rattle.rr_graph.specs.declared.labels.Edge.{Edge}
use Rattle.rr_graph.proofs.Backwards.{Contains-take, Contains-take_cases}
use Rattle.rr_graph.proofs.Listings.{Contains-cons_cases}
use Rattle.rr_graph.proofs.Lists.{Contains-filter_map, Contains-map, Contains-nil}

module _ {N L V : Type 0} (passed : L → V → Option V) where
  module _ (at : N → Option (List V)) where
    -- a run after other edges
    pub IsPassed-run : (starts old new : List V) (edges run : List (Edge N L)) (n m : ℕ) →
        run ≡ take m (drop n edges) →
        ((v : V) → Contains old v ↔ (Contains starts v ⊎ IsPassed passed at (take n edges) v)) →
        ((v : V) → Contains new v ↔ (Contains old v ⊎ IsPassed passed at run v)) → (v : V) →
        Contains new v ↔ (Contains starts v ⊎ IsPassed passed at (take (n + m) edges) v)
    IsPassed-run starts old new edges run n m is before added v = (
      λ has. elim ((added v).0 has) [
        | inl earlier ↦ elim ((before v).0 earlier) [
          | inl first ↦ inl first
          | inr (e, among, rest) ↦
              inr (
                e,
                subst (λ (l : List (Edge N L)). Contains l e) (sym whole)
                    (Contains-append_left (take n edges) run e among),
                rest,
              )
        ]
        | inr (e, among, rest) ↦ inr (
          e,
          subst (λ (l : List (Edge N L)). Contains l e) (sym whole)
              (Contains-append_right (take n edges) run e among),
          rest,
        )
      ],
      λ both. (added v).1 (elim both [
        | inl first ↦ inl ((before v).1 (inl first))
        | inr (e, among, rest) ↦
            elim (Contains-append_cases (take n edges) run e
            (subst (λ (l : List (Edge N L)). Contains l e) whole among)) [
              | inl earlier ↦ inl ((before v).1 (inr (e, earlier, rest)))
              | inr here ↦ inr (e, here, rest)
            ]
      ]),
    ) where
      whole : take (n + m) edges ≡ take n edges ++ run
      whole = take-add n m edges ∙ ap (λ (l : List (Edge N L)). take n edges ++ l) (sym is)

    -- what a run to a known node makes
    pub IsPassed-made : (old new : List V) (node : N) (run : List (Edge N L)) (held : List V) →
        IsRun node run → at node ≡ Some held →
        ((v : V) → Contains new v ↔ (Contains old v ⊎ IsMade passed node run held v)) → (v : V) →
        Contains new v ↔ (Contains old v ⊎ IsPassed passed at run v)
    IsPassed-made old new node run held one known added v = (
      λ has. elim ((added v).0 has) [
        | inl there ↦ inl there
        | inr (w, in_held, (e, among, to, is)) ↦
            inr (e, among, (w, (held, ap at to ∙ known, in_held), is))
      ],
      λ both. (added v).1 (elim both [
        | inl there ↦ inl there
        | inr (e, among, (w, (values, at_to, has), is)) ↦
            let both : Some values ≡ Some held = sym at_to ∙ ap at (one e among) ∙ known in
            let alike : values ≡ held = cc in
            inr (w, subst (λ (l : List V). Contains l w) alike has, (e, among, one e among, is))
      ]),
    )

    -- a run to a known node after edges to known ones
    pub known_run : (edges run : List (Edge N L)) (n m : ℕ) (node : N) (held : List V) →
        run ≡ take m (drop n edges) → IsRun node run → at node ≡ Some held →
        ((e : Edge N L) → Contains (take n edges) e → is_some (at e.to) ≡ true) → (e : Edge N L) →
        Contains (take (n + m) edges) e → is_some (at e.to) ≡ true
    known_run edges run n m node held is one known before e has =
        elim (Contains-append_cases (take n edges) run e
        (subst (λ (l : List (Edge N L)). Contains l e) whole has)) [
          | inl earlier ↦ before e earlier
          | inr here ↦ ap is_some (ap at (one e here) ∙ known)
        ] where
          whole : take (n + m) edges ≡ take n edges ++ run
          whole = take-add n m edges ∙ ap (λ (l : List (Edge N L)). take n edges ++ l) (sym is)

    -- what edges make, and then other values
    pub IsPassed-first : (edges : List (Edge N L)) (none made own all : List V) → none ≡ [] →
        all ≡ made ++ own →
        ((v : V) → Contains made v ↔ (Contains none v ⊎ IsPassed passed at edges v)) → (v : V) →
        Contains all v ↔ (Contains own v ⊎ IsPassed passed at edges v)
    IsPassed-first edges none made own all empty is has_made v = (
      λ has. elim (Contains-append_cases made own v (subst (λ (l : List V). Contains l v) is has)) [
        | inl there ↦ elim ((has_made v).0 there) [
          | inl never ↦ absurd (Contains-nil v (subst (λ (l : List V). Contains l v) empty never))
          | inr by_edges ↦ inr by_edges
        ]
        | inr owned ↦ inl owned
      ],
      λ both. rw is (elim both [
        | inl owned ↦ Contains-append_right made own v owned
        | inr by_edges ↦ Contains-append_left made own v ((has_made v).1 (inr by_edges))
      ]),
    )

  -- one edge
  pub IsMade-one : (old new starts : List V) (node : N) (edge : Edge N L) → IsRun node (edge ∷ [])
      → new ≡ old ++ filter_map (passed edge.label) starts → (v : V) → Contains new v
      ↔ (Contains old v ⊎ IsMade passed node (edge ∷ []) starts v)
  IsMade-one old new starts node edge one is v = (
    λ has. elim (Contains-append_cases old (filter_map (passed edge.label) starts) v
        (subst (λ (l : List V). Contains l v) is has)) [
          | inl there ↦ inl there
          | inr mapped ↦
              let r = (Contains-filter_map (passed edge.label) starts v).0 mapped in
              inr (r.0, r.1, (edge, Contains-push [] edge, one edge (Contains-push [] edge), r.2))
        ],
    λ both. rw is (elim both [
      | inl there ↦ Contains-append_left old (filter_map (passed edge.label) starts) v there
      | inr (w, has, (e, among, to, makes)) ↦ Contains-append_right old
          (filter_map (passed edge.label) starts) v
          ((Contains-filter_map (passed edge.label) starts v).1 (
            w,
            has,
            elim (Contains-cons_cases edge [] e among) [
              | inl same ↦ subst (λ (f : Edge N L). passed f.label w ≡ Some v) (sym same) makes
              | inr none ↦ absurd (Contains-nil e none)
            ],
          ))
    ]),
  )

  -- no values
  pub IsMade-none : (old : List V) (node : N) (run : List (Edge N L)) (v : V) → Contains old v
      ↔ (Contains old v ⊎ IsMade passed node run [] v)
  IsMade-none old node run v = (
    λ has. inl has,
    λ both. elim both [
      | inl there ↦ there
      | inr r ↦
          absurd (Contains-nil r.0 r.1)
    ],
  )

  -- one more value
  pub IsMade-more : (first old new starts : List V) (i : ℕ) (w : V) (node : N)
      (run : List (Edge N L)) → i < length starts → w ≡ get_or starts i w →
      ((v : V) → Contains old v ↔ (Contains first v ⊎ IsMade passed node run (take i starts) v)) →
      ((v : V) → Contains old v → Contains new v) → ((v : V) → Contains new v → Contains old v
      ⊎ Makes passed w run node v) → ((v : V) → Makes passed w run node v → Contains new v) →
      (v : V) → Contains new v ↔ (Contains first v ⊎ IsMade passed node run (take (i + 1) starts) v)
  IsMade-more first old new starts i w node run inside is before grows only whole v = (
    λ has. elim (only v has) [
      | inl earlier ↦ elim ((before v).0 earlier) [
        | inl at_first ↦ inl at_first
        | inr (u, among, makes) ↦ inr (u, Contains-take starts i w u inside is (inl among), makes)
      ]
      | inr makes ↦ inr (w, Contains-take starts i w w inside is (inr refl), makes)
    ],
    λ both. elim both [
      | inl at_first ↦ grows v ((before v).1 (inl at_first))
      | inr (u, among, makes) ↦ elim (Contains-take_cases starts i w u inside is among) [
        | inl earlier ↦ grows v ((before v).1 (inr (u, earlier, makes)))
        | inr it ↦ whole v (subst (λ (x : V). Makes passed x run node v) (sym it) makes)
      ]
    ],
  )

module _ {N L V : Type 0} (passed : L → V → Option V) (old now new : List V) (pairs : List (N × V))
    (pushed : now ≡ old ++ map (λ (q : N × V). q.1) pairs) (same : (v : V) → Contains new v
    ↔ Contains now v) where
  -- what was there before values of pairs were added
  pub Contains-earlier : (v : V) → Contains old v → Contains new v
  Contains-earlier v has =
      (same v).1 (rw pushed (Contains-append_left old (map (λ (q : N × V). q.1) pairs) v has))

  -- the value of a pair
  pub Contains-value : (q : N × V) → Contains pairs q → Contains new q.1
  Contains-value q has =
      (same q.1).1
      (rw pushed (Contains-append_right old (map (λ (p : N × V). p.1) pairs) q.1
      ((Contains-map (λ (p : N × V). p.1) pairs q.1).1 (q, has, refl))))

  -- what is there was, or an edge of the run makes it
  pub Contains-made : (w : V) (node : N) (run : List (Edge N L)) → IsRun node run →
      ((q : N × V) → Contains pairs q → Makes passed w run q.0 q.1) → (v : V) → Contains new v →
      Contains old v ⊎ Makes passed w run node v
  Contains-made w node run one only v has =
      elim (Contains-append_cases old (map (λ (q : N × V). q.1) pairs) v
      (subst (λ (l : List V). Contains l v) pushed ((same v).0 has))) [
        | inl earlier ↦ inl earlier
        | inr mapped ↦
            let r = (Contains-map (λ (q : N × V). q.1) pairs v).0 mapped in
            let (e, among, to, is) = only r.0 r.1 in
            inr (e, among, one e among, is ∙ ap Some r.2)
      ]

-- the first of a list are in it
pub Contains-whole : {X : Type 0} (n : ℕ) (xs : List X) (x : X) → Contains (take n xs) x →
    Contains xs x
Contains-whole {X} n xs x has = subst (λ (l : List X). Contains l x) (take-append-drop n xs)
    (Contains-append_left (take n xs) (drop n xs) x has)

-- a list of one
pub one_of : {X : Type 0} (xs : List X) (x : X) → 1 ≤ length xs → length xs < 2 →
    x ≡ get_or xs 0 x → xs ≡ x ∷ []
one_of [] x some few is = absurd (omega arith)
one_of {X} (y ∷ []) x some few is = ap (λ (z : X). z ∷ []) (sym is)
one_of (y ∷ z ∷ xs) x some few is = absurd (omega arith)

-- what is not unequal is equal
pub not_false : (b : Bool) → not b ≡ false → b ≡ true
not_false true is = refl
not_false false is = cc

-- an edge and those after it that lead to its node
pub IsRun-first : {N L : Type 0} (edges : List (Edge N L)) (done r : ℕ) (x : Edge N L) →
    done < length edges → r ≤ length (take (length edges - (done + 1)) (drop (done + 1) edges)) →
    IsRun (get_or edges done x).to
    (take r (take (length edges - (done + 1)) (drop (done + 1) edges))) →
    IsRun (get_or edges done x).to (take (done + 1 + r - done) (drop done edges))
IsRun-first {N} {L} edges done r x inside within run e has =
    elim (Contains-cons_cases (get_or edges done x) (take r after) e
    (subst (λ (l : List (Edge N L)). Contains l e) cut has)) [
      | inl same ↦ ap (λ (f : Edge N L). f.to) (sym same)
      | inr later ↦ run e (subst (λ (l : List (Edge N L)). Contains (take r l) e) (sym whole) later)
    ] where
      after : List (Edge N L)
      after = drop (done + 1) edges

      whole : take (length edges - (done + 1)) after ≡ after
      whole = take_all (length edges - (done + 1)) after (rw (length-drop) (omega arith))

      cut : take (done + 1 + r - done) (drop done edges) ≡ get_or edges done x ∷ take r after
      cut =
          let count : done + 1 + r - done ≡ suc r = omega arith in
          let next : suc done ≡ done + 1 = omega arith in
          ap (λ (n : ℕ). take n (drop done edges)) count ∙ ap (λ (l : List (Edge N L)).
          take (suc r) l)
          (drop-cons edges done x inside) ∙ ap (λ (n : ℕ). get_or edges done x
          ∷ take r (drop n edges)) next

-- an edge and so many after it are no more than there are
pub fits_after : {X : Type 0} (xs : List X) (done r : ℕ) → done < length xs →
    r ≤ length (take (length xs - (done + 1)) (drop (done + 1) xs)) → done + 1 + r ≤ length xs
fits_after xs done r inside within =
    let whole : length (take (length xs - (done + 1)) (drop (done + 1) xs)) ≡ length xs -
    (done + 1) = length-take-le (length xs - (done + 1)) (drop (done + 1) xs)
    (rw length-drop (omega arith)) in
    omega arith
