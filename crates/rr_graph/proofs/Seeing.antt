-- What was found by looks at nodes, as one more node is looked at, and the edges that were seen.
use Rattle.std.proofs.Common.{◌≡◌, ℕ, ◌+◌, ◌<◌, ◌≤◌, ◌↔◌, List, [], ◌∷◌, ◌++◌, length, get_or}
use Rattle.std.proofs.Common.{Contains, Option, map, refl, sym, ap, ◌∙◌, subst, inl, inr, arith}
use Rattle.std.proofs.Common.{true, false, cond}
use Rattle.std.specs.BTreeMap.{is_at}
use Rattle.std.specs.List.{filter_map}
use Rattle.std.specs.Ordering.{nat_cmp}
use Rattle.std.proofs.lemmas.Bool.{cases_Bool, cases_lt, true≢false}
use Rattle.std.proofs.lemmas.Cmp.{eq_by_cmp_equiv, nat_cmp_total}
use Rattle.std.proofs.lemmas.Map.Lookups.{exact_unsigned}
use Rattle.std.proofs.lemmas.Map.Views.{tells_apart}
use Rattle.std.proofs.lemmas.List.{get_or_append_left, get_or_default, get_or_push, get_or-map}
use Rattle.std.proofs.lemmas.List.{length-map, length_push}
use Rattle.std.proofs.lemmas.List.Elements.{Contains-get_or}
use Rattle.rr_graph.specs.ListingParts.{Lists}
use Rattle.rr_graph.specs.Looks.{AreLooks}
use Rattle.rr_graph.specs.NumberedParts.{ArePlaced, IsAt, IsNumbered, IsPlaced, IsSeen, placed_edge}
use Rattle.rr_graph.specs.declared.labels.Edge.{Edge}
use Rattle.rr_graph.specs.declared.labels.Seen.{Seen}
use Rattle.rr_graph.proofs.Listings.{Contains-single}
use Rattle.rr_graph.proofs.Lists.{Contains-nil, thing_at}
use Rattle.rr_graph.proofs.Placing.{Contains-placed}

-- an empty list is not long
pub none_long : {X : Type 0} (xs : List X) → xs ≡ [] → length xs ≡ 0
none_long xs empty = ap length empty

-- a list with one thing more is longer by one
pub one_longer : {X : Type 0} (xs all : List X) (x : X) (n : ℕ) → length xs ≡ n →
    all ≡ xs ++ x ∷ [] → length all ≡ n + 1
one_longer xs all x n long is = ap length is ∙ length_push xs x ∙ ap (λ (m : ℕ). m + 1) long

-- a list of one node begins with it
pub one_first : {N : Type 0} (node : N) (list : List N) → Lists [] (node ∷ []) list →
    (0 < length list) × (node ≡ get_or list 0 node)
one_first node list added =
    let (k, inside, _) = added.all node (0, omega arith, refl) in
    let some : 0 < length list = omega arith in (
      some,
      elim (added.only (get_or list 0 node) (Contains-get_or list 0 node some)) [
        | inl none ↦ absurd (Contains-nil (get_or list 0 node) none)
        | inr same ↦ Contains-single node (get_or list 0 node) same
      ],
    )

module _ {N K : Type 0} (Shows : N → K → Type 0) where
  -- one more node was looked at
  pub looks_more : (done : ℕ) (list more new : List N) (looks all : List K) (node : N) (look : K) →
      length looks ≡ done →
      ((p : ℕ) (n : N) (k : K) → p < done → Shows (get_or list p n) (get_or looks p k)) →
      done < length list → node ≡ get_or list done node → new ≡ list ++ more →
      all ≡ looks ++ look ∷ [] → Shows node look → (p : ℕ) (n : N) (k : K) → p < done + 1 →
      Shows (get_or new p n) (get_or all p k)
  looks_more done list more new looks all node look long before inside is after pushed shown p n k
      less = elim (cases_lt p done) [
        | inl earlier ↦ at (kept p n (omega arith))
            (rw pushed (get_or_append_left looks (look ∷ []) k p (omega arith)))
            (before p n k earlier)
        | inr last ↦
            let it : p ≡ done = omega arith in
            at (kept p n (omega arith) ∙ ap (λ (i : ℕ). get_or list i n) it
            ∙ get_or_default list done n node inside ∙ sym is)
            (rw pushed (get_or_push looks look k p (omega arith))) shown
      ] where
        kept : (p : ℕ) (n : N) → p < length list → get_or new p n ≡ get_or list p n
        kept p n h = rw after (get_or_append_left list more n p h)

        at : {a b : N} {c d : K} → a ≡ b → c ≡ d → Shows b d → Shows a c
        at {a = a} {d = d} same alike has = subst (Shows a) (sym alike)
            (subst (λ (x : N). Shows x d) (sym same) has)

  -- the looks, where more was seen
  pub AreLooks-map : {S : Type 0} (More : N → S → Type 0) (f : S → K) (nodes : List N)
      (seen : List S) (looks : List K) → ((n : N) (s : S) → More n s → Shows n (f s)) →
      looks ≡ map f seen → AreLooks More nodes seen → AreLooks Shows nodes looks
  AreLooks-map {S} More f nodes seen looks only is all = record {
    long = ap length is ∙ length-map seen f ∙ all.long;
    each = λ place node look inside.
        let less : place < length seen = subst (λ (n : ℕ). place < n) (sym all.long) inside in
        let (s, _) = thing_at seen place less in
        subst (Shows (get_or nodes place node))
        (sym (ap (λ (l : List K). get_or l place look) is ∙ get_or-map f seen place s look less))
        (only (get_or nodes place node) (get_or seen place s) (all.each place node s inside));
  }

-- the edges that were seen, by places, are those between the nodes at these
pub IsNumbered-seen : {N L K : Type 0} (edge : N → N → L → Type 0) (Shows : N → K → Type 0)
    (nodes : List N) (place_of : N → Option ℕ) (seen : List (Seen N L K))
    (edges_of : ℕ → List (Edge ℕ L)) → IsPlaced nodes place_of →
    AreLooks (IsSeen edge Shows) nodes seen → ArePlaced place_of seen edges_of →
    IsNumbered edge nodes edges_of
IsNumbered-seen {N} {L} {K} edge Shows nodes place_of seen edges_of placed looks are from to label =
    (on, back) where
      asked : Edge ℕ L
      asked = record { to = to; label = label }

      leave : (s : Seen N L K) (node : N) → from < length nodes → node ≡ get_or nodes from node →
          s ≡ get_or seen from s → (to : N) (label : L) →
          Contains s.edges.items (record { to = to; label = label }) ↔ edge node to label
      leave s node inside is shown =
          let both : IsSeen edge Shows node s = subst (IsSeen edge Shows node) (sym shown)
          (subst (λ (n : N). IsSeen edge Shows n (get_or seen from s)) (sym is)
          (looks.each from node s inside)) in
          both.edges

      list_is : (s : Seen N L K) → from < length seen → s ≡ get_or seen from s → edges_of from
          ≡ filter_map (placed_edge place_of) s.edges.items
      list_is s less shown = are.each from s less
          ∙ ap (λ (x : Seen N L K). filter_map (placed_edge place_of) x.edges.items) (sym shown)

      on : Contains (edges_of from) asked → (tail head : N) × IsAt nodes from tail
          × IsAt nodes to head × edge tail head label
      on has = elim (cases_lt from (length seen)) [
        | inl less ↦
            let inside : from < length nodes = subst (λ (n : ℕ). from < n) looks.long less in
            let (node, is) = thing_at nodes from inside in
            let (s, shown) = thing_at seen from less in
            let (head, at, leads) = (Contains-placed edge nodes place_of placed node s.edges.items
            (edges_of from) (leave s node inside is shown) (list_is s less shown) to label).0 has in
            (node, head, (inside, is), at, leads)
        | inr beyond ↦
            absurd (Contains-nil asked (subst (λ (l : List (Edge ℕ L)). Contains l asked)
            (are.none from beyond) has))
      ]

      back : (tail head : N) × IsAt nodes from tail × IsAt nodes to head × edge tail head label →
          Contains (edges_of from) asked
      back (tail, head, at_tail, at_head, leads) =
          let less : from < length seen = subst (λ (n : ℕ). from < n) (sym looks.long) at_tail.0 in
          let (s, shown) = thing_at seen from less in
          (Contains-placed edge nodes place_of placed tail s.edges.items (edges_of from)
          (leave s tail at_tail.0 at_tail.1 shown) (list_is s less shown) to label).1
          (head, at_head, leads)

-- a number is at itself
not_there : (i p : ℕ) → i ≡ p → is_at (nat_cmp i) p ≡ false → ⊥
not_there i p it other = true≢false (sym (subst (λ (k : ℕ). is_at (nat_cmp i) k ≡ true) it
    ((eq_by_cmp_equiv nat_cmp_total).refl i)) ∙ other)

module _ {N L K : Type 0} (place_of : N → Option ℕ) (seen : List (Seen N L K)) (i : ℕ)
    (here : Seen N L K) (old new : ℕ → List (Edge ℕ L)) (list : List (Edge ℕ L)) where
  -- the edges at one more place
  pub each_more : i < length seen → here ≡ get_or seen i here →
      list ≡ filter_map (placed_edge place_of) here.edges.items →
      ((p : ℕ) (s : Seen N L K) → p < i → old p ≡ filter_map (placed_edge place_of)
      (get_or seen p s).edges.items) → ((q : ℕ) → new q ≡ cond (is_at (nat_cmp i) q) list (old q))
      → (p : ℕ) (s : Seen N L K) → p < i + 1 → new p ≡ filter_map (placed_edge place_of)
      (get_or seen p s).edges.items
  each_more inside is made before step p s less = elim (cases_Bool (is_at (nat_cmp i) p)) [
    | inl same ↦
        let it : i ≡ p = tells_apart exact_unsigned i p same in
        step p ∙ ap (λ b. cond b list (old p)) same ∙ made
        ∙ ap (λ (x : Seen N L K). filter_map (placed_edge place_of) x.edges.items)
        (is ∙ get_or_default seen i here s inside ∙ ap (λ (k : ℕ). get_or seen k s) it)
    | inr other ↦ step p ∙ ap (λ b. cond b list (old p)) other ∙ elim (cases_lt p i) [
      | inl earlier ↦ before p s earlier
      | inr last ↦ absurd (not_there i p (omega arith) other)
    ]
  ]

-- and no edges beyond it
pub none_more : {L : Type 0} (i : ℕ) (old new : ℕ → List (Edge ℕ L)) (list : List (Edge ℕ L)) →
    ((p : ℕ) → i ≤ p → old p ≡ []) → ((q : ℕ) → new q ≡ cond (is_at (nat_cmp i) q) list (old q)) →
    (p : ℕ) → i + 1 ≤ p → new p ≡ []
none_more i old new list before step p beyond = elim (cases_Bool (is_at (nat_cmp i) p)) [
  | inl same ↦ let it : i ≡ p = tells_apart exact_unsigned i p same in absurd (omega arith)
  | inr other ↦ step p ∙ ap (λ b. cond b list (old p)) other ∙ before p (omega arith)
]
