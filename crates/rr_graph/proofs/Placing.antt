-- The places of nodes in a list, and edges between places, as one more node is entered.
use Rattle.std.proofs.Common.{◌≡◌, ℕ, ◌+◌, ◌<◌, ◌↔◌, Bool, true, false, cond, List, [], length}
use Rattle.std.proofs.Common.{get_or, Contains, Option, None, Some, Ordering, refl, sym, ap, ◌∙◌}
use Rattle.std.proofs.Common.{subst, inl, inr, arith}
use Rattle.std.specs.BTreeMap.{BTreeMap, get, is_at}
use Rattle.std.specs.Cmp.{IsTotalOrder}
use Rattle.std.specs.Global.{Vec}
use Rattle.std.specs.List.{filter_map}
use Rattle.std.specs.Option.{option_map, option_map_or}
use Rattle.std.specs.Map.{lookup}
use Rattle.std.proofs.lemmas.Bool.{cases_Bool, cases_lt, true≢false}
use Rattle.std.proofs.lemmas.Cmp.{eq_by_cmp_equiv}
use Rattle.std.proofs.lemmas.Map.Lookups.{CmpEqualImpliesEq}
use Rattle.std.proofs.lemmas.Map.Views.{tells_apart}
use Rattle.rr_graph.specs.Chain.{HasNoRepeats}
use Rattle.rr_graph.specs.NumberedParts.{IsAt, IsPlaced, placed_edge}
use Rattle.rr_graph.specs.ReversedParts.{edges_at}
use Rattle.rr_graph.specs.declared.labels.Edge.{Edge}
use Rattle.rr_graph.proofs.Lists.{Contains-filter_map}
use Rattle.rr_graph.proofs.Numbers.{IsAt-alone, IsAt-one}

-- the edges that a map has after one more list is inserted
pub edges_entered : {K N L : Type 0} (cmp : K → K → Ordering)
    (old new : BTreeMap K (Vec (Edge N L))) (key : K) (list : Vec (Edge N L)) →
    ((q : K) → get cmp new q ≡ cond (is_at (cmp key) q) (Some list) (get cmp old q)) → (q : K) →
    option_map_or (λ (l : Vec (Edge N L)). l.items) (get cmp new q) [] ≡ cond (is_at (cmp key) q)
    list.items (option_map_or (λ (l : Vec (Edge N L)). l.items) (get cmp old q) [])
edges_entered {K} {N} {L} cmp old new key list update q =
    ap (λ (o : Option (Vec (Edge N L))). option_map_or (λ (l : Vec (Edge N L)). l.items) o [])
    (update q) ∙ over (is_at (cmp key) q) where
      over : (b : Bool) → option_map_or (λ (l : Vec (Edge N L)). l.items)
          (cond b (Some list) (get cmp old q)) [] ≡ cond b list.items
          (option_map_or (λ (l : Vec (Edge N L)). l.items) (get cmp old q) [])
      over true = refl
      over false = refl

module _ {N : Type 0} {cmp : N → N → Ordering} (order : IsTotalOrder cmp)
    (exact : CmpEqualImpliesEq cmp) (nodes : List N) (once : HasNoRepeats nodes) where
  -- one more node has its place
  pub IsPlaced-more : (i : ℕ) (node : N) (old new : N → Option ℕ) → i < length nodes →
      node ≡ get_or nodes i node →
      ((n : N) (j : ℕ) → (old n ≡ Some j) ↔ ((j < i) × IsAt nodes j n)) →
      ((q : N) → new q ≡ cond (is_at (cmp node) q) (Some i) (old q)) → (n : N) (j : ℕ) →
      (new n ≡ Some j) ↔ ((j < i + 1) × IsAt nodes j n)
  IsPlaced-more i node old new inside is before step n j = (on, from) where
    on : new n ≡ Some j → (j < i + 1) × IsAt nodes j n
    on has = elim (cases_Bool (is_at (cmp node) n)) [
      | inl same ↦
          let both : Some i ≡ Some j = sym (step n ∙ ap (λ b. cond b (Some i) (old n)) same)
          ∙ has in
          let alike : i ≡ j = cc in (
            omega arith,
            subst (λ (k : ℕ). IsAt nodes k n) alike
                (subst (IsAt nodes i) (tells_apart exact node n same) (inside, is)),
          )
      | inr other ↦ let r = (before n j).0 (sym (step n ∙ ap (λ b. cond b (Some i) (old n)) other)
          ∙ has) in (omega arith, r.1)
    ]

    from : (j < i + 1) × IsAt nodes j n → new n ≡ Some j
    from (few, at) = elim (cases_Bool (is_at (cmp node) n)) [
      | inl same ↦
          let here : IsAt nodes i n = subst (IsAt nodes i) (tells_apart exact node n same)
          (inside, is) in
          step n ∙ ap (λ b. cond b (Some i) (old n)) same ∙ ap Some
          (IsAt-alone nodes once i j n here at)
      | inr other ↦ step n ∙ ap (λ b. cond b (Some i) (old n)) other ∙ elim (cases_lt j i) [
        | inl earlier ↦ (before n j).1 (earlier, at)
        | inr last ↦
            let it : j ≡ i = omega arith in
            let same : node ≡ n = IsAt-one nodes i node n (inside, is)
            (subst (λ (k : ℕ). IsAt nodes k n) it at) in
            absurd
            (true≢false
            (sym (subst (λ (m : N). is_at (cmp node) m ≡ true) same
            ((eq_by_cmp_equiv order).refl node)) ∙ other))
      ]
    ]

module _ {N L : Type 0} (edge : N → N → L → Type 0) (nodes : List N) (place_of : N → Option ℕ)
    (placed : IsPlaced nodes place_of) where
  -- the edges of one node with the places of their ends
  pub Contains-placed : (node : N) (edges : List (Edge N L)) (list : List (Edge ℕ L)) →
      ((to : N) (label : L) → Contains edges (record { to = to; label = label }) ↔ edge node to
      label) → list ≡ filter_map (placed_edge place_of) edges → (to : ℕ) (label : L) →
      Contains list (record { to = to; label = label })
      ↔ ((head : N) × IsAt nodes to head × edge node head label)
  Contains-placed node edges list leave is to label = (on, from) where
    asked : Edge ℕ L
    asked = record { to = to; label = label }

    parts : (o : Option ℕ) (l : L) → option_map (λ (place : ℕ). record { to = place; label = l }) o
        ≡ Some asked → (o ≡ Some to) × (l ≡ label)
    parts None l none = cc
    parts (Some place) l some =
        let same : record { to = place; label = l } ≡ asked = cc in
        (ap Some (ap (λ (e : Edge ℕ L). e.to) same), ap (λ (e : Edge ℕ L). e.label) same)

    on : Contains list asked → (head : N) × IsAt nodes to head × edge node head label
    on has =
        let r = (Contains-filter_map (placed_edge place_of) edges asked).0
        (subst (λ (l : List (Edge ℕ L)). Contains l asked) is has) in
        let p = parts (place_of r.0.to) r.0.label r.2 in (
          r.0.to,
          (placed r.0.to to).0 p.0,
          subst (λ (l : L). edge node r.0.to l) p.1
              ((leave r.0.to r.0.label).0 r.1),
        )

    from : (head : N) × IsAt nodes to head × edge node head label → Contains list asked
    from (head, at, step) =
        rw is ((Contains-filter_map (placed_edge place_of) edges asked).1 (
          record { to = head; label = label },
          (leave head label).1 step,
          ap (option_map (λ (place : ℕ). record { to = place; label = label }))
              ((placed head to).1 at),
        ))

-- an empty map has nothing
pub get_none : {K X : Type 0} (cmp : K → K → Ordering) (map : BTreeMap K X) → map.entries ≡ [] →
    (key : K) → get cmp map key ≡ None
get_none cmp map empty key = ap (lookup (is_at (cmp key))) empty

-- nor edges
pub edges_none : {N L : Type 0} (cmp : N → N → Ordering) (map : BTreeMap N (Vec (Edge N L))) →
    map.entries ≡ [] → (node : N) → edges_at cmp map node ≡ []
edges_none {N} {L} cmp map empty node =
    ap (λ (o : Option (Vec (Edge N L))). option_map_or (λ (l : Vec (Edge N L)). l.items) o [])
    (get_none cmp map empty node)
