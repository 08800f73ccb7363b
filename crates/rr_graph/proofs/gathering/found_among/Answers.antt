use Rattle.std.proofs.Common.{◌≡◌, ◌<◌, ◌↔◌, ℕ, List, [], ◌∷◌, Contains, is_some, length, sym, ap}
use Rattle.std.proofs.Common.{subst}
use Rattle.std.specs.Ordering.{nat_cmp}
use Rattle.rr_graph.specs.Answered.{IsWalk}
use Rattle.rr_graph.specs.Carried.{AreMetFrom, IsFound, IsFoundPair, Leads}
use Rattle.rr_graph.specs.Chain.{MoreThan}
use Rattle.rr_graph.specs.Looks.{AreLooks}
use Rattle.rr_graph.specs.NumberedParts.{AreAllPlaces, IsAt, IsSeen}
use Rattle.rr_graph.specs.ReversedParts.{edges_at}
use Rattle.rr_graph.specs.declared.Visits.{Visits}
use Rattle.rr_graph.specs.declared.labels.Seen.{Seen}
use Rattle.rr_graph.proofs.Finding.{FindsWithin-weaker}
use Rattle.rr_graph.proofs.Lists.{Contains-head}
use Rattle.rr_graph.proofs.Numbers.{Contains-places, IsAt-some, IsFound-numbered}
use Rattle.rr_graph.proofs.Numbers.{IsReachedFrom-numbered, MoreThan-numbered, looks_at_places}
use Rattle.rr_graph.proofs.Reached.{IsReached-start}
use Rattle.rr_graph.proofs.gathering.found_among.Goals as goal

-- equal places of equally many nodes
all_places : (lent places : List ℕ) (count other : ℕ) → lent ≡ places → count ≡ other →
    AreAllPlaces count places → AreAllPlaces other lent
all_places lent places count other is same all =
    subst (λ (l : List ℕ). AreAllPlaces other l) (sym is)
    (subst (λ (n : ℕ). AreAllPlaces n places) same all)

-- the nodes of a walk, as a slice has them
met_in : {N L K : Type 0} (edge : N → N → L → Type 0) (Shows : N → K → Type 0) (start : N)
    (visits : Visits N K) (nodes : List N) → nodes ≡ visits.nodes.items →
    IsWalk (Leads edge) Shows (start ∷ []) visits → AreMetFrom edge start nodes
met_in edge Shows start visits nodes is walk = subst (AreMetFrom edge start) (sym is) walk.nodes

-- and the looks at these
seen_in : {N L K : Type 0} (edge : N → N → L → Type 0) (Shows : N → K → Type 0) (start : N)
    (visits : Visits N K) (nodes : List N) (seen : List K) → nodes ≡ visits.nodes.items →
    seen ≡ visits.looks.items → IsWalk (Leads edge) Shows (start ∷ []) visits →
    AreLooks Shows nodes seen
seen_in {N} {L} {K} edge Shows start visits nodes seen is same walk =
    subst (λ (l : List N). AreLooks Shows l seen) (sym is)
    (subst (λ (l : List K). AreLooks Shows visits.nodes.items l) (sym same) walk.looks)

pub place-place-requires : goal.place-place-requires
place-place-requires g c =
    let met = met_in (g.G.Labelled.edge c.args.graph.now)
    (IsSeen (g.G.Labelled.edge c.args.graph.now) (g.G.Labelled.shows c.args.graph.now))
    c.args.start.now c.args.visits.now c.as_slice-nodes.result.now c.as_slice-nodes.ensures.value
    c.requires in
    let start = c.args.start.now in
    let (place, at) = IsAt-some c.as_slice-nodes.result.now start ((met.all start).1
    (IsReached-start (Leads (g.G.Labelled.edge c.args.graph.now)) (start ∷ []) start
    (Contains-head start []))) in
    ap is_some ((c.in_ok-numbered.ensures.places start place).1 at)

pub found_at-requires-clause-reached : goal.found_at-requires-clause-reached
found_at-requires-clause-reached g c = λ place.
    let met = met_in (g.G.Labelled.edge c.args.graph.now)
    (IsSeen (g.G.Labelled.edge c.args.graph.now) (g.G.Labelled.shows c.args.graph.now))
    c.args.start.now c.args.visits.now c.as_slice-nodes.result.now c.as_slice-nodes.ensures.value
    c.requires in
    let numbers : ℕ → ℕ → g.row.G-Label.Denot → Type 0 = λ from to label.
    Contains (edges_at nat_cmp c.in_ok-numbered.numbered.edges from)
    (record { to = to; label = label }) in
    let begins : IsAt c.as_slice-nodes.result.now c.place-place.result c.args.start.now =
    (c.in_ok-numbered.ensures.places c.args.start.now c.place-place.result).0
    c.place-place.ensures in
    let reached_from : (place < length c.as_slice-nodes.result.now) ↔ _ =
    IsReachedFrom-numbered (g.G.Labelled.edge c.args.graph.now) (g.G.Labelled.own c.args.graph.now)
    g.G.Labelled.passed c.as_slice-nodes.result.now met.once numbers c.in_ok-numbered.ensures.edges
    c.args.start.now c.place-place.result begins met.all place in
    let all : Contains c.deref.result.now place ↔ (place < length c.as_slice-nodes.result.now) =
    Contains-places (length c.as_slice-nodes.result.now) c.deref.result.now
    (all_places c.deref.result.now c.in_ok-places.places.items
    (length c.in_ok-numbered.numbered.nodes.now) (length c.as_slice-nodes.result.now)
    c.deref.ensures.value (ap length c.in_ok-numbered.ensures.nodes) c.in_ok-places.ensures)
    place in
    (λ has. reached_from.0 (all.0 has), λ is. all.1 (reached_from.1 is))

pub found_at-requires-clause-looks : goal.found_at-requires-clause-looks
found_at-requires-clause-looks g c =
    let looks = seen_in (g.G.Labelled.edge c.args.graph.now)
    (IsSeen (g.G.Labelled.edge c.args.graph.now) (g.G.Labelled.shows c.args.graph.now))
    c.args.start.now c.args.visits.now c.as_slice-nodes.result.now c.as_slice-seen.result.now
    c.as_slice-nodes.ensures.value c.as_slice-seen.ensures.value c.requires in
    let N : Type 0 = g.row.G-Node.Denot in
    let S : Type 0 = Seen N g.row.G-Label.Denot g.row.G-Look.Denot in
    let shown : ℕ → S → Type 0 = λ place seen. (node : N) × IsAt c.as_slice-nodes.result.now place
    node × IsSeen (g.G.Labelled.edge c.args.graph.now) (g.G.Labelled.shows c.args.graph.now) node
    seen in
    let shown_is : (λ (place : ℕ). λ (seen : S). (node : N)
    × IsAt c.in_ok-numbered.numbered.nodes.now place node
    × IsSeen (g.G.Labelled.edge c.in_ok-numbered.numbered.graph.now)
    (g.G.Labelled.shows c.in_ok-numbered.numbered.graph.now) node seen) ≡ shown =
    λ j place seen. (node : N) × IsAt (c.in_ok-numbered.ensures.nodes j) place node
    × IsSeen (g.G.Labelled.edge (c.in_ok-numbered.ensures.graph j))
    (g.G.Labelled.shows (c.in_ok-numbered.ensures.graph j)) node seen in
    subst (λ (P : ℕ → S → Type 0). AreLooks P c.deref.result.now c.as_slice-seen.result.now)
    (sym shown_is) (looks_at_places (IsSeen (g.G.Labelled.edge c.args.graph.now)
    (g.G.Labelled.shows c.args.graph.now)) c.as_slice-nodes.result.now c.as_slice-seen.result.now
    c.deref.result.now looks (all_places c.deref.result.now c.in_ok-places.places.items
    (length c.in_ok-numbered.numbered.nodes.now) (length c.as_slice-nodes.result.now)
    c.deref.ensures.value (ap length c.in_ok-numbered.ensures.nodes) c.in_ok-places.ensures))

pub returns : goal.returns
returns g c =
    let met = met_in (g.G.Labelled.edge c.args.graph.now)
    (IsSeen (g.G.Labelled.edge c.args.graph.now) (g.G.Labelled.shows c.args.graph.now))
    c.args.start.now c.args.visits.now c.as_slice-nodes.result.now c.as_slice-nodes.ensures.value
    c.requires in
    let N : Type 0 = g.row.G-Node.Denot in
    let V : Type 0 = g.row.G-Value.Denot in
    let numbers : ℕ → ℕ → g.row.G-Label.Denot → Type 0 = λ from to label.
    Contains (edges_at nat_cmp c.in_ok-numbered.numbered.edges from)
    (record { to = to; label = label }) in
    let begins : IsAt c.as_slice-nodes.result.now c.place-place.result c.args.start.now =
    (c.in_ok-numbered.ensures.places c.args.start.now c.place-place.result).0
    c.place-place.ensures in
    let owned : ℕ → V → Type 0 = λ place value. (node : N) × IsAt c.as_slice-nodes.result.now place
    node × g.G.Labelled.own c.args.graph.now node value in
    let own_is : (λ (place : ℕ). λ (value : V). (node : N)
    × IsAt c.in_ok-numbered.numbered.nodes.now place node × g.G.Labelled.own
    c.in_ok-numbered.numbered.graph.now node value) ≡ owned =
    λ j place value. (node : N) × IsAt (c.in_ok-numbered.ensures.nodes j) place node
    × g.G.Labelled.own (c.in_ok-numbered.ensures.graph j) node value in
    let same = MoreThan-numbered (g.G.Labelled.edge c.args.graph.now)
    (g.G.Labelled.own c.args.graph.now) g.G.Labelled.passed c.as_slice-nodes.result.now met.once
    numbers c.in_ok-numbered.ensures.edges c.args.start.now c.place-place.result begins
    met.all c.args.limit in
    FindsWithin-weaker c.found_at.ensures
    (λ values found. record {
      all = λ value.
          let same_value = IsFound-numbered (g.G.Labelled.edge c.args.graph.now)
          (g.G.Labelled.own c.args.graph.now) g.G.Labelled.passed c.as_slice-nodes.result.now
          met.once numbers c.in_ok-numbered.ensures.edges c.args.start.now c.place-place.result
          begins met.all c.place-place.result c.args.start.now begins value in
          let held = subst (λ (o : ℕ → V → Type 0). Contains values.items value
          ↔ IsFound numbers o g.G.Labelled.passed c.place-place.result value) own_is
          (found.all value) in
          (λ has. same_value.0 (held.0 has), λ is. held.1 (same_value.1 is));
      sorted = found.sorted;
    })
    (λ many. same.0 (subst (λ (o : ℕ → V → Type 0). MoreThan c.args.limit
    (IsFoundPair numbers o g.G.Labelled.passed c.place-place.result)) own_is many))
    (λ many. subst (λ (o : ℕ → V → Type 0). MoreThan c.args.limit
    (IsFoundPair numbers o g.G.Labelled.passed c.place-place.result)) (sym own_is) (same.1 many))
