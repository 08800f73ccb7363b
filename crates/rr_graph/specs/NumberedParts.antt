-- The nodes and edges of a labelled graph by their places in a list. Private functions promise
-- these; what a caller reads is in `Carried`.
use Rattle.std.specs.Prelude.{◌≡◌, ℕ, ◌<◌, ◌≤◌, ◌↔◌, List, [], length, get_or, Contains}
use Rattle.std.specs.Prelude.{Option, Some}
use Rattle.std.specs.List.{filter_map}
use Rattle.std.specs.Option.{option_map}
use Rattle.rr_graph.specs.declared.labels.Edge.{Edge}
use Rattle.rr_graph.specs.declared.labels.Seen.{Seen}

-- A look at the node found this, and these edges leave it.
pub record IsSeen {N L K : Type 0} (edge : N → N → L → Type 0) (Shows : N → K → Type 0) (node : N)
    (seen : Seen N L K) : Type 0 where
  pub look : Shows node seen.look
  pub edges : (to : N) (label : L)
      → Contains seen.edges.items (record { to = to; label = label }) ↔ edge node to label

-- The node stands at the place.
abbrev pub IsAt : {N : Type 0} → List N → ℕ → N → Type 0
IsAt nodes place node = (place < length nodes) × (node ≡ get_or nodes place node)

-- The places are all from 0 up to the count, in order.
pub record AreAllPlaces (count : ℕ) (places : List ℕ) : Type 0 where
  pub long : length places ≡ count
  pub each : (place other : ℕ) → place < count → get_or places place other ≡ place

-- The places of the nodes are known, and of no others.
abbrev pub IsPlaced : {N : Type 0} → List N → (N → Option ℕ) → Type 0
IsPlaced {N} nodes place_of =
    (node : N) (place : ℕ) → (place_of node ≡ Some place) ↔ IsAt nodes place node

-- an edge with the place of its node, where this has one
abbrev pub placed_edge : {N L : Type 0} → (N → Option ℕ) → Edge N L → Option (Edge ℕ L)
placed_edge place_of edge =
    option_map (λ place. record { to = place; label = edge.label }) (place_of edge.to)

-- At each place are the edges that were seen there, by places, and nowhere else are any.
pub record ArePlaced {N L K : Type 0} (place_of : N → Option ℕ) (seen : List (Seen N L K))
    (edges_of : ℕ → List (Edge ℕ L)) : Type 0 where
  pub each : (place : ℕ) (s : Seen N L K) → place < length seen
      → edges_of place ≡ filter_map (placed_edge place_of) (get_or seen place s).edges.items
  pub none : (place : ℕ) → length seen ≤ place → edges_of place ≡ []

-- The edges of places are those between the nodes that stand there.
abbrev pub IsNumbered : {N L : Type 0} → (N → N → L → Type 0) → List N
    → (ℕ → List (Edge ℕ L)) → Type 0
IsNumbered {N} {L} edge nodes edges_of =
    (from to : ℕ) (label : L) → Contains (edges_of from) (record { to = to; label = label })
    ↔ ((tail head : N) × IsAt nodes from tail × IsAt nodes to head × edge tail head label)
