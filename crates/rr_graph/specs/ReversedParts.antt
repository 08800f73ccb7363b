-- The edges of a labelled graph by the node to which they lead, and the pairs of a node and a value
-- that they carry back. Private functions promise these; what a caller reads is in `Carried`.
use Rattle.std.specs.Prelude.{◌≡◌, ◌⊎◌, ◌↔◌, List, [], Contains, Option, Some}
use Rattle.std.specs.declared.cmp.Ordering.{Ordering}
use Rattle.std.specs.Option.{option_map_or}
use Rattle.std.specs.Global.{Vec}
use Rattle.std.specs.BTreeMap.{BTreeMap, get}
use Rattle.rr_graph.specs.Chain.{IsChain}
use Rattle.rr_graph.specs.declared.labels.Edge.{Edge}

module _ {N L : Type 0} where
  -- the edges that a map of lists has for the node
  abbrev pub edges_at : (N → N → Ordering) → BTreeMap N (Vec (Edge N L)) → N
      → List (Edge N L)
  edges_at cmp map node = option_map_or (λ edges. edges.items) (get cmp map node) []

  -- New is old and the edges that leave the tail, each under its head.
  abbrev pub AddsBackward : (N → List (Edge N L)) → N → List (Edge N L)
      → (N → List (Edge N L)) → Type 0
  AddsBackward old tail edges new =
      (head : N) (back : Edge N L) → Contains (new head) back ↔ (Contains (old head) back
      ⊎ ((back.to ≡ tail) × Contains edges (record { to = head; label = back.label })))

  -- Under each head stand the edges that leave one of the nodes and lead to it.
  abbrev pub IsBackward : (N → N → L → Type 0) → List N → (N → List (Edge N L))
      → Type 0
  IsBackward edge nodes backward =
      (head : N) (back : Edge N L)
      → Contains (backward head) back ↔ (Contains nodes back.to × edge back.to head back.label)

-- A value is carried back from one node to another by an edge that leads from the second to the
-- first.
abbrev pub LeadsBack : {N L V : Type 0} → (L → V → Option V) → (N → List (Edge N L))
    → N × V → N × V → Type 0
LeadsBack {L = L} passed backward p q =
    (label : L) × Contains (backward p.0) (record { to = q.0; label = label })
    × (passed label p.1 ≡ Some q.1)

-- The pair of one of the nodes and a value of its own.
abbrev pub IsOwnPair : {N V : Type 0} → (N → V → Type 0) → List N → N × V → Type 0
IsOwnPair own nodes p = Contains nodes p.0 × own p.0 p.1

module _ {N L V : Type 0} (edge : N → N → L → Type 0) (own : N → V → Type 0)
    (passed : L → V → Option V) where
  -- The value of a pair is carried back to another pair over an edge that leaves one of the nodes.
  abbrev pub CarriesBack : List N → N × V → N × V → Type 0
  CarriesBack nodes p q =
      (label : L) × Contains nodes q.0 × edge q.0 p.0 label × (passed label p.1 ≡ Some q.1)

  -- A node and a value that comes back to it from a value of its own of one of the nodes, over
  -- edges that leave these.
  abbrev pub IsCarriedPair : List N → N × V → Type 0
  IsCarriedPair nodes p = (q : N × V) × (chain : List (N × V)) × IsOwnPair own nodes q
      × IsChain (CarriesBack nodes) q chain p
