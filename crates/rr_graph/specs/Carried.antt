-- Values that labelled edges carry back: for `gather`, and for route-sets of `rr_sets`. What is
-- found at the node to which an edge leads is found at the node that it leaves too, once the edge's
-- label has passed it.
use Rattle.std.specs.Prelude.{◌≡◌, ◌↔◌, ◌⊎◌, ◌∷◌, ℕ, List, [], Option}
use Rattle.std.specs.Prelude.{Contains, Some, option_and_then}
use Rattle.std.specs.declared.cmp.Ordering.{Ordering}
use Rattle.rr_graph.specs.Answered.{ListsInOrder}
use Rattle.rr_graph.specs.Chain.{AreReached, IsReached, MoreThan}
use Rattle.rr_graph.specs.Looks.{AreLooks}
use Rattle.rr_graph.specs.declared.gathering.NodesAndValues.{NodesAndValues}
use Rattle.rr_graph.specs.declared.labels.Edge.{Edge}

module _ {N L : Type 0} (edge : N → N → L → Type 0) where
  -- Labelled edges lead from `a` through the node of each in turn, the last of which is `b`. The
  -- empty chain leads from a node to itself. (profile)
  abbrev pub IsLabelledChain : N → List (Edge N L) → N → Type 0
  IsLabelledChain a [] b = a ≡ b
  IsLabelledChain a (e ∷ es) b = edge a e.to e.label × IsLabelledChain e.to es b

  -- Some edge leads from one node to the other, whatever its label.
  abbrev pub Leads : N → N → Type 0
  Leads a b = (label : L) × edge a b label

  -- A chain of edges leads to the node from the start, whatever the labels.
  abbrev pub IsReachedFrom : N → N → Type 0
  IsReachedFrom start node = IsReached Leads (start ∷ []) node

  -- The nodes are those to which chains of edges lead from the start, itself among them, whatever
  -- the labels; a node may be listed more than once.
  abbrev pub AreReachedFrom : N → List N → Type 0
  AreReachedFrom start nodes = (node : N) → Contains nodes node ↔ IsReachedFrom start node

  -- The nodes are those to which chains of edges lead from the start, itself among them, whatever
  -- the labels, each listed once. (profile)
  abbrev pub AreMetFrom : N → List N → Type 0
  AreMetFrom start nodes = AreReached Leads (start ∷ []) nodes

-- What becomes of a value that is put through the labels of a chain, the last first; nothing if a
-- label drops it. (profile)
abbrev pub put_through : {N L V : Type 0} → (L → V → Option V) → List (Edge N L) → V
    → Option V
put_through passed [] value = Some value
put_through passed (e ∷ es) value = option_and_then (passed e.label) (put_through passed es value)

module _ {N L V : Type 0} (edge : N → N → L → Type 0) (own : N → V → Type 0)
    (passed : L → V → Option V) where
  -- A value is found at a node: some chain from the node ends at a node that has a value by itself,
  -- and the labels of the chain, the last first, make this value of it. (profile)
  abbrev pub IsFound : N → V → Type 0
  IsFound a value =
      (chain : List (Edge N L)) × (b : N) × (start : V) × IsLabelledChain edge a chain b
      × own b start × (put_through passed chain start ≡ Some value)

  -- A node that is reached from the start, with a value that is found at it.
  abbrev pub IsFoundPair : N → N × V → Type 0
  IsFoundPair start p = IsReachedFrom edge start p.0 × IsFound p.0 p.1

  -- There are more than `limit` pairs of a reached node and a value that is found at it.
  abbrev pub HasManyPairs : ℕ → N → Type 0
  HasManyPairs limit start = MoreThan limit (IsFoundPair start)

  -- More than `limit` nodes are reached, or more than `limit` pairs of a reached node and a value
  -- found at it. (profile)
  abbrev pub IsTooMany : ℕ → N → Type 0
  IsTooMany limit start = MoreThan limit (IsReachedFrom edge start) ⊎ HasManyPairs limit start

  -- What is gathered at the start: the nodes to which chains of edges lead from it, itself among
  -- them, each listed once; the looks at these nodes; and the values that are found at it, each
  -- once, in ascending order. (profile)
  pub record IsGatheredFrom {K : Type 0} (Shows : N → K → Type 0) (cmp : V → V → Ordering)
      (start : N) (gathered : NodesAndValues N K V) : Type 0 where
    pub nodes : AreMetFrom edge start gathered.nodes.items
    pub looks : AreLooks Shows gathered.nodes.items gathered.looks.items
    pub values : ListsInOrder cmp (IsFound start) gathered.values.items
