-- Nodes whose values are all known, each list of values under its node, and how many pairs these
-- are. Private functions promise these; what a caller reads is in `Carried`.
use Rattle.std.specs.Prelude.{◌≡◌, ℕ, ◌≤◌, ◌⊎◌, ◌↔◌, List, length}
use Rattle.std.specs.Prelude.{Contains, Option, Some}
use Rattle.std.specs.declared.cmp.Ordering.{Ordering}
use Rattle.std.specs.Option.{option_map}
use Rattle.std.specs.Global.{Vec}
use Rattle.std.specs.BTreeMap.{BTreeMap, get}
use Rattle.rr_graph.specs.Answered.{ListsInOrder}
use Rattle.rr_graph.specs.Carried.{IsFound}
use Rattle.rr_graph.specs.Chain.{HasNoRepeats}
use Rattle.rr_graph.specs.EffectParts.{Makes}
use Rattle.rr_graph.specs.declared.labels.Edge.{Edge}

module _ {N V : Type 0} where
  -- the values that a map of lists has for the node
  abbrev pub values_at : (N → N → Ordering) → BTreeMap N (Vec V) → N → Option (List V)
  values_at cmp map node = option_map (λ values. values.items) (get cmp map node)

  -- The node is known, and the value is one of its values.
  abbrev pub IsKnownValue : (N → Option (List V)) → N × V → Type 0
  IsKnownValue at p = (values : List V) × (at p.0 ≡ Some values) × Contains values p.1

  -- The value is one of the node, or was known before.
  abbrev pub IsKnownValueOr : (N → Option (List V)) → N → (V → Type 0) → N × V → Type 0
  IsKnownValueOr at node P p = IsKnownValue at p ⊎ ((p.0 ≡ node) × P p.1)

-- So many pairs are known, and no more than the limit.
pub record IsTallied {N V : Type 0} (at : N → Option (List V)) (limit count : ℕ) : Type 0 where
  pub pairs : List (N × V)
  pub long : length pairs ≡ count
  pub few : count ≤ limit
  pub once : HasNoRepeats pairs
  pub same : (p : N × V) → Contains pairs p ↔ IsKnownValue at p

-- An edge leads to a known node, of whose values the label makes this one.
abbrev pub IsPassed : {N L V : Type 0} → (L → V → Option V) → (N → Option (List V))
    → List (Edge N L) → V → Type 0
IsPassed {N} {L} {V} passed at edges v = (e : Edge N L) × Contains edges e
    × ((w : V) × IsKnownValue at (e.to, w) × (passed e.label w ≡ Some v))

module _ {N L V : Type 0} (edge : N → N → L → Type 0) (own : N → V → Type 0)
    (passed : L → V → Option V) where
  -- A known node has exactly the values that are found at it, in order.
  abbrev pub HoldsAllValues : (V → V → Ordering) → (N → Option (List V)) → Type 0
  HoldsAllValues cmp at = (node : N) (values : List V) → at node ≡ Some values
      → ListsInOrder cmp (IsFound edge own passed node) values

  -- A known node has exactly the values that are found at it, in order, and so many pairs are
  -- known, no more than the limit.
  pub record HoldsAllWithin (cmp : V → V → Ordering) (at : N → Option (List V)) (limit count : ℕ)
      : Type 0 where
    pub values : HoldsAllValues cmp at
    pub tallied : IsTallied at limit count

  -- The pair of one of the nodes and a value that is found at it.
  abbrev pub IsFoundAmong : List N → N × V → Type 0
  IsFoundAmong nodes p = Contains nodes p.0 × IsFound edge own passed p.0 p.1

-- The edges lead to the node.
abbrev pub IsRun : {N L : Type 0} → N → List (Edge N L) → Type 0
IsRun {N} {L} node edges = (e : Edge N L) → Contains edges e → e.to ≡ node

-- Some of the edges lead to the node and make the value of one of these.
abbrev pub IsMade : {N L V : Type 0} → (L → V → Option V) → N → List (Edge N L) → List V
    → V → Type 0
IsMade {V = V} passed node edges starts v =
    (w : V) × Contains starts w × Makes passed w edges node v

-- Only nodes of the list are known.
abbrev pub IsAmong : {N V : Type 0} → List N → (N → Option (List V)) → Type 0
IsAmong {N} {V} nodes at =
    (node : N) (values : List V) → at node ≡ Some values → Contains nodes node
