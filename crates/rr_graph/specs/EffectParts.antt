-- Edges that are enough for a value: all that keep values, and of the others to one node that make
-- the same of it, one. Private functions promise these; what a caller reads is in `Carried`.
use Rattle.std.specs.Prelude.{◌≡◌, ◌⊎◌, Bool, List, Contains, Option, None, Some, IsTrue, IfSome}
use Rattle.std.specs.Prelude.{filter, if◌then◌else◌, not}
use Rattle.std.specs.declared.cmp.Ordering.{Ordering}
use Rattle.std.specs.BTreeSet.{BTreeSet, contains}
use Rattle.rr_graph.specs.declared.effects.Choice.{Choice}
use Rattle.rr_graph.specs.declared.labels.Edge.{Edge}

module _ {N L V : Type 0} (passed : L → V → Option V) where
  -- Some of the edges lead to the node and make this of the value.
  abbrev pub Makes : V → List (Edge N L) → N → V → Type 0
  Makes value edges node made =
      (e : Edge N L) × Contains edges e × (e.to ≡ node) × (passed e.label value ≡ Some made)

  -- Those that are kept are among the edges, and make of the value at each node all that the edges
  -- do.
  pub record IsEnough (edges : List (Edge N L)) (value : V) (kept : List (Edge N L)) : Type 0 where
    pub among : (e : Edge N L) → Contains kept e → Contains edges e
    pub whole : (node : N) (made : V) → Makes value edges node made → Makes value kept node made

-- what a label that changes values makes of one
abbrev pub changed : {L V : Type 0} → (L → Bool) → (L → V → Option V) → L → V → Option V
changed keeps passed label value = if keeps label then None else passed label value

module _ {N L V : Type 0} (keeps : L → Bool) (passed : L → V → Option V) where
  -- Those of the edges that keep values, and perhaps some that change them and are enough for the
  -- value.
  pub record IsChoice (edges : List (Edge N L)) (value : V) (choice : Choice N L) : Type 0 where
    pub keeping : choice.keeping.items ≡ filter (λ e. keeps e.label) edges
    pub changing : IfSome choice.changing
        (λ kept. IsEnough (changed keeps passed) edges value kept.items)

  -- What is known of a node and a kind is enough for each value of that kind.
  abbrev pub AreChoices : {K : Type 0} → (V → K) → (N → List (Edge N L))
      → (N × K → Option (Choice N L)) → Type 0
  AreChoices kind_of all at = (node : N) (value : V) (choice : Choice N L)
      → at (node, kind_of value) ≡ Some choice → IsChoice (all node) value choice

  -- The pairs are what the edges make of the value, but may lack what those that change values do,
  -- if that was made before.
  pub record IsMadeBut (edges : List (Edge N L)) (value : V) (before : Bool) (pairs : List (N × V))
      : Type 0 where
    pub only : (p : N × V) → Contains pairs p → Makes passed value edges p.0 p.1
    pub whole : (p : N × V) → Makes passed value edges p.0 p.1
        → Contains pairs p ⊎ (IsTrue before × Makes (changed keeps passed) value edges p.0 p.1)

  -- Of each value whose node, kind and group are marked, all is there that edges which change
  -- values make of it.
  abbrev pub IsCovered : {K R : Type 0} → (V → K) → (V → R) → (N → List (Edge N L))
      → ((N × K) × R → Bool) → (N × V → Type 0) → Type 0
  IsCovered kind_of group_of all marked There = (node : N) (value : V)
      → IsTrue (marked ((node, kind_of value), group_of value))
      → (p : N × V) → Makes (changed keeps passed) value (all node) p.0 p.1 → There p

-- New has no mark that old lacks, but perhaps this one.
abbrev pub AddsAtMost : {M : Type 0} → (M → Bool) → (M → Bool) → M → Type 0
AddsAtMost {M} old new mark = (m : M) → IsTrue (new m) → IsTrue (old m) ⊎ (mark ≡ m)

-- No mark but this one is added, and `first` says whether it was lacking before.
pub record SetsMark {M : Type 0} (old new : M → Bool) (mark : M) (first : Bool) : Type 0 where
  pub is_first : first ≡ not (old mark)
  pub marked : AddsAtMost old new mark

-- The edges that are kept are enough, and the index has only what they make.
pub record IsDistinct {N L V : Type 0} (cmp : N × V → N × V → Ordering)
    (passed : L → V → Option V) (value : V) (edges kept : List (Edge N L))
    (made : BTreeSet (N × V)) : Type 0 where
  pub enough : IsEnough passed edges value kept
  pub only : (p : N × V) → IsTrue (contains cmp made p) → Makes passed value kept p.0 p.1
