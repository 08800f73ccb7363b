use Rattle.std.proofs.Common.{List, ◌≡◌, ◌++◌, length}
use Rattle.rr_graph.specs.ReversedParts.{AddsBackward, edges_at}
use Rattle.rr_graph.specs.declared.labels.Edge.{Edge}
use Rattle.rr_graph.proofs.backward.Backward.add_all.Given as goal

-- The edges taken from the end so far are added.
pub record IsTurning {N L : Type 0} (old : N → List (Edge N L)) (tail : N)
    (edges rest : List (Edge N L)) (now : N → List (Edge N L)) : Type 0 where
  pub taken : List (Edge N L)
  pub cut : edges ≡ rest ++ taken
  pub added : AddsBackward old tail taken now

abbrev pub invariant-loop-edge : goal.invariant-loop-edge
invariant-loop-edge g l = IsTurning (edges_at g.N.Ord.cmp l.initial.self.map) l.tail
    l.initial.edges.items l.edges.items (edges_at g.N.Ord.cmp l.self.map)

abbrev pub decreases-loop-edge : goal.decreases-loop-edge
decreases-loop-edge g l = length l.edges.items
