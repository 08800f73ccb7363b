use Rattle.std.proofs.Common.{◌≡◌, ◌<◌, ◌≤◌, ℕ, [], get_or}
use Rattle.std.specs.BTreeMap.{get}
use Rattle.std.specs.List.{filter_map}
use Rattle.std.specs.Ordering.{nat_cmp}
use Rattle.rr_graph.specs.NumberedParts.{placed_edge}
use Rattle.rr_graph.specs.ReversedParts.{edges_at}
use Rattle.rr_graph.specs.declared.labels.Seen.{Seen}
use Rattle.rr_graph.proofs.numbered.edges.Given as goal

abbrev pub invariant-loop-place : goal.invariant-loop-place
invariant-loop-place g l = record {
  each : (p : ℕ) (s : Seen g.row.N.Denot g.row.L.Denot g.row.K.Denot) → p < l.place
      → edges_at nat_cmp l.all p
      ≡ filter_map (placed_edge (get g.N.Ord.cmp l.places)) (get_or l.seen p s).edges.items;
  none : (p : ℕ) → l.place ≤ p → edges_at nat_cmp l.all p ≡ [];
}
