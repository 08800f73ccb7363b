use Rattle.std.proofs.Common.{◌≡◌, take}
use Rattle.std.specs.BTreeMap.{get}
use Rattle.std.specs.List.{filter_map}
use Rattle.rr_graph.specs.NumberedParts.{placed_edge}
use Rattle.rr_graph.proofs.numbered.placed.Given as goal

abbrev pub invariant-loop-edge : goal.invariant-loop-edge
invariant-loop-edge g l = l.placed.items ≡ filter_map (placed_edge (get g.N.Ord.cmp l.places))
    (take l.edge-index l.edges)
