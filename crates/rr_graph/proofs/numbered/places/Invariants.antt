use Rattle.std.proofs.Common.{◌≡◌, ◌<◌, ◌↔◌, ℕ, Some}
use Rattle.std.specs.BTreeMap.{get}
use Rattle.rr_graph.specs.NumberedParts.{IsAt}
use Rattle.rr_graph.proofs.numbered.places.Given as goal

abbrev pub invariant-loop-place : goal.invariant-loop-place
invariant-loop-place g l = (n : g.row.G-Node.Denot) (j : ℕ) →
    (get g.G.Node.Ord.cmp l.places n ≡ Some j) ↔ ((j < l.place) × IsAt l.nodes j n)
