use Rattle.rr_graph.specs.NumberedParts.{AreAllPlaces}
use Rattle.rr_graph.proofs.numbered.Numbered.all.Given as goal

abbrev pub invariant-loop-place : goal.invariant-loop-place
invariant-loop-place g l = AreAllPlaces l.place l.places.items
