use Rattle.std.proofs.Common.{refl}
use Rattle.rr_sets.proofs.route_sets.RouteSetsLabelledGraph.look.Goals as goal

pub returns-in-AutNum : goal.returns-in-AutNum
returns-in-AutNum g c = rw c.in-AutNum.is refl

pub returns-in-Set : goal.returns-in-Set
returns-in-Set g c = rw c.in-Set.is c.registered_set.ensures
