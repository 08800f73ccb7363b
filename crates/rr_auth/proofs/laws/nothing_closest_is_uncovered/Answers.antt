use Rattle.rr_auth.proofs.RouteSpace.{nothing_closest_is_uncovered}
use Rattle.rr_auth.proofs.laws.nothing_closest_is_uncovered.Goals as goal

pub returns : goal.returns
returns c = nothing_closest_is_uncovered
