use Rattle.rr_auth.proofs.RouteSpace.{closest_routes_agree}
use Rattle.rr_auth.proofs.laws.closest_routes_have_one_prefix.Goals as goal

pub returns : goal.returns
returns c = closest_routes_agree
