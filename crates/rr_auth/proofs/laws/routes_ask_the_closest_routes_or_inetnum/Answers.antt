use Rattle.rr_auth.proofs.RouteSpace.{routes_ask_the_closest}
use Rattle.rr_auth.proofs.laws.routes_ask_the_closest_routes_or_inetnum.Goals as goal

pub returns : goal.returns
returns c = routes_ask_the_closest
