use Rattle.rr_auth.proofs.RouteSpace.{one_closest_inetnum}
use Rattle.rr_auth.proofs.laws.closest_inetnums_are_one.Goals as goal

pub returns : goal.returns
returns c = one_closest_inetnum
