use Rattle.rr_auth.proofs.RouteSpace.{one_closest_block}
use Rattle.rr_auth.proofs.laws.closest_blocks_are_one.Goals as goal

pub returns : goal.returns
returns c = one_closest_block
