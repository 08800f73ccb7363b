use Rattle.rr_cover.proofs.Held.{closest_is_one}
use Rattle.rr_cover.proofs.laws.closest_is_one.Goals as goal

pub returns : goal.returns
returns g c = closest_is_one
