use Rattle.rr_cover.proofs.Held.{covering_is_whole, lists_rise}
use Rattle.rr_cover.proofs.laws.lists_are_whole.Goals as goal

pub returns-clause-covering : goal.returns-clause-covering
returns-clause-covering g c = covering_is_whole

pub returns-clause-rise : goal.returns-clause-rise
returns-clause-rise g c = lists_rise
