use Rattle.rr_number.proofs.NumberOrders.{ranges_ordered}
use Rattle.rr_number.proofs.laws.ranges_are_ordered.Goals as goal

pub returns-clause-ordered : goal.returns-clause-ordered
returns-clause-ordered c = ranges_ordered
