use Rattle.rr_number.proofs.NumberOrders.{operators_ordered}
use Rattle.rr_number.proofs.laws.operators_are_ordered.Goals as goal

pub returns-clause-ordered : goal.returns-clause-ordered
returns-clause-ordered c = operators_ordered
