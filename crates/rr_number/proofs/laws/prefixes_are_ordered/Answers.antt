use Rattle.rr_number.proofs.NumberOrders.{prefixes_ordered}
use Rattle.rr_number.proofs.laws.prefixes_are_ordered.Goals as goal

pub returns-clause-ordered : goal.returns-clause-ordered
returns-clause-ordered c = prefixes_ordered
