use Rattle.rr_desk.proofs.TurnOrder.{in_order}
use Rattle.rr_desk.proofs.laws.turns_are_in_order.Goals as goal

pub returns : goal.returns
returns c = in_order
