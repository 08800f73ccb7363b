use Rattle.rr_desk.specs.Histories.Happens.{closing}
use Rattle.rr_desk.proofs.desk.Desk.close.Goals as goal

pub returns-clause-event : goal.returns-clause-event
returns-clause-event g c = closing _ _ c.close.ensures.same
