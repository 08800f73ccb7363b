use Rattle.rr_desk.specs.Histories.Happens.{printing}
use Rattle.rr_desk.proofs.desk.Desk.dump.Goals as goal

pub returns-clause-event : goal.returns-clause-event
returns-clause-event g c = λ running. printing _ _ running

pub returns-in_err-dump-clause-event : goal.returns-in_err-dump-clause-event
returns-in_err-dump-clause-event g c = λ running. printing _ _ running
