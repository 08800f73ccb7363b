use Rattle.std.proofs.Common.{inr}
use Rattle.rr_commands.proofs.output.shown_database.Goals as goal

pub returns-in-Ok : goal.returns-in-Ok
returns-in-Ok c = inr (rw (← c.as_str.ensures.value) c.in-Ok.ensures)
