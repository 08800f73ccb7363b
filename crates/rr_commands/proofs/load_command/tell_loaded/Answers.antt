use Rattle.std.proofs.Common.{inl, inr}
use Rattle.rr_commands.proofs.load_command.tell_loaded.Goals as goal

pub returns-in-Ok : goal.returns-in-Ok
returns-in-Ok g c = inl (rw (← c.in-Ok.ensures) c.tell_count.ensures)

pub returns-in-Err : goal.returns-in-Err
returns-in-Err g c = inr c.tell.ensures
