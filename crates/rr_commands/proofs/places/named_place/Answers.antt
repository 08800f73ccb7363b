use Rattle.std.proofs.Common.{inr}
use Rattle.rr_commands.proofs.places.named_place.Goals as goal

pub returns-in-Ok : goal.returns-in-Ok
returns-in-Ok g c = (_, inr c.in-Ok.ensures)
