use Rattle.std.proofs.Common.{refl}
use Rattle.rr_commands.proofs.registry_databases.close.Goals as goal

pub returns : goal.returns
returns g c = c.close.ensures _ refl
