use Rattle.std.proofs.Common.{inr}
use Rattle.rr_commands.proofs.migrate_command.migrate_at.Goals as goal

pub returns-in-Ok : goal.returns-in-Ok
returns-in-Ok g c = inr (record {
  before = c.in-Ok.conn;
  after = c.migrate_told-conn.result.0;
  between = _;
  given = c.in-Ok.ensures;
  did = c.migrate_told-conn.ensures;
  closed = c.close.ensures;
})
