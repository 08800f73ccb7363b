use Rattle.std.proofs.Common.{inr}
use Rattle.rr_commands.proofs.init_command.init_at.Goals as goal

pub returns-in-Ok : goal.returns-in-Ok
returns-in-Ok g c = inr (record {
  before = c.in-Ok.conn;
  after = c.create_to-conn.result.0;
  between = _;
  given = c.in-Ok.ensures;
  did = c.create_to-conn.ensures;
  closed = c.close.ensures;
})
