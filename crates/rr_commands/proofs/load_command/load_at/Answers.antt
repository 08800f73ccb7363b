use Rattle.std.proofs.Common.{inr}
use Rattle.rr_commands.proofs.load_command.load_at.Goals as goal

pub returns-in-Ok : goal.returns-in-Ok
returns-in-Ok g c = inr (record {
  before = c.in-Ok.conn;
  after = c.load_file-conn.result.0;
  between = _;
  given = c.in-Ok.ensures;
  did = c.load_file-conn.ensures;
  closed = c.close.ensures;
})
