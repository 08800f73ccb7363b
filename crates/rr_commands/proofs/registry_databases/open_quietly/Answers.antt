use Rattle.std.proofs.Common.{inr}
use Rattle.rr_commands.proofs.registry_databases.open_quietly.Goals as goal

pub returns-in-Ok-clause-opens : goal.returns-in-Ok-clause-opens
returns-in-Ok-clause-opens g c = record {
  conn = c.in_ok-conn.conn;
  given = c.in_ok-conn.ensures.gives;
  opens = c.in-Ok.ensures.opens;
  runs = c.in-Ok.ensures.runs;
}

pub returns-in-Err-clause-fails : goal.returns-in-Err-clause-fails
returns-in-Err-clause-fails g c = inr (record {
  conn = c.in_ok-conn.conn;
  after = c.in-Err.conn;
  between = _;
  given = c.in_ok-conn.ensures.gives;
  fails = c.in-Err.ensures.fails;
  closed = c.close.ensures;
})
