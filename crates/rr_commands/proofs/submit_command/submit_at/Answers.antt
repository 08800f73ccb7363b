use Rattle.std.proofs.Common.{inr}
use Rattle.rr_commands.proofs.submit_command.submit_at.Goals as goal

pub returns : goal.returns
returns g c = inr (record {
  before = c.in_ok-desk.desk;
  after = c.submit_file-end.new.desk;
  between = _;
  opens = c.in_ok-desk.ensures.opens;
  did = c.submit_file-end.ensures;
  closed = rw (← c.close-conn.ensures.same) c.close.ensures;
})
