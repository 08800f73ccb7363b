use Rattle.std.proofs.Common.{inr}
use Rattle.rr_commands.proofs.query_command.query_at.Goals as goal

pub returns : goal.returns
returns g c = inr (record {
  before = c.in_ok-desk.desk;
  after = c.in_ok-desk.desk;
  between = _;
  opens = c.in_ok-desk.ensures.opens;
  did = c.answer_to-end.ensures;
  closed = rw (← c.close-conn.ensures.same) c.close.ensures;
})
