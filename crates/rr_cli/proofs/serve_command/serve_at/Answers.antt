use Rattle.std.proofs.Common.{inr}
use Rattle.rr_cli.proofs.serve_command.serve_at.Goals as goal

pub returns : goal.returns
returns g c = inr (record {
  before = c.in_ok-desk.desk;
  after = c.serve_desk-end.new.desk;
  between = _;
  opens = c.in_ok-desk.ensures.opens;
  did = c.serve_desk-end.ensures;
  closed = rw c.close-conn.ensures.same at c.close.ensures;
})
