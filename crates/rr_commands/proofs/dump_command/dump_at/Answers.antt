use Rattle.std.proofs.Common.{inr, refl}
use Rattle.rr_commands.proofs.dump_command.dump_at.Goals as goal

pub returns : goal.returns
returns g c = inr (record {
  before = c.in_ok-desk.desk;
  after = c.in_ok-desk.desk;
  between = _;
  opens = c.in_ok-desk.ensures.opens;
  did = (refl, rw (← c.show.ensures.told, c.show-2.ensures.told) c.dump_to-end.ensures);
  closed = rw (← c.close-conn.ensures.same) c.close.ensures;
})
