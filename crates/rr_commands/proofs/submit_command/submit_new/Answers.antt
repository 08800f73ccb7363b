use Rattle.std.proofs.Common.{inr}
use Rattle.rr_commands.proofs.submit_command.submit_new.Goals as goal

pub returns : goal.returns
returns g c = inr (record {
  before = c.in_ok-desk.desk;
  after = c.submit_to.new.desk;
  settings = c.in_ok-desk.ensures.settings;
  opened = c.in_ok-desk.ensures.opened;
  submitted = c.submit_to.ensures;
})
