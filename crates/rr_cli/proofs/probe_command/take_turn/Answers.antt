use Rattle.rr_cli.proofs.probe_command.take_turn.Goals as goal

pub returns : goal.returns
returns g c = record {
  tally_after = _;
  served = c.serve_all-turns.result.served;
  turns = c.serve_all-turns.ensures.turns;
  settings = c.serve_all-turns.ensures.stays.settings;
  lasts = c.serve_all-turns.ensures.stays.lasts;
  rows = c.serve_all-turns.ensures.stays.rows;
}
