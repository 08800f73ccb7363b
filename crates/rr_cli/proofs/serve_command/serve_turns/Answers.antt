use Rattle.std.proofs.Common.{inl, inr, refl}
use Rattle.rr_cli.proofs.serve_command.serve_turns.Goals as goal

pub returns-in-Ok : goal.returns-in-Ok
returns-in-Ok g c = record {
  served = c.serve_all-served.result.served;
  failed = c.serve_all-served.result.failed;
  turns = c.serve_all-served.ensures.turns;
  settings = c.serve_all-served.ensures.stays.settings;
  lasts = c.serve_all-served.ensures.stays.lasts;
  rows = c.serve_all-served.ensures.stays.rows;
  ends = inl (c.in-Ok.ensures.writes, c.served_end.ensures);
}

pub returns-in-Err : goal.returns-in-Err
returns-in-Err g c = record {
  served = c.serve_all-served.result.served;
  failed = c.serve_all-served.result.failed;
  turns = c.serve_all-served.ensures.turns;
  settings = c.serve_all-served.ensures.stays.settings;
  lasts = c.serve_all-served.ensures.stays.lasts;
  rows = c.serve_all-served.ensures.stays.rows;
  ends = inr (c.in-Err.ensures.writes, refl);
}
