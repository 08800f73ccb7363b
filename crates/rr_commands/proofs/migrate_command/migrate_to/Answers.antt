use Rattle.std.proofs.Common.{inl, inr, refl}
use Rattle.rr_commands.proofs.migrate_command.migrate_to.Goals as goal

pub returns-in-Ok : goal.returns-in-Ok
returns-in-Ok g c = inr (record {
  desk = c.in-Ok.desk;
  runs = c.in-Ok.ensures.runs;
  migrates = c.in-Ok.ensures.migrates;
  given_back = c.close.ensures.same;
  tells = c.tell-told.ensures;
})

pub returns-in-Err : goal.returns-in-Err
returns-in-Err g c = inl (record {
  fault = c.in-Err.fault;
  told = refl;
  fails = c.in-Err.ensures.fails;
  silent = refl;
})
