use Rattle.std.proofs.Common.{inl, inr, refl}
use Rattle.rr_commands.proofs.init_command.create_to.Goals as goal

pub returns-in-Ok : goal.returns-in-Ok
returns-in-Ok g c = inr (record {
  desk = c.in-Ok.desk;
  runs = c.in-Ok.ensures.runs;
  opened = c.in-Ok.ensures.opening;
  makes = c.in-Ok.ensures.makes;
  given_back = c.close.ensures.same;
  tells = c.tell-told.ensures;
})

pub returns-in-Err : goal.returns-in-Err
returns-in-Err g c = inl (record {
  fault = c.in-Err.fault;
  told = refl;
  fails = c.in-Err.ensures.fails;
  silent = refl;
})
