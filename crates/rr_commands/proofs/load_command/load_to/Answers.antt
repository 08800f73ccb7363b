use Rattle.std.proofs.Common.{Err, ap, inl, inr, refl}
use Rattle.rr_commands.proofs.load_command.load_to.Goals as goal

pub returns-in-Ok : goal.returns-in-Ok
returns-in-Ok g c = inr (record {
  desk = c.in-Ok.desk;
  runs = c.in-Ok.ensures.runs;
  loaded = c.in-Ok.ensures.loaded;
  makes = c.in-Ok.ensures.makes;
  given_back = c.close.ensures.same;
  tells = rw (← c.registry.ensures) c.tell_loaded-told.ensures;
})

pub returns-in-Err : goal.returns-in-Err
returns-in-Err g c = inl (record {
  fault = c.in-Err.fault;
  told = ap Err c.loading_trouble.ensures;
  fails = c.in-Err.ensures.fails;
  silent = refl;
})
