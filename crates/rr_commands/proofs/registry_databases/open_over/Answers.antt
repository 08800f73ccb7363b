use Rattle.rr_commands.proofs.registry_databases.open_over.Goals as goal

pub returns-in-Err-clause-fails : goal.returns-in-Err-clause-fails
returns-in-Err-clause-fails g c = record {
  left = c.in-Err.conn;
  fault = c.in-Err.fault;
  fails = c.in-Err.ensures.fails;
  looks = c.trouble_with-trouble.ensures.looks;
  cause = c.trouble_with-trouble.ensures.cause;
}
