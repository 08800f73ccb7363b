use Rattle.rr_commands.proofs.migrate_command.migrate_told.Goals as goal

pub returns : goal.returns
returns g c = record {
  first = c.migrate_to-conn.result.1;
  left = c.migrate_to-conn.result.0;
  did = c.migrate_to-conn.ensures;
  looks = c.told_of-told.ensures.looks;
  diagnosis = c.told_of-told.ensures.diagnosis;
}
