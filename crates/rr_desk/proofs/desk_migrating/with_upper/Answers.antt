use Rattle.rr_store.specs.declared.store_fault.MigrateFault.TheVariants as migrate
use Rattle.rr_desk.proofs.Migrated.{upper_fault, told_so}
use Rattle.rr_desk.proofs.desk_migrating.with_upper.Goals as goal

pub returns-in-Ok-clause-ok : goal.returns-in-Ok-clause-ok
returns-in-Ok-clause-ok c = record {
  upper = c.in_ok-upper.upper;
  read = c.in_ok-upper.ensures.read;
  taken = rw c.in_ok-objects.ensures at c.in-Ok.ensures.taken;
  sound = c.in-Ok.ensures.sound;
}

pub returns-in-Err-clause-fault : goal.returns-in-Err-clause-fault
returns-in-Err-clause-fault c =
    rw c.told_as.ensures
    (upper_fault c.args.settings.now c.args.objects.items c.in_ok-upper.upper c.in-Err.fault
    c.in_ok-upper.ensures.read
    (rw c.in_ok-objects.ensures at (told_so c.in_ok-objects.objects.items c.in-Err.fault
    migrate.NoRoot c.in-Err.ensures.taken)))
