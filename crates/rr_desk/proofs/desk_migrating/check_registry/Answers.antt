use Rattle.std.proofs.Common.{subst}
use Rattle.rr_store.specs.declared.store_fault.MigrateFault.TheVariants as migrate
use Rattle.rr_desk.specs.Migrating.{AreRegistry}
use Rattle.rr_desk.proofs.Migrated.{told_so}
use Rattle.rr_desk.proofs.desk_migrating.check_registry.Goals as goal

pub returns-in-Ok-clause-ok : goal.returns-in-Ok-clause-ok
returns-in-Ok-clause-ok c =
    subst AreRegistry c.in_ok-copies.ensures
    (record { registry = _; taken = c.in-Ok.ensures.taken; sound = c.in-Ok.ensures.sound })

pub returns-in-Err-clause-fault : goal.returns-in-Err-clause-fault
returns-in-Err-clause-fault c = rw (c.told_as.ensures, ← c.in_ok-copies.ensures)
    (told_so c.in_ok-copies.copies.items c.in-Err.fault migrate.BadRow c.in-Err.ensures.taken)
