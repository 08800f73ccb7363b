use Rattle.std.proofs.Common.{subst}
use Rattle.std.proofs.lemmas.Result.{IfErr-weaker, err_from_is_err_and}
use Rattle.rr_desk.specs.Migrating.{AreRegistry}
use Rattle.rr_desk.proofs.Migrated.{always_ok, unowned_growth, unsound_growth}
use Rattle.rr_desk.proofs.desk_migrating.grow.Goals as goal

pub returns-clause-ok : goal.returns-clause-ok
returns-clause-ok c =
    always_ok _ _ (subst AreRegistry c.deref.ensures.value c.in_ok-check_registry.ensures.ok)

pub returns-clause-fault : goal.returns-clause-fault
returns-clause-fault c =
    let sound = subst AreRegistry c.deref.ensures.value c.in_ok-check_registry.ensures.ok in
    IfErr-weaker c.with_upper.result _ _ (λ fault h. unowned_growth c.args.settings.now
    c.args.objects.items fault sound h) c.with_upper.ensures.fault

pub returns-in_err-check_registry-clause-fault : goal.returns-in_err-check_registry-clause-fault
returns-in_err-check_registry-clause-fault c =
    let exit = err_from_is_err_and c.from_residual.result c.from_residual.ensures.1 in
    rw (exit.1, exit.2) (unsound_growth c.args.settings.now c.args.objects.items _
    (rw c.deref.ensures.value at c.in_err-check_registry.ensures.fault))
