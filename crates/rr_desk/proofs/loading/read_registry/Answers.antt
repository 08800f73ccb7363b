use Rattle.std.proofs.lemmas.Result.{err_from_is_err_and}
use Rattle.rr_desk.proofs.DumpSources.{dumps_of_source}
use Rattle.rr_desk.proofs.Loads.{taken_loads, untaken}
use Rattle.rr_desk.proofs.loading.read_registry.Goals as goal

pub returns-in_err-objects-clause-why : goal.returns-in_err-objects-clause-why
returns-in_err-objects-clause-why g c =
    let exit = err_from_is_err_and c.from_residual.result c.from_residual.ensures.1 in
    rw (exit.1, exit.2) c.in_err-objects.ensures

pub returns-in_err-objects-clause-not_of_store : goal.returns-in_err-objects-clause-not_of_store
returns-in_err-objects-clause-not_of_store g c =
    let exit = err_from_is_err_and c.from_residual.result c.from_residual.ensures.1 in
    rw (exit.1, exit.2) tt

pub returns-in_err-registry-clause-why : goal.returns-in_err-registry-clause-why
returns-in_err-registry-clause-why g c =
    let exit = err_from_is_err_and c.from_residual-in_err-registry.result
    c.from_residual-in_err-registry.ensures.1 in
    rw (exit.1, exit.2) (untaken _ _ _ _ _ c.in_ok-objects.ensures c.in_err-registry.ensures.taken)

pub returns-in_err-registry-clause-not_of_store : goal.returns-in_err-registry-clause-not_of_store
returns-in_err-registry-clause-not_of_store g c =
    let exit = err_from_is_err_and c.from_residual-in_err-registry.result
    c.from_residual-in_err-registry.ensures.1 in
    rw (exit.1, exit.2) tt

pub returns-clause-loaded : goal.returns-clause-loaded
returns-clause-loaded g c = taken_loads _ _ _ _ _ c.in_ok-objects.ensures
    c.in_ok-registry.ensures.taken

pub returns-clause-of_source : goal.returns-clause-of_source
returns-clause-of_source g c =
    let loaded = taken_loads _ _ _ _ _ c.in_ok-objects.ensures
    c.in_ok-registry.ensures.taken in
    dumps_of_source _ _ _ loaded.dump c.in_ok-registry.ensures.sound
