use Rattle.rr_registry.proofs.Own.{own_items_are_alike}
use Rattle.rr_registry.proofs.confinement_laws.own_items_are_judged_alike.Goals as goal

pub returns : goal.returns
returns c = own_items_are_alike
