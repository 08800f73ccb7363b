use Rattle.rr_registry.proofs.Foreign.{foreign_items_leave}
use Rattle.rr_registry.proofs.confinement_laws.foreign_items_leave_what_is_held.Goals as goal

pub returns : goal.returns
returns c = λ r z i sound formed h held foreign. foreign_items_leave h r z i sound held formed
    foreign
