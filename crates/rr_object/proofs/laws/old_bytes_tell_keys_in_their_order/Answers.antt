use Rattle.rr_object.proofs.KeysByBytes.{old_bytes_keep_order, old_bytes_tell}
use Rattle.rr_object.proofs.laws.old_bytes_tell_keys_in_their_order.Goals as goal

pub returns-clause-told : goal.returns-clause-told
returns-clause-told c = old_bytes_tell

pub returns-clause-order : goal.returns-clause-order
returns-clause-order c = old_bytes_keep_order
