use Rattle.rr_object.proofs.KeysByBytes.{bytes_tell, ordered_by_bytes}
use Rattle.rr_object.proofs.KeyBounds.{has_parts}
use Rattle.rr_object.proofs.laws.keys_compare_as_their_bytes.Goals as goal

pub returns-clause-order : goal.returns-clause-order
returns-clause-order c = λ a b fa fb. ordered_by_bytes a b (has_parts a fa) (has_parts b fb)

pub returns-clause-told : goal.returns-clause-told
returns-clause-told c = bytes_tell
