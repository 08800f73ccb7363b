use Rattle.rr_object.proofs.KeysByBytes.{bytes_tell_parts, ordered_by_bytes}
use Rattle.rr_object.proofs.laws.any_two_keys_compare_as_their_bytes.Goals as goal

pub returns-clause-order : goal.returns-clause-order
returns-clause-order c = ordered_by_bytes c.args.key.now c.args.other.now
    c.a_key_has_its_parts.ensures c.a_key_has_its_parts-2.ensures

pub returns-clause-told : goal.returns-clause-told
returns-clause-told c = bytes_tell_parts c.args.key.now c.args.other.now
    c.a_key_has_its_parts.ensures c.a_key_has_its_parts-2.ensures
