use Rattle.rr_object.proofs.KeyBounds.{key_formed, object_key_formed, text_key_formed}
use Rattle.rr_object.proofs.laws.keys_are_read_well_formed.Goals as goal

pub returns-clause-text : goal.returns-clause-text
returns-clause-text c = text_key_formed

pub returns-clause-paragraph : goal.returns-clause-paragraph
returns-clause-paragraph c = key_formed

pub returns-clause-object : goal.returns-clause-object
returns-clause-object c = object_key_formed
