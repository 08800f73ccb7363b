use Rattle.rr_object.proofs.Faulted.{first_fault_is_told, objects_say_their_paragraphs}
use Rattle.rr_object.proofs.laws.the_first_fault_is_told.Goals as goal

pub returns-clause-told : goal.returns-clause-told
returns-clause-told c = first_fault_is_told

pub returns-clause-says : goal.returns-clause-says
returns-clause-says c = objects_say_their_paragraphs
