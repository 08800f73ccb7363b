use Rattle.rr_object.proofs.Parsed.{of_any_source}
use Rattle.rr_object.proofs.laws.an_object_is_of_its_paragraph.Goals as goal

pub returns : goal.returns
returns c = of_any_source
