use Rattle.rr_object.proofs.Parsed.{kept_its_key}
use Rattle.rr_object.proofs.laws.an_object_has_its_paragraphs_key.Goals as goal

pub returns : goal.returns
returns c = kept_its_key
