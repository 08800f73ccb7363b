use Rattle.rr_object.proofs.Parsed.{kept_paragraph}
use Rattle.rr_object.proofs.laws.an_object_keeps_its_paragraph.Goals as goal

pub returns : goal.returns
returns c = kept_paragraph
