use Rattle.rr_object.proofs.Maintained.{has_maintainer}
use Rattle.rr_object.proofs.laws.an_object_has_a_maintainer.Goals as goal

pub returns : goal.returns
returns c = has_maintainer
