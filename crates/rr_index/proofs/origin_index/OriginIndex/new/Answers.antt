use Rattle.rr_index.proofs.Originated.{origins_none}
use Rattle.rr_index.proofs.origin_index.OriginIndex.new.Goals as goal

pub returns : goal.returns
returns c = origins_none c.new.result c.new.ensures.empty
