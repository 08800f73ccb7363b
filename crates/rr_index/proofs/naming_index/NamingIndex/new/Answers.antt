use Rattle.rr_index.proofs.Namings.{namings_none}
use Rattle.rr_index.proofs.naming_index.NamingIndex.new.Goals as goal

pub returns : goal.returns
returns c = namings_none c.new.result c.new.ensures.empty
