use Rattle.rr_index.proofs.MntnerNames.{names_none}
use Rattle.rr_index.proofs.name_index.NameIndex.new.Goals as goal

pub returns : goal.returns
returns c = names_none c.new.result c.new.ensures.empty
