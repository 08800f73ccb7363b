use Rattle.std.proofs.Common.{rules}
use Rattle.rr_object.specs.Kinds.{occurs}
use Rattle.rr_object.specs.Readings.{is_miscounted, items_read}
use Rattle.rr_object.proofs.counts.is_miscounted.Goals as goal

pub returns-then-branch : goal.returns-then-branch
unfolding is_miscounted items_read occurs
returns-then-branch c = search rules

pub returns-else-branch : goal.returns-else-branch
unfolding is_miscounted items_read occurs
returns-else-branch c = search rules
