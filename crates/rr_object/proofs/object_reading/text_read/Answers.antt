use Rattle.std.proofs.Common.{arith, rules}
use Rattle.rr_object.specs.Items.{items}
use Rattle.rr_object.specs.Readings.{items_of, items_read}
use Rattle.rr_object.proofs.Listed.{items_among_list}
use Rattle.rr_object.proofs.object_reading.text_read.Goals as goal

pub returns-then-not-is_read : goal.returns-then-not-is_read
unfolding items_read items_of items
returns-then-not-is_read c = search rules

pub returns : goal.returns
unfolding items_read items_of items
returns c = grind (arith, items_among_list)
