use Rattle.std.proofs.Common.{rules, ◌∙◌}
use Rattle.std.specs.Range.{range_inclusive_end, range_inclusive_start}
use Rattle.rr_index.proofs.Kept.{part_of}
use Rattle.rr_index.proofs.object_map.ObjectMap.between.Goals as goal

pub returns : goal.returns
returns c =
    c.range.ensures.between (search rules)
    ∙ part_of c.self.inside.entries c.args.self.now (range_inclusive_start c.new.result)
    (range_inclusive_end c.new.result) c.args.first c.args.last c.new.ensures.start
    c.new.ensures.end c.self.invariant c.self.view_is
