use Rattle.std.proofs.Common.{rules, ap, ◌∙◌}
use Rattle.std.specs.FinMap.{get}
use Rattle.rr_index.proofs.Kept.{looked_up}
use Rattle.rr_index.proofs.object_map.ObjectMap.get.Goals as goal

pub returns : goal.returns
returns c = (search rules) ∙ c.get.ensures.value ∙ looked_up c.self.inside.entries c.args.key.now
    c.self.invariant ∙ ap (λ r. get r c.args.key.now) c.self.view_is
