use Rattle.std.proofs.Common.{rules, ap, ◌∙◌}
use Rattle.std.specs.FinMap.{get, remove}
use Rattle.rr_index.proofs.Kept.{looked_up, registry_removed, rising}
use Rattle.rr_index.proofs.object_map.ObjectMap.remove.Goals as goal

pub invariant_of-self : goal.invariant_of-self
invariant_of-self c = rising c.remove.new.self c.remove.ensures.ordered

pub returns-clause-rest : goal.returns-clause-rest
returns-clause-rest c =
    registry_removed c.self.inside.entries c.remove.new.self c.args.key.now c.self.invariant
    (rising c.remove.new.self c.remove.ensures.ordered) c.remove.ensures.updates
    ∙ ap (λ r. remove r c.args.key.now) c.self.view_is

pub returns-clause-old : goal.returns-clause-old
returns-clause-old c = (search rules) ∙ c.remove.ensures.value ∙ looked_up c.self.inside.entries
    c.args.key.now c.self.invariant ∙ ap (λ r. get r c.args.key.now) c.self.view_is
