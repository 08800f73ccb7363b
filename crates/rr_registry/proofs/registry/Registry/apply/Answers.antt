use Rattle.std.proofs.Common.{arith}
use Rattle.rr_registry.proofs.Confined.{step_leaves_others}
use Rattle.rr_registry.proofs.Judged.{carried_out}
use Rattle.rr_registry.specs.Runs.{IsStep}
use Rattle.rr_registry.proofs.registry.Registry.apply.Goals as goal

pub returns-in-Submit-clause-leaves : goal.returns-in-Submit-clause-leaves
returns-in-Submit-clause-leaves g c =
    let step : IsStep c.args.self.now c.args.secrets.now c.args.item c.submit.result
    c.submit.new.self = grind (arith, carried_out) in
    step_leaves_others _ _ _ c.submit.result _ c.verdict-verdict.ensures.sound
    c.verdict-verdict.ensures.judged.formed step

pub returns-in-Delete-clause-leaves : goal.returns-in-Delete-clause-leaves
returns-in-Delete-clause-leaves g c =
    let step : IsStep c.args.self.now c.args.secrets.now c.args.item c.delete.result
    c.delete.new.self = grind (arith, carried_out) in
    step_leaves_others _ _ _ c.delete.result _ c.verdict-verdict.ensures.sound
    c.verdict-verdict.ensures.judged.formed step
