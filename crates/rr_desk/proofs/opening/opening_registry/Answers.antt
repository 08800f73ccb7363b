use Rattle.rr_desk.proofs.Sources.{opened_of_source}
use Rattle.rr_desk.proofs.opening.opening_registry.Goals as goal

pub returns-in-Ok-clause-of_source : goal.returns-in-Ok-clause-of_source
returns-in-Ok-clause-of_source c =
    opened_of_source c.args.settings.now _ c.in_ok-objects.ensures.good c.in-Ok.ensures.sound
    (record {
      objects = c.in_ok-objects.objects.items;
      are_opening = c.in_ok-objects.ensures.opening;
      taken = c.in-Ok.ensures.taken;
    })
