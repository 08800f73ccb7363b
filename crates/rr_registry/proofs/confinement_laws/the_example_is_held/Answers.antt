use Rattle.rr_registry.proofs.HoldingExample.{example_is_held, example_is_sound}
use Rattle.rr_registry.proofs.confinement_laws.the_example_is_held.Goals as goal

pub returns : goal.returns
returns c = record { sound = example_is_sound; held = example_is_held }
