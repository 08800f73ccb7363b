use Rattle.std.proofs.Common.{refl}
use Rattle.rr_registry.proofs.key_order.GoneOver.new.Goals as goal

pub returns : goal.returns
returns c = record {
  inetnums_are = c.new.ensures _ (λ t. refl);
  blocks_are =
      c.new-2.ensures _ (λ t. refl);
}
