use Rattle.rr_registry.proofs.Held.{nothing_held}
use Rattle.rr_registry.proofs.gathered.Gathered.new.Goals as goal

pub returns-clause-consistent : goal.returns-clause-consistent
returns-clause-consistent c =
    nothing_held
    (record {
      objects = c.new.result;
      spans = record {
        inetnums = c.new-2.result;
        blocks =
            c.new-3.result;
      };
    }) c.new.ensures.empty c.new-2.ensures c.new-3.ensures
