use Rattle.std.proofs.Common.{refl}
use Rattle.rr_index.proofs.indexes.Indexes.leave_names.Goals as goal

pub returns : goal.returns
returns c = record {
  under = c.take.ensures;
  counts = c.take-2.ensures;
  spans = refl;
  origins =
      refl;
  names = refl;
}
