use Rattle.rr_index.proofs.Referrers.{referrers_none}
use Rattle.rr_index.proofs.indexes.Indexes.new.Goals as goal

pub returns : goal.returns
returns c = record {
  keys = record {
    spans = c.new.ensures;
    origins = c.new-2.ensures;
    names = c.new-3.ensures;
    referrers = referrers_none c.new-4.result.keys c.new-4.ensures;
  };
  namings = c.new-5.ensures;
}
