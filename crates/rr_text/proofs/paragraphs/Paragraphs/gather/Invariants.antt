use Rattle.std.proofs.Common.{◌-◌}
use Rattle.rr_text.proofs.ReaderLemmas.{IsGathering}
use Rattle.rr_text.specs.ParagraphReaders.{held, reads_of}
use Rattle.rr_text.proofs.paragraphs.Paragraphs.gather.Given as goal

abbrev pub invariant-reads : goal.invariant-reads
invariant-reads g l =
    IsGathering (g.R.Reader.told l.initial.reader) (g.R.Reader.told l.reader) (held l.initial.self)
    (reads_of l.initial.self) l.self

abbrev pub decreases-reads : goal.decreases-reads
decreases-reads g l = 16777216 - reads_of l.self
