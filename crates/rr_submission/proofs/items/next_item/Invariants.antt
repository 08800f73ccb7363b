use Rattle.std.proofs.Common.{◌≡◌, ◌≤◌, List}
use Rattle.rr_io.specs.Told.{Told}
use Rattle.rr_text.specs.ParagraphReaders.{Entry, HasGiven, left_of}
use Rattle.rr_submission.proofs.Passing.{IsPassing}
use Rattle.rr_submission.proofs.items.next_item.Given as goal

abbrev pub invariant-paragraphs : goal.invariant-paragraphs
invariant-paragraphs g l = record {
  passing : (start : Told) (given : List Entry) → HasGiven start (g.R.Reader.told l.initial.reader)
      l.initial.paragraphs given
      → IsPassing l.source start (g.R.Reader.told l.reader) l.paragraphs given l.initial.secrets
      l.secrets;
  nearer : left_of l.paragraphs ≤ left_of l.initial.paragraphs;
  aside : (g.R.Reader.told l.reader).aside ≡ (g.R.Reader.told l.initial.reader).aside;
}

abbrev pub decreases-paragraphs : goal.decreases-paragraphs
decreases-paragraphs g l = left_of l.paragraphs
