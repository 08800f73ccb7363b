use Rattle.std.proofs.Common.{List}
use Rattle.rr_text.specs.ParagraphReaders.{Entry, HasGiven, left_of}
use Rattle.rr_submission.proofs.Progress.{ComesTo, GoesOn}
use Rattle.rr_submission.proofs.handling.handle_items.Given as goal

abbrev pub invariant-items : goal.invariant-items
invariant-items g l =
    ((given : List Entry) × HasGiven (g.R.Reader.told l.initial.reader) (g.R.Reader.told l.reader)
    l.paragraphs given
    × ComesTo l.source given (g.L.Ledger.registry l.initial.ledger) (g.L.Ledger.registry l.ledger)
    (g.W.Writer.told l.initial.writer) (g.W.Writer.told l.writer) l.course.secrets l.course.done)
    × GoesOn g.L.Ledger l.initial.ledger l.ledger

abbrev pub decreases-items : goal.decreases-items
decreases-items g l = left_of l.paragraphs
