use Rattle.std.proofs.Common.{◌≡◌, List, Ok, length}
use Rattle.std.specs.Prelude.{MatchResult}
use Rattle.rr_text.specs.ParagraphReaders.{Entry, HasGiven, left_of}
use Rattle.rr_desk.specs.Dumps.{objects_from}
use Rattle.rr_desk.specs.DumpParts.{IsFaultSoFar}
use Rattle.rr_desk.proofs.dump_reading.read_entries.Given as goal

abbrev pub invariant-entries : goal.invariant-entries
invariant-entries g l =
    (given : List Entry) × HasGiven (g.R.Reader.told l.initial.reader) (g.R.Reader.told l.reader)
    l.paragraphs given
    × (l.count ≡ length given)
    × MatchResult l.read (λ objects. objects_from l.source 1 given ≡ Ok objects.items)
    (IsFaultSoFar l.source given)

abbrev pub decreases-entries : goal.decreases-entries
decreases-entries g l = left_of l.paragraphs
