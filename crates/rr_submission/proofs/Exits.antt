-- How a submission ends.
use Rattle.std.proofs.Common.{ℕ, List}
use Rattle.rr_io.specs.Told.{Told}
use Rattle.rr_io.specs.Sending.{Takes}
use Rattle.rr_io.specs.declared.receiving.ReadEnd.TheVariants.{Whole}
use Rattle.rr_io.proofs.Transfers.{Takes-then}
use Rattle.rr_submission.specs.declared.ending.Ending.TheVariants.{Complete}
use Rattle.rr_submission.specs.declared.submission.Done.{Done}
use Rattle.rr_submission.specs.Endings.{last_line}
use Rattle.rr_submission.specs.Reports.{report}
use Rattle.rr_submission.specs.HandledParts.{HandlesRead}
use Rattle.rr_submission.specs.Submissions.{Sides, IsDone}

-- the report was written whole
pub IsDone-whole : (source : List ℕ) (sides : Sides) (middle : Told) (done : Done) →
    HandlesRead source sides.reader_before sides.reader_after Whole sides.before sides.after
    sides.writer_before middle done →
    Takes middle sides.writer_after (last_line Complete done.items) → IsDone source sides done
unfolding report
IsDone-whole source sides middle done handled line = record {
  text = handled.ended.text;
  items = handled.handles.items;
  outcomes = handled.handles.outcomes;
  reads = handled.ended.reads;
  are_items = rw handled.ended.spelled handled.handles.are_items;
  runs = handled.handles.runs;
  confined = handled.handles.confined;
  writes = Takes-then _ _ handled.handles.writes (rw handled.handles.counted at line);
  counted = handled.handles.counted;
  refused = handled.handles.refused;
}
