-- What a submission does: to the ledger and its registry, and to its reader and its writer
-- (profile).
use Rattle.std.specs.Prelude.{◌≡◌, ◌≢◌, ℕ, List, [], length, map, Result, Ok, Err}
use Rattle.std.specs.Prelude.{◌⊎◌}
use Rattle.rr_io.specs.Told.{Told}
use Rattle.rr_io.specs.Receiving.{Reads}
use Rattle.rr_io.specs.Sending.{Takes, TakesPrefix, TakesSome}
use Rattle.rr_io.specs.declared.receiving.ReadEnd.{ReadEnd}
use Rattle.rr_io.specs.declared.receiving.ReadEnd.TheVariants.{Whole}
use Rattle.rr_text.specs.Entries.{entries}
use Rattle.rr_text.specs.WholePart.{whole_entries}
use Rattle.rr_auth.specs.Registries.{Reg}
use Rattle.rr_registry.specs.declared.outcome.Outcome.{Outcome}
use Rattle.rr_registry.specs.Runs.{Run}
use Rattle.rr_submission.specs.declared.ending.Ending.TheVariants.{Complete, ReadFault, Memory}
use Rattle.rr_submission.specs.declared.submission.Done.{Done}
use Rattle.rr_submission.specs.declared.submission.SubmissionFault.{SubmissionFault}
use Rattle.rr_submission.specs.declared.submission.SubmissionFault.TheVariants as fault
use Rattle.rr_submission.specs.declared.ledger.Ledger.{Ghosts}
use Rattle.rr_submission.specs.SubmissionItems.{AreItems, ItemRequest, submitted_item}
use Rattle.rr_submission.specs.SubmissionLaws.{ConfinesItems}
use Rattle.rr_submission.specs.Refusals.{refusals}
use Rattle.rr_submission.specs.Endings.{last_line}
use Rattle.rr_submission.specs.Reports.{lines_from, report}
use Rattle.rr_submission.specs.Handled.{HandlesStopped, HandlesUnwritten}

-- a reader and a writer, and a registry, before and after
pub record Sides : Type 0 where
  pub reader_before : Told
  pub reader_after : Told
  pub writer_before : Told
  pub writer_after : Told
  pub before : Reg
  pub after : Reg

-- a reader, a writer and a registry, each before and after, as the record of them
abbrev pub sides : Told → Told → Told → Told → Reg → Reg → Sides
sides reader_old reader_new writer_old writer_new before after = record {
  reader_before = reader_old;
  reader_after = reader_new;
  writer_before = writer_old;
  writer_after = writer_new;
  before = before;
  after = after;
}

-- the text was read to its end, each item was decided, and the whole report was written. The result
-- counts the items and those that were refused. The run of the items is confined (`ConfinesItems`)
pub record IsDone (source : List ℕ) (sides : Sides) (done : Done) : Type 0 where
  pub text : List ℕ
  pub items : List ItemRequest
  pub outcomes : List Outcome
  pub reads : Reads sides.reader_before sides.reader_after text Whole
  pub are_items : AreItems source [] (entries text) items
  pub runs : Run sides.before (map submitted_item items) outcomes sides.after
  pub confined : ConfinesItems sides.before items outcomes sides.after
  pub writes : Takes sides.writer_before sides.writer_after (report Complete items outcomes)
  pub counted : done.items ≡ length items
  pub refused : done.refused ≡ refusals outcomes

-- a read failed, or the text had no end within 16,777,216 reads. The items up to its last blank
-- line were decided and their lines written, and the last line was written or cut short. The count
-- is of these items, and their run is confined
pub record IsReadFault (source : List ℕ) (sides : Sides) (count : ℕ) : Type 0 where
  pub text : List ℕ
  pub end : ReadEnd
  pub items : List ItemRequest
  pub outcomes : List Outcome
  pub between : Told
  pub reads : Reads sides.reader_before sides.reader_after text end
  pub unended : end ≢ Whole
  pub are_items : AreItems source [] (whole_entries text) items
  pub runs : Run sides.before (map submitted_item items) outcomes sides.after
  pub confined : ConfinesItems sides.before items outcomes sides.after
  pub writes : Takes sides.writer_before between (lines_from 1 items outcomes)
  pub ends : TakesSome between sides.writer_after (last_line ReadFault (length items))
  pub counted : count ≡ length items

-- a write failed in the line of an item: the items up to that one were decided and counted, and no
-- others
abbrev pub IsLineFault : List ℕ → Sides → ℕ → Type 0
IsLineFault source sides count =
    HandlesUnwritten source sides.reader_before sides.reader_after sides.before sides.after
    sides.writer_before sides.writer_after count

-- the text was read to its end, and a write failed in the last line: all items were decided and
-- their lines written whole. The count is of all items, and their run is confined
pub record IsLastLineFault (source : List ℕ) (sides : Sides) (count : ℕ) : Type 0 where
  pub text : List ℕ
  pub items : List ItemRequest
  pub outcomes : List Outcome
  pub between : Told
  pub reads : Reads sides.reader_before sides.reader_after text Whole
  pub are_items : AreItems source [] (entries text) items
  pub runs : Run sides.before (map submitted_item items) outcomes sides.after
  pub confined : ConfinesItems sides.before items outcomes sides.after
  pub writes : Takes sides.writer_before between (lines_from 1 items outcomes)
  pub cut : TakesPrefix between sides.writer_after (last_line Complete (length items))
  pub counted : count ≡ length items

-- a write failed, in the line of an item or in the last line
abbrev pub IsWriteFault : List ℕ → Sides → ℕ → Type 0
IsWriteFault source sides count =
    IsLineFault source sides count ⊎ IsLastLineFault source sides count

-- the ledger stopped at an item: the items before it were decided and counted, and none after it
-- was decided
abbrev pub IsLedgerStopped : {L : Type 0} → Ghosts L → L → L → List ℕ → Sides → ℕ → Type 0
IsLedgerStopped g old new source sides count = HandlesStopped g source sides.reader_before
    sides.reader_after old new sides.writer_before sides.writer_after count

-- memory ran out before the first item: nothing was read or decided, and the last line was written
-- or cut short
pub record IsUnread (sides : Sides) : Type 0 where
  pub unread : sides.reader_after ≡ sides.reader_before
  pub same : sides.after ≡ sides.before
  pub writes : TakesSome sides.writer_before sides.writer_after (last_line Memory 0)

-- what a failed submission did, by its fault; a ledger that runs never answers Stopped
abbrev pub FailsBy : {L : Type 0} → Ghosts L → L → L → List ℕ → Sides → SubmissionFault
    → Type 0
FailsBy g old new source sides (fault.ReadFault items) = IsReadFault source sides items
FailsBy g old new source sides (fault.WriteFault items) = IsWriteFault source sides items
FailsBy g old new source sides (fault.LedgerStopped items) = IsLedgerStopped g old new source sides
    items
FailsBy g old new source sides fault.Memory = IsUnread sides
FailsBy g old new source sides fault.Stopped = ⊥

-- what a submission to a ledger that runs does, read in this source, by its answer
abbrev pub Submits : {L : Type 0} → Ghosts L → L → L → List ℕ → Sides
    → Result Done SubmissionFault → Type 0
Submits g old new source sides (Ok done) = IsDone source sides done
Submits g old new source sides (Err cause) = FailsBy g old new source sides cause

-- what a submission of what this reader gives does, with this writer and this ledger
abbrev pub SubmitsText : {L : Type 0} → Ghosts L → L → L → List ℕ → Told → Told → Told → Told
    → Result Done SubmissionFault → Type 0
SubmitsText g old new source reader_old reader_new writer_old writer_new result =
    Submits g old new source (sides reader_old reader_new writer_old writer_new (g.registry old)
    (g.registry new)) result

-- a submission is refused because its ledger or its desk is stopped, which stays as it is, like the
-- reader and the writer
abbrev pub RefusesSubmission : {L R W : Type 0} → L → L → R → R → W → W
    → Result Done SubmissionFault → Type 0
RefusesSubmission old new reader_old reader_new writer_old writer_new result =
    (result ≡ Err fault.Stopped) × (new ≡ old) × (reader_new ≡ reader_old)
    × (writer_new ≡ writer_old)

-- a fact that holds unless the fault is LedgerStopped, that is, unless the ledger stopped at an
-- item
abbrev pub UnlessLedgerStopped : Result Done SubmissionFault → Type 0 → Type 0
UnlessLedgerStopped (Ok done) fact = fact
UnlessLedgerStopped (Err (fault.ReadFault items)) fact = fact
UnlessLedgerStopped (Err (fault.WriteFault items)) fact = fact
UnlessLedgerStopped (Err (fault.LedgerStopped items)) fact = Unit {0}
UnlessLedgerStopped (Err fault.Memory) fact = fact
UnlessLedgerStopped (Err fault.Stopped) fact = fact
