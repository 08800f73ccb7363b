-- What private functions that handle the items of a text promise each other. No public clause cites
-- these.
use Rattle.std.specs.Prelude.{◌≡◌, ℕ, ◌+◌, ◌<◌, ◌^◌, false, List, [], length, map, Result, Ok, Err}
use Rattle.std.specs.Prelude.{if◌then◌else◌}
use Rattle.rr_io.specs.Told.{Told}
use Rattle.rr_io.specs.Sending.{Takes, TakesPrefix, TakesSome}
use Rattle.rr_io.specs.declared.receiving.ReadEnd.{ReadEnd}
use Rattle.rr_text.specs.ParagraphReaders.{HasEnded}
use Rattle.rr_text.specs.Fields.{Field}
use Rattle.rr_text.specs.declared.text_fault.TextFault.{TextFault}
use Rattle.rr_auth.specs.Registries.{Reg, Sound}
use Rattle.rr_registry.specs.declared.outcome.Outcome.{Outcome}
use Rattle.rr_registry.specs.Runs.{Decides, Run}
use Rattle.rr_submission.specs.declared.ledger.Ledger.{Ghosts}
use Rattle.rr_submission.specs.declared.handling_fault.HandlingFault.{HandlingFault}
use Rattle.rr_submission.specs.declared.handling_fault.HandlingFault.TheVariants.{Memory}
use Rattle.rr_submission.specs.declared.handling_fault.HandlingFault.TheVariants.{Unwritten}
use Rattle.rr_submission.specs.declared.handling_fault.HandlingFault.TheVariants.{LedgerStopped}
use Rattle.rr_submission.specs.declared.handling.Course.{Course}
use Rattle.rr_submission.specs.declared.submission.Done.{Done}
use Rattle.rr_submission.specs.SubmissionItems.{AreItems, ItemRequest, submitted_item}
use Rattle.rr_submission.specs.SubmissionLaws.{ConfinesItems}
use Rattle.rr_submission.specs.Refusals.{is_refusal, refusals}
use Rattle.rr_submission.specs.Reports.{item_line, lines_from, stop_lines}
use Rattle.rr_submission.specs.Requests.{Asked}
use Rattle.rr_submission.specs.Handled.{StopsAt, HandlesStopped, HandlesUnwritten}

-- a ledger that runs, whose registry is sound
pub record Begins {L : Type 0} (g : Ghosts L) (ledger : L) : Type 0 where
  pub running : g.is_stopped ledger ≡ false
  pub sound : Sound (g.registry ledger)

-- one item more can be counted, refused or not
pub record CanCountItem (done : Done) : Type 0 where
  pub items : done.items + 1 < 2 ^ 64
  pub refused : done.refused + 1 < 2 ^ 64

-- each item was decided, and its line was written; the run of the items is confined, and the counts
-- are of them and of those that were refused
pub record HandlesAll (source : List ℕ) (entries : List (Result (List Field) TextFault))
    (old new : Reg) (writer_old writer_new : Told) (done : Done) : Type 0 where
  pub items : List ItemRequest
  pub outcomes : List Outcome
  pub are_items : AreItems source [] entries items
  pub runs : Run old (map submitted_item items) outcomes new
  pub confined : ConfinesItems old items outcomes new
  pub writes : Takes writer_old writer_new (lines_from 1 items outcomes)
  pub counted : done.items ≡ length items
  pub refused : done.refused ≡ refusals outcomes

-- the text was read to its end, or to a failed read or the limit of reads, and these of its entries
-- count
pub record HandlesRead (source : List ℕ) (start now : Told) (end : ReadEnd) (old new : Reg)
    (writer_old writer_new : Told) (done : Done) : Type 0 where
  pub given : List (Result (List Field) TextFault)
  pub ended : HasEnded start now end given
  pub handles : HandlesAll source given old new writer_old writer_new done

-- memory ran out before the first item: nothing was read, decided or written
pub record HandlesNone (reader_old reader_new : Told) (old new : Reg) (writer_old writer_new : Told)
    : Type 0 where
  pub unread : reader_new ≡ reader_old
  pub same : new ≡ old
  pub unwritten : writer_new ≡ writer_old

-- all of the items were handled, with what is counted; or none of them. Or those up to the one
-- whose line could not be written were, with their number; or those before the one at which the
-- ledger stopped
abbrev pub HandlesItems : {L : Type 0} → Ghosts L → L → L → List ℕ → Told → Told → Told → Told
    → Result (Done × ReadEnd) HandlingFault → Type 0
HandlesItems g old new source reader_old reader_new writer_old writer_new (Ok handled) =
    HandlesRead source reader_old reader_new handled.1 (g.registry old) (g.registry new)
    writer_old writer_new handled.0
HandlesItems g old new source reader_old reader_new writer_old writer_new (Err Memory) =
    HandlesNone reader_old reader_new (g.registry old) (g.registry new) writer_old writer_new
HandlesItems g old new source reader_old reader_new writer_old writer_new
    (Err (Unwritten count)) =
    HandlesUnwritten source reader_old reader_new (g.registry old) (g.registry new)
    writer_old writer_new count
HandlesItems g old new source reader_old reader_new writer_old writer_new
    (Err (LedgerStopped count)) =
    HandlesStopped g source reader_old reader_new old new writer_old writer_new count

-- a fact that holds unless the fault is LedgerStopped, that is, unless the ledger stopped at an
-- item
abbrev pub UnlessStopped : {T : Type 0} → Result T HandlingFault → Type 0 → Type 0
UnlessStopped (Ok done) fact = fact
UnlessStopped (Err Memory) fact = fact
UnlessStopped (Err (Unwritten count)) fact = fact
UnlessStopped (Err (LedgerStopped count)) fact = Unit {0}

-- what lasts of a ledger lasts, and what was so of it between items is so. It still runs `Where` it
-- did not stop at an item
pub record LedgerRunsOn {L : Type 0} (g : Ghosts L) (old new : L) (Where : Type 0 → Type 0)
    : Type 0 where
  pub running : Where (g.is_stopped new ≡ false)
  pub lasts : g.Lasts old new
  pub kept : g.Kept old → g.Kept new

-- an item was decided and counted, and its line was written
pub record IsCounted (request : Asked) (before after : Course) (old new : Reg)
    (writer_old writer_new : Told) : Type 0 where
  pub outcome : Outcome
  pub decides : Decides old before.secrets request.action outcome new
  pub items : after.done.items ≡ before.done.items + 1
  pub refused : after.done.refused
      ≡ before.done.refused + (if is_refusal outcome then 1 else 0)
  pub writes : Takes writer_old writer_new (item_line after.done.items request.key outcome)

-- an item was decided, and its line could not be written
pub record IsUntold (request : Asked) (before : Course) (old new : Reg)
    (writer_old writer_new : Told) (count : ℕ) : Type 0 where
  pub outcome : Outcome
  pub decides : Decides old before.secrets request.action outcome new
  pub items : count ≡ before.done.items + 1
  pub writes : TakesPrefix writer_old writer_new (item_line count request.key outcome)

-- the ledger stopped at an item, which is not counted
pub record HasStopped {L : Type 0} (g : Ghosts L) (request : Asked) (before : Course) (old new : L)
    (writer_old writer_new : Told) (count : ℕ) : Type 0 where
  pub stops : StopsAt g old before.secrets request.action new
  pub items : count ≡ before.done.items
  pub writes : TakesSome writer_old writer_new (stop_lines count request.key)

-- an item was decided, and its line was written or not, or the ledger stopped; that memory ran out
-- is no fault of one item
abbrev pub HandlesOne : {L : Type 0} → Ghosts L → Asked → Course → Course → L → L → Told
    → Told → Result (Unit {0}) HandlingFault → Type 0
HandlesOne g request before after old new writer_old writer_new (Ok done) =
    IsCounted request before after (g.registry old) (g.registry new) writer_old writer_new
HandlesOne g request before after old new writer_old writer_new (Err Memory) = ⊥
HandlesOne g request before after old new writer_old writer_new (Err (Unwritten count)) =
    IsUntold request before (g.registry old) (g.registry new) writer_old writer_new count
HandlesOne g request before after old new writer_old writer_new (Err (LedgerStopped count)) =
    HasStopped g request before old new writer_old writer_new count
