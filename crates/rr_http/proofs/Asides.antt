-- What stands beside a reader or a writer stays, whatever is read or written: so each side of a
-- connection stays while the other is used.
use Rattle.std.proofs.Common.{◌≡◌, ℕ, inl, inr, Bool, List, [], Ok, Err, refl, ap, sym, ◌∙◌, subst}
use Rattle.std.specs.Prelude.{Result, false}
use Rattle.rr_io.specs.declared.receiving.ReadEnd.{ReadEnd}
use Rattle.rr_io.specs.declared.receiving.ReadEnd.TheVariants as read_end
use Rattle.rr_io.specs.declared.streams.Reader as readers
use Rattle.rr_io.specs.declared.streams.Writer as writers
use Rattle.rr_io.specs.Told.{Beside, Told, beside, set_beside}
use Rattle.rr_io.specs.Receiving.{BreaksOff, Reads}
use Rattle.rr_io.specs.Sending.{TakesPrefix, TakesSome, Writes}
use Rattle.rr_submission.specs.declared.ledger.Ledger as ledger
use Rattle.rr_submission.specs.declared.submission.Done.{Done}
use Rattle.rr_submission.specs.declared.submission.SubmissionFault.{SubmissionFault}
use Rattle.rr_submission.specs.declared.submission.SubmissionFault.TheVariants as fault
use Rattle.rr_submission.specs.Submissions.{Sides, Submits}
use Rattle.rr_desk.specs.declared.desk_dumping.DeskDumpFault.{DeskDumpFault}
use Rattle.rr_desk.specs.declared.desk_dumping.DeskDumpFault.TheVariants as dump_fault
use Rattle.rr_desk.specs.declared.peers.ConnFault.TheVariants as conn_fault
use Rattle.rr_desk.specs.Dumping.{Dumps}
use Rattle.rr_desk.specs.Turns.{ConnEnd, conn_visit}
use Rattle.rr_http.specs.declared.body_reading.BodyEnd.{BodyEnd}
use Rattle.rr_http.specs.declared.body_reading.BodyEnd.TheVariants.{Whole, Short, Broken}
use Rattle.rr_http.specs.declared.registrar.Registrar.{Ghosts}
use Rattle.rr_http.specs.Answering.{AnswersDump, AnswersQuery, RepliesWithAnswer, WritesReply}
use Rattle.rr_http.specs.Answering.{body_sides}
use Rattle.rr_http.specs.Bodies.{ReadsBody}
use Rattle.rr_http.specs.Serving.{IsBroken, TakesSubmission, IsUntouched, Replies, Serves}
use Rattle.rr_http.specs.Serving.{SubmitsRead}
use Rattle.rr_http.specs.Serving.{visit_of}
use Rattle.rr_http.specs.ServingParts.{ServesHead}
use Rattle.rr_http.specs.Wants.{BreaksHead, ReadsHead}
use Rattle.rr_http.proofs.ServingLemmas.{head_served}

-- what was read or written, by each of its relations
cut_aside : (old new : Told) (bytes : List ℕ) → TakesPrefix old new bytes → new.aside ≡ old.aside
cut_aside old new bytes cut = cut.fails.aside ∙ cut.takes.aside

some_aside : (old new : Told) (bytes : List ℕ) → TakesSome old new bytes → new.aside ≡ old.aside
some_aside old new bytes (inl takes) = takes.aside
some_aside old new bytes (inr cut) = cut_aside old new bytes cut

writes_aside : {T E : Type 0} (old new : Told) (bytes : List ℕ) (result : Result T E) →
    Writes old new bytes result → new.aside ≡ old.aside
writes_aside old new bytes (Ok done) takes = takes.aside
writes_aside old new bytes (Err fault) cut = cut_aside old new bytes cut

breaks_aside : (old new : Told) (bytes : List ℕ) → BreaksOff old new bytes → new.aside ≡ old.aside
breaks_aside old new bytes breaks = breaks.fails.aside ∙ breaks.gives.aside

reads_aside : (old new : Told) (bytes : List ℕ) (end : ReadEnd) → Reads old new bytes end →
    new.aside ≡ old.aside
reads_aside old new bytes read_end.Whole reads = reads.0.aside
reads_aside old new bytes read_end.Broken reads = breaks_aside old new bytes reads.0
reads_aside old new bytes read_end.Endless reads = reads.0.aside

body_aside : (old new : Told) (buffered : List ℕ) (size : ℕ) (body : List ℕ) (end : BodyEnd) →
    ReadsBody old new buffered size body end → new.aside ≡ old.aside
body_aside old new buffered size body Whole reads = reads.1.aside
body_aside old new buffered size body Short reads = reads.1.aside
body_aside old new buffered size body Broken reads = breaks_aside old new reads.0 reads.1

reply_aside : (text : List ℕ) (old new : Told) (result : ConnEnd) →
    WritesReply text old new result → new.aside ≡ old.aside
reply_aside text old new result replies = writes_aside old new text result replies.writes

dumps_aside : (old new : Told) (text : List ℕ) (result : Result (Unit {0}) DeskDumpFault) →
    Dumps text old new result → new.aside ≡ old.aside
dumps_aside old new text (Ok done) dumps = dumps.aside
dumps_aside old new text (Err dump_fault.Write) dumps = cut_aside old new text dumps
dumps_aside old new text (Err dump_fault.Memory) dumps = dumps.takes.aside
dumps_aside old new text (Err dump_fault.Stopped) dumps = absurd dumps

dump_aside : (text : List ℕ) (stopped : Bool) (old new : Told) (result : ConnEnd) →
    AnswersDump text stopped old new result → new.aside ≡ old.aside
dump_aside text stopped old new result (inl turned) = reply_aside _ old new result turned.1
dump_aside text stopped old new result (inr (running, inl cut)) = cut_aside old new _ cut.cut
dump_aside text stopped old new result (inr (running, inr dumped)) =
    dumps_aside dumped.between new text dumped.dump_result dumped.dumps ∙ dumped.head.aside

query_aside : {D : Type 0} (Answers : D → List ℕ → List ℕ → D → Type 0) (stopped : Bool)
    (query : List ℕ) (before after : D) (old new : Told) (result : ConnEnd) →
    AnswersQuery Answers stopped query before after old new result → new.aside ≡ old.aside
query_aside Answers stopped query before after old new result (inl turned) =
    reply_aside _ old new result turned.1.replies
query_aside Answers stopped query before after old new result (inr (running, inl cut)) =
    cut_aside old new _ cut.0.cut
query_aside Answers stopped query before after old new result (inr (running, inr answered)) =
    reply_aside _ old new result answered.replies

-- a submission, by what it did
pub reader_aside : {D : Type 0} (g : ledger.Ghosts D) (before after : D) (source : List ℕ)
    (sides : Sides) (result : Result Done SubmissionFault) → Submits g before after source sides
    result →
    sides.reader_after.aside ≡ sides.reader_before.aside
reader_aside g before after source sides (Ok done) did = did.reads.0.aside
reader_aside g before after source sides (Err (fault.ReadFault items)) did =
    reads_aside sides.reader_before sides.reader_after did.text did.end did.reads
reader_aside g before after source sides (Err (fault.WriteFault items)) (inl did) =
    did.reads.gives.aside
reader_aside g before after source sides (Err (fault.WriteFault items)) (inr did) =
    did.reads.0.aside
reader_aside g before after source sides (Err (fault.LedgerStopped items)) did =
    did.reads.gives.aside
reader_aside g before after source sides (Err fault.Memory) did =
    ap (λ (told : Told). told.aside) did.unread
reader_aside g before after source sides (Err fault.Stopped) did = absurd did

writer_aside : {D : Type 0} (g : ledger.Ghosts D) (before after : D) (source : List ℕ)
    (sides : Sides) (result : Result Done SubmissionFault) → Submits g before after source sides
    result →
    sides.writer_after.aside ≡ sides.writer_before.aside
writer_aside g before after source sides (Ok done) did = did.writes.aside
writer_aside g before after source sides (Err (fault.ReadFault items)) did =
    some_aside did.between sides.writer_after _ did.ends ∙ did.writes.aside
writer_aside g before after source sides (Err (fault.WriteFault items)) (inl did) =
    cut_aside did.handles.between sides.writer_after _ did.handles.cut ∙ did.handles.writes.aside
writer_aside g before after source sides (Err (fault.WriteFault items)) (inr did) =
    cut_aside did.between sides.writer_after _ did.cut ∙ did.writes.aside
writer_aside g before after source sides (Err (fault.LedgerStopped items)) did =
    some_aside did.handles.between sides.writer_after _ did.handles.ends ∙ did.handles.writes.aside
writer_aside g before after source sides (Err fault.Memory) did =
    some_aside sides.writer_before sides.writer_after _ did.writes
writer_aside g before after source sides (Err fault.Stopped) did = absurd did

submits_aside : {D : Type 0} (registrar : Ghosts D) (body : List ℕ) (size : ℕ) (end : BodyEnd)
    (before after : D) (old new : Told) (result : ConnEnd) →
    SubmitsRead registrar body size end before after old new result → new.aside ≡ old.aside
submits_aside registrar body size end before after old new result (inl unsubmitted) =
    cut_aside old new _ unsubmitted.cut
submits_aside registrar body size end before after old new result (inr submitted) =
    let did = submitted.submits in
    writer_aside registrar.ledger before after (registrar.settings before).source
    (body_sides registrar.ledger body did.rest did.faults did.reads before after submitted.between
    new) submitted.done did.submits ∙ submitted.head.aside

abbrev told_by : Beside → Beside → Told
told_by this other = record {
  bytes = this.bytes;
  faults = this.faults;
  reads = this.reads;
  aside = other;
}

-- a side as it stood between, with what stood beside it there
stood : (here there between : Told) → between.aside ≡ here.aside → beside there ≡ beside between →
    set_beside here.aside there ≡ between
stood here there between aside same =
    ap (told_by (beside there)) (sym aside) ∙ ap (λ this. told_by this between.aside) same

module _ {C : Type 0} (reader : readers.Ghosts C) (writer : writers.Ghosts C)
    (reads_leave : (c : C) → (reader.told c).aside ≡ beside (writer.told c))
    (writes_leave : (c : C) → (writer.told c).aside ≡ beside (reader.told c)) where
  -- the reader stays while the connection is written, and the writer while it is read
  unread : (old new : C) → (writer.told new).aside ≡ (writer.told old).aside →
      beside (reader.told new) ≡ beside (reader.told old)
  unread old new same = sym (writes_leave new) ∙ (same ∙ writes_leave old)

  unwritten : (old new : C) → (reader.told new).aside ≡ (reader.told old).aside →
      beside (writer.told old) ≡ beside (writer.told new)
  unwritten old new same = sym (reads_leave old) ∙ (sym same ∙ reads_leave new)

  -- what was only written: the reader stays, and the writer is told as it was
  wrote : (P : Told → Type 0) (old new : C) → (writer.told new).aside ≡ (writer.told old).aside →
      P (writer.told old) →
      (set_beside (reader.told old).aside (reader.told new) ≡ reader.told old)
      × P (set_beside (writer.told new).aside (writer.told old))
  wrote P old new same does = (
    stood (reader.told old) (reader.told new) (reader.told old) refl (unread old new same),
    subst P (sym (stood (writer.told new) (writer.told old) (writer.told old) (sym same) refl))
        does,
  )

  -- a visit that is a whole reply, for which the desk was not asked
  pub replied : {D : Type 0} (desk : D) (text : List ℕ) (old new : C) (result : ConnEnd) →
      WritesReply text (writer.told old) (writer.told new) result →
      IsUntouched desk desk (conn_visit reader writer old new result)
      × Replies text (conn_visit reader writer old new result)
  replied desk text old new result replies =
      let done = wrote (λ told. WritesReply text told (writer.told new) result) old new
      (reply_aside text _ _ result replies) replies in
      (record { unread = done.0; same = refl }, done.1)

  -- one that is an answer by whois
  pub answered : {D : Type 0} (Answers : D → List ℕ → List ℕ → D → Type 0) (query : List ℕ)
      (before after : D) (old new : C) (result : ConnEnd) →
      RepliesWithAnswer Answers [] query before after (writer.told old) (writer.told new) result →
      (set_beside (reader.told old).aside (reader.told new) ≡ reader.told old)
      × RepliesWithAnswer Answers [] query before after
      (set_beside (writer.told new).aside (writer.told old)) (writer.told new) result
  answered Answers query before after old new result given =
      wrote (λ told. RepliesWithAnswer Answers [] query before after told (writer.told new) result)
      old new (reply_aside _ _ _ result given.replies) given

  -- one that is an answer by HTTP
  pub queried : {D : Type 0} (Answers : D → List ℕ → List ℕ → D → Type 0) (stopped : Bool)
      (query : List ℕ) (before after : D) (old new : C) (result : ConnEnd) →
      AnswersQuery Answers stopped query before after (writer.told old) (writer.told new) result →
      (set_beside (reader.told old).aside (reader.told new) ≡ reader.told old)
      × AnswersQuery Answers stopped query before after
      (set_beside (writer.told new).aside (writer.told old)) (writer.told new) result
  queried Answers stopped query before after old new result given =
      wrote (λ told. AnswersQuery Answers stopped query before after told (writer.told new) result)
      old new (query_aside Answers stopped query before after _ _ result given) given

  -- one that is a dump
  pub dumped : {D : Type 0} (desk : D) (text : List ℕ) (stopped : Bool) (old new : C)
      (result : ConnEnd) →
      AnswersDump text stopped (writer.told old) (writer.told new) result →
      IsUntouched desk desk (conn_visit reader writer old new result)
      × AnswersDump text stopped (set_beside (writer.told new).aside (writer.told old))
      (writer.told new) result
  dumped desk text stopped old new result given =
      let done = wrote (λ told. AnswersDump text stopped told (writer.told new) result) old new
      (dump_aside text stopped _ _ result given) given in
      (record { unread = done.0; same = refl }, done.1)

  -- one in which a body was read and submitted
  pub taken_in : {D : Type 0} (registrar : Ghosts D) (buffered body : List ℕ) (size : ℕ)
      (end : BodyEnd) (before after : D) (old middle new : C) (result : ConnEnd) →
      registrar.ledger.is_stopped before ≡ false →
      ReadsBody (reader.told old) (reader.told middle) buffered size body end →
      SubmitsRead registrar body size end before after (writer.told middle) (writer.told new)
      result →
      TakesSubmission registrar buffered size before after (conn_visit reader writer old new result)
  taken_in registrar buffered body size end before after old middle new result running reads
      submits =
      let read = body_aside _ _ buffered size body end reads in
      let written = submits_aside registrar body size end before after _ _ result submits in
      record {
        running = running;
        body = body;
        end = end;
        reads = subst (λ told. ReadsBody (reader.told old) told buffered size body end)
            (sym (stood (reader.told old) (reader.told new) (reader.told middle) read
            (unread middle new written))) reads;
        submits = subst (λ told. SubmitsRead registrar body size end before after told
            (writer.told new) result)
            (sym (stood (writer.told new) (writer.told old) (writer.told middle) (sym written)
            (unwritten old middle read))) submits;
      }

  -- one that broke off before anything was written
  pub broken : {D : Type 0} (desk : D) (old new : C) →
      BreaksHead (reader.told old) (reader.told new) →
      IsBroken desk desk (conn_visit reader writer old new (Err conn_fault.Read))
  broken desk old new breaks =
      let read = breaks_aside _ _ breaks.0 breaks.1 in
      record {
        bytes = breaks.0;
        breaks = subst (λ told. BreaksOff (reader.told old) told breaks.0)
            (sym (stood (reader.told old) (reader.told new) (reader.told new) read refl)) breaks.1;
        undecided = breaks.2;
        unwritten = sym (stood (writer.told new) (writer.told old) (writer.told new) refl
            (unwritten old new read));
        same = refl;
        failed = refl;
      }

  -- one whose head was read before it was served
  pub head_read : {D : Type 0} (registrar : Ghosts D) (head : List ℕ) (at_end : Bool)
      (before after : D) (old middle new : C) (result : ConnEnd) →
      ReadsHead (reader.told old) (reader.told middle) head at_end →
      ServesHead registrar head before after (conn_visit reader writer middle new result) →
      Serves registrar before after (conn_visit reader writer old new result)
  head_read registrar head at_end before after old middle new result reads serves =
      let aside = (writer.told new).aside in
      let read = reads.gives.aside in
      head_served registrar before after (reader.told old) (reader.told middle)
      (set_beside (reader.told old).aside (reader.told new))
      (set_beside aside (writer.told old)) (set_beside aside (writer.told middle))
      (writer.told new) result head at_end reads
      (ap (λ this. told_by this aside) (sym (unwritten old middle read)))
      (subst (λ other. ServesHead registrar head before after
      (visit_of (reader.told middle) (set_beside other (reader.told new))
      (set_beside aside (writer.told middle)) (writer.told new) result)) read serves)
