-- What serving a connection does, for `serve_one`: what is read of it, what it is answered, and
-- what that leaves of the desk.
use Rattle.std.specs.Prelude.{◌≡◌, ℕ, ◌-◌, ◌<◌, Bool, true, false, nat_lt, IsTrue, ◌⊎◌}
use Rattle.std.specs.Prelude.{List, [], ◌++◌}
use Rattle.std.specs.Prelude.{length, drop, Result, Ok, Err}
use Rattle.percent_encoding.specs.Percent.{percent_decode}
use Rattle.rr_io.specs.Told.{Told}
use Rattle.rr_io.specs.Receiving.{BreaksOff}
use Rattle.rr_io.specs.Sending.{Takes, TakesPrefix}
use Rattle.rr_submission.specs.declared.submission.Done.{Done}
use Rattle.rr_submission.specs.declared.submission.SubmissionFault.{SubmissionFault}
use Rattle.rr_desk.specs.declared.peers.ConnFault.TheVariants as conn_fault
use Rattle.rr_desk.specs.Turns.{ConnEnd, Visit}
use Rattle.rr_http.specs.declared.body_reading.BodyEnd.{BodyEnd}
use Rattle.rr_http.specs.declared.body_reading.BodyEnd.TheVariants.{Whole, Short, Broken}
use Rattle.rr_http.specs.declared.registrar.Registrar.{Ghosts}
use Rattle.rr_http.specs.Answering.{AnswersDump, AnswersQuery, IsUnavailable}
use Rattle.rr_http.specs.Answering.{RepliesWithAnswer, SubmitsBody, WritesReply}
use Rattle.rr_http.specs.Bodies.{ReadsBody}
use Rattle.rr_http.specs.Registrars.{LeavesSubmitted}
use Rattle.rr_http.specs.Replies.{ok_head, refusal_reply}
use Rattle.rr_http.specs.Requests.{Asks, refused, submission, query, dump}
use Rattle.rr_http.specs.Wants.{IsUndecided, IsWanted, ReadsHead, Wants, whois, http}

-- how serving ends, by how the reading of the body did and whether a write failed: a failed read
-- is its fault, otherwise a failed write; an end of input before the body's is no failed read
-- (profile)
abbrev pub end_by : BodyEnd → Bool → ConnEnd
end_by Broken write_failed = Err conn_fault.Read
end_by Whole true = Err conn_fault.Write
end_by Short true = Err conn_fault.Write
end_by Whole false = Ok tt
end_by Short false = Ok tt

-- the head of the reply was written, and the body submitted: its report follows. Of the desk that
-- leaves what a submission leaves (`LeavesSubmitted`), and serving ends by how the body was read
-- and whether a write failed (`end_by`)
pub record IsSubmitted {D : Type 0} (registrar : Ghosts D) (body : List ℕ) (size : ℕ)
    (end : BodyEnd) (before after : D) (old new : Told) (result : ConnEnd) : Type 0 where
  pub between : Told
  pub done : Result Done SubmissionFault
  pub head : Takes old between ok_head
  pub submits : SubmitsBody registrar.ledger (registrar.settings before).source body
      (size - length body) before after between new done
  pub leaves : LeavesSubmitted registrar.ledger registrar.settings before after done
  pub ends : result ≡ end_by end (nat_lt old.faults new.faults)

-- the head of the reply could not be written whole, and nothing is submitted: the desk is as it
-- was, and serving ends by how the body was read and by a failed write
pub record IsUnsubmitted {D : Type 0} (end : BodyEnd) (before after : D) (old new : Told)
    (result : ConnEnd) : Type 0 where
  pub cut : TakesPrefix old new ok_head
  pub failed : result ≡ end_by end true
  pub same : after ≡ before

-- a body that was read is submitted, unless the head of the reply could not be written whole
abbrev pub SubmitsRead : {D : Type 0} → Ghosts D → List ℕ → ℕ → BodyEnd → D → D
    → Told → Told
    → ConnEnd → Type 0
SubmitsRead registrar body size end before after old new result =
    IsUnsubmitted end before after old new result
    ⊎ IsSubmitted registrar body size end before after old new result

-- a connection while it was served, by what its reader and its writer told before and after
abbrev pub visit_of : Told → Told → Told → Told → ConnEnd → Visit
visit_of reader_old reader_new writer_old writer_new ended = record {
  reader_before = reader_old;
  reader_after = reader_new;
  writer_before = writer_old;
  writer_after = writer_new;
  ended = ended;
}

-- nothing was read of a connection, and the desk is as it was
pub record IsUntouched {D : Type 0} (before after : D) (visit : Visit) : Type 0 where
  pub unread : visit.reader_after ≡ visit.reader_before
  pub same : after ≡ before

-- the whole reply to a connection is this text (`WritesReply`)
abbrev pub Replies : List ℕ → Visit → Type 0
Replies text visit = WritesReply text visit.writer_before visit.writer_after visit.ended

-- the reply to a connection is that it cannot be served now, and the desk was not asked
abbrev pub IsVisitUnavailable : {D : Type 0} → D → D → Visit → Type 0
IsVisitUnavailable before after visit =
    IsUnavailable before after visit.writer_before visit.writer_after visit.ended

-- the desk runs, the body was read, and it is submitted unless the head of the reply could not be
-- written whole
pub record TakesSubmission {D : Type 0} (registrar : Ghosts D) (buffered : List ℕ) (size : ℕ)
    (before after : D) (visit : Visit) : Type 0 where
  pub running : registrar.ledger.is_stopped before ≡ false
  pub body : List ℕ
  pub end : BodyEnd
  pub reads : ReadsBody visit.reader_before visit.reader_after buffered size body end
  pub submits : SubmitsRead registrar body size end before after visit.writer_before
      visit.writer_after visit.ended

-- the desk is stopped: it takes no submission, and none of the body is read
pub record MeetsStoppedDesk {D : Type 0} (registrar : Ghosts D) (before after : D) (visit : Visit)
    : Type 0 where
  pub stopped : registrar.ledger.is_stopped before ≡ true
  pub unread : visit.reader_after ≡ visit.reader_before
  pub unavailable : IsVisitUnavailable before after visit

-- the desk runs, memory ran out for a body, which is not empty, and none of it is read
pub record MeetsNoMemory {D : Type 0} (registrar : Ghosts D) (size : ℕ) (before after : D)
    (visit : Visit) : Type 0 where
  pub running : registrar.ledger.is_stopped before ≡ false
  pub some : 0 < size
  pub unread : visit.reader_after ≡ visit.reader_before
  pub unavailable : IsVisitUnavailable before after visit

-- a submission that is not taken in
abbrev pub IsTurnedAway : {D : Type 0} → Ghosts D → ℕ → D → D → Visit → Type 0
IsTurnedAway registrar size before after visit =
    MeetsStoppedDesk registrar before after visit
    ⊎ MeetsNoMemory registrar size before after visit

-- a submission is turned away or taken in
abbrev pub ServesBody : {D : Type 0} → Ghosts D → List ℕ → ℕ → D → D → Visit
    → Type 0
ServesBody registrar buffered size before after visit =
    IsTurnedAway registrar size before after visit
    ⊎ TakesSubmission registrar buffered size before after visit

-- what is done of what a request asks; these bytes came with its head
abbrev pub ServesAsks : {D : Type 0} → Ghosts D → List ℕ → Asks → D → D → Visit
    → Type 0
ServesAsks registrar buffered (refused refusal) before after visit =
    IsUntouched before after visit × Replies (refusal_reply refusal) visit
ServesAsks registrar buffered (submission size) before after visit =
    ServesBody registrar buffered size before after visit
ServesAsks registrar buffered (query escaped) before after visit =
    (visit.reader_after ≡ visit.reader_before)
    × AnswersQuery registrar.Answers (registrar.ledger.is_stopped before) (percent_decode escaped)
    before after visit.writer_before visit.writer_after visit.ended
ServesAsks registrar buffered dump before after visit =
    IsUntouched before after visit
    × AnswersDump (registrar.dumped before) (registrar.ledger.is_stopped before)
    visit.writer_before visit.writer_after visit.ended

-- what is done of what a connection wants at whose head these bytes were read
abbrev pub ServesWants : {D : Type 0} → Ghosts D → List ℕ → Wants → D → D → Visit
    → Type 0
ServesWants registrar head (whois text) before after visit =
    (visit.reader_after ≡ visit.reader_before)
    × RepliesWithAnswer registrar.Answers [] text before after
    visit.writer_before visit.writer_after visit.ended
ServesWants registrar head (http place asks) before after visit =
    ServesAsks registrar (drop place head) asks before after visit

-- a connection while it was served, from when its reader told this
abbrev pub visit_from : Told → Visit → Visit
visit_from between visit =
    visit_of between visit.reader_after visit.writer_before visit.writer_after visit.ended

-- the head of the connection was read, it wants this, whatever may follow its head, and that was
-- done
pub record IsServed {D : Type 0} (registrar : Ghosts D) (before after : D) (visit : Visit)
    : Type 0 where
  pub head : List ℕ
  pub at_end : Bool
  pub between : Told
  pub wants : Wants
  pub reads : ReadsHead visit.reader_before between head at_end
  pub is_wanted : (more : List ℕ) → (IsTrue at_end → more ≡ [])
      → IsWanted (head ++ more) wants
  pub serves : ServesWants registrar head wants before after (visit_from between visit)

-- a read failed before it was known what the connection wants: nothing is written, the desk is as
-- it was, and the failed read is the fault
pub record IsBroken {D : Type 0} (before after : D) (visit : Visit) : Type 0 where
  pub bytes : List ℕ
  pub breaks : BreaksOff visit.reader_before visit.reader_after bytes
  pub undecided : IsUndecided bytes
  pub unwritten : visit.writer_after ≡ visit.writer_before
  pub same : after ≡ before
  pub failed : visit.ended ≡ Err conn_fault.Read

-- what serving a connection does: it broke off before it was known what it wants, or that was done
abbrev pub Serves : {D : Type 0} → Ghosts D → D → D → Visit → Type 0
Serves registrar before after visit =
    IsBroken before after visit ⊎ IsServed registrar before after visit
