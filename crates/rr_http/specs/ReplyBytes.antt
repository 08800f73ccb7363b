-- What a connection that tells its bytes is answered, by the bytes that it gives: for laws in
-- `src/laws.rt`.
use Rattle.std.specs.Prelude.{◌≡◌, ℕ, ◌<◌, true, false, ◌⊎◌, List, [], ◌++◌, length}
use Rattle.std.specs.Prelude.{map, drop, Ok, Err}
use Rattle.std.specs.Prelude.{Some}
use Rattle.percent_encoding.specs.Percent.{percent_decode}
use Rattle.rr_io.specs.Told.{Told}
use Rattle.rr_io.specs.Sending.{Takes}
use Rattle.rr_text.specs.Entries.{entries}
use Rattle.rr_registry.specs.declared.outcome.Outcome.{Outcome}
use Rattle.rr_registry.specs.Runs.{Run}
use Rattle.rr_submission.specs.declared.ending.Ending.TheVariants.{Complete}
use Rattle.rr_submission.specs.declared.submission.Done.{Done}
use Rattle.rr_submission.specs.Reports.{report}
use Rattle.rr_submission.specs.SubmissionItems.{AreItems, ItemRequest, submitted_item}
use Rattle.rr_desk.specs.declared.peers.ConnFault.TheVariants.{Read, Write}
use Rattle.rr_desk.specs.Turns.{ConnEnd, Visit}
use Rattle.rr_http.specs.declared.asking.Refusal.TheVariants.{Unavailable}
use Rattle.rr_http.specs.declared.body_reading.BodyEnd.{BodyEnd}
use Rattle.rr_http.specs.declared.registrar.Registrar.{Ghosts}
use Rattle.rr_http.specs.Answering.{SubmitsBody}
use Rattle.rr_http.specs.Replies.{ok_head, refusal_reply}
use Rattle.rr_http.specs.Requests.{Asks, refused, submission, query, dump}
use Rattle.rr_http.specs.Serving.{Serves, SubmitsRead}
use Rattle.rr_http.specs.ToldBytes.{IsBodyOf}
use Rattle.rr_http.specs.Wants.{IsUndecided, IsWanted, Wants, whois, http}

-- the text is answered so far, and not all of it
abbrev pub IsCutOff : List ℕ → List ℕ → Type 0
IsCutOff text answered = (rest : List ℕ) × (text ≡ answered ++ rest) × (0 < length rest)

-- the text is answered, or not all of it where a write failed
abbrev pub IsSent : List ℕ → ConnEnd → List ℕ → Type 0
IsSent text (Ok done) answered = answered ≡ text
IsSent text (Err Read) answered = ⊥
IsSent text (Err Write) answered = IsCutOff text answered

-- the dump is answered after the head of a reply: whole, or a beginning of it, as where memory ran
-- out; or, where a write failed, a beginning of both, and not all (profile)
abbrev pub IsDumpSent : List ℕ → ConnEnd → List ℕ → Type 0
IsDumpSent text (Ok done) answered =
    (part : List ℕ) × (rest : List ℕ) × (text ≡ part ++ rest)
    × (answered ≡ ok_head ++ part)
IsDumpSent text (Err Read) answered = ⊥
IsDumpSent text (Err Write) answered = IsCutOff (ok_head ++ text) answered

-- that the request cannot be served now is answered, and the desk was not asked
abbrev pub IsUnavailableSent : {D : Type 0} → D → D → ConnEnd → List ℕ → Type 0
IsUnavailableSent before after result answered =
    IsSent (refusal_reply Unavailable) result answered × (after ≡ before)

-- not even the head of a reply is answered whole, because a write failed, and the desk was not
-- asked
pub record IsHeadCutOff {D : Type 0} (before after : D) (result : ConnEnd) (answered : List ℕ)
    : Type 0 where
  pub cut : IsCutOff ok_head answered
  pub failed : result ≡ Err Write
  pub same : after ≡ before

-- the answer of the desk to a query is answered after these bytes
pub record IsAnswerSent {D : Type 0} (registrar : Ghosts D) (head text : List ℕ) (before after : D)
    (result : ConnEnd) (answered : List ℕ) : Type 0 where
  pub answer : List ℕ
  pub answers : registrar.Answers before text answer after
  pub sent : IsSent (head ++ answer) result answered

-- the desk runs, and a body of so many bytes, that of what stands after the head, was read; the
-- head of a reply and the report on the body are answered, as far as they could be written: if not
-- even the head could be, nothing is submitted
pub record IsReportSent {D : Type 0} (registrar : Ghosts D) (given : List ℕ) (size : ℕ)
    (before after : D) (result : ConnEnd) (answered : List ℕ) : Type 0 where
  pub running : registrar.ledger.is_stopped before ≡ false
  pub body : List ℕ
  pub end : BodyEnd
  pub is_body : IsBodyOf end size given body
  pub old : Told
  pub new : Told
  pub unwritten : old.bytes ≡ Some []
  pub written : new.bytes ≡ Some answered
  pub submits : SubmitsRead registrar body size end before after old new result

-- what a request is answered, by what it asks and what stands after its head
abbrev pub RepliesTo : {D : Type 0} → Ghosts D → List ℕ → Asks → D → D → ConnEnd
    → List ℕ → Type 0
RepliesTo registrar given (refused refusal) before after result answered =
    IsSent (refusal_reply refusal) result answered × (after ≡ before)
RepliesTo registrar given (submission size) before after result answered =
    (((registrar.ledger.is_stopped before ≡ true) ⊎ (0 < size))
    × IsUnavailableSent before after result answered)
    ⊎ IsReportSent registrar given size before after result answered
RepliesTo registrar given (query escaped) before after result answered =
    ((registrar.ledger.is_stopped before ≡ true) × IsUnavailableSent before after result answered)
    ⊎ ((registrar.ledger.is_stopped before ≡ false)
    × (IsHeadCutOff before after result answered
    ⊎ IsAnswerSent registrar ok_head (percent_decode escaped) before after result answered))
RepliesTo registrar given dump before after result answered =
    ((registrar.ledger.is_stopped before ≡ true) × IsUnavailableSent before after result answered)
    ⊎ ((registrar.ledger.is_stopped before ≡ false)
    × IsDumpSent (registrar.dumped before) result answered × (after ≡ before))

-- what a connection is answered that gives these bytes in all, by what it wants
abbrev pub RepliesToWants : {D : Type 0} → Ghosts D → List ℕ → Wants → D → D → ConnEnd
    → List ℕ → Type 0
RepliesToWants registrar given (whois text) before after result answered =
    IsAnswerSent registrar [] text before after result answered
RepliesToWants registrar given (http place asks) before after result answered =
    RepliesTo registrar (drop place given) asks before after result answered

-- what a connection wants that gives these bytes in all is answered
pub record IsReplied {D : Type 0} (registrar : Ghosts D) (given : List ℕ) (before after : D)
    (result : ConnEnd) (answered : List ℕ) : Type 0 where
  pub wants : Wants
  pub is_wanted : IsWanted given wants
  pub replies : RepliesToWants registrar given wants before after result answered

-- a read failed before it was known what the connection wants, and nothing is answered
pub record IsUnanswered {D : Type 0} (given : List ℕ) (before after : D) (result : ConnEnd)
    (answered : List ℕ) : Type 0 where
  pub read : List ℕ
  pub rest : List ℕ
  pub is : given ≡ read ++ rest
  pub undecided : IsUndecided read
  pub none : answered ≡ []
  pub same : after ≡ before
  pub failed : result ≡ Err Read

-- the reply to a connection: by the bytes that it gives in all, the desk before and after, and how
-- serving it ended, the bytes that it is answered (RFC 3912, RFC 9112; profile)
abbrev pub IsReply : {D : Type 0} → Ghosts D → List ℕ → D → D → ConnEnd → List ℕ → Type 0
IsReply registrar given before after result answered =
    IsUnanswered given before after result answered
    ⊎ IsReplied registrar given before after result answered

-- each item of a body was decided, in order, and the whole report is answered after the head of a
-- reply: a line for each item, and the last line (profile)
pub record IsWholeReport {D : Type 0} (registrar : Ghosts D) (body : List ℕ) (before after : D)
    (answered : List ℕ) : Type 0 where
  pub items : List ItemRequest
  pub outcomes : List Outcome
  pub are_items : AreItems (registrar.settings before).source [] (entries body) items
  pub runs : Run (registrar.ledger.registry before) (map submitted_item items) outcomes
      (registrar.ledger.registry after)
  pub is : answered ≡ ok_head ++ report Complete items outcomes

-- a submission that ended well misses no byte of its body, and is answered with the whole report on
-- it. Its writer tells its bytes, of which there were none, and took the head of a reply first
abbrev pub AnswersWithItsReport : {D : Type 0} → Ghosts D → Type 0
AnswersWithItsReport {D} registrar =
    (before after : D) (old between new : Told) (body answered : List ℕ) (missing : ℕ)
    (done : Done)
    → old.bytes ≡ Some [] → new.bytes ≡ Some answered → Takes old between ok_head
    → SubmitsBody registrar.ledger (registrar.settings before).source body missing before after
    between new (Ok done)
    → (missing ≡ 0) × IsWholeReport registrar body before after answered

-- serving a connection that tells its bytes, to which nothing was written, answers it with its
-- reply
abbrev pub AnswersWithItsReply : {D : Type 0} → Ghosts D → Type 0
AnswersWithItsReply {D} registrar =
    (before after : D) (visit : Visit) (given answered : List ℕ)
    → visit.reader_before.bytes ≡ Some given → visit.writer_before.bytes ≡ Some []
    → visit.writer_after.bytes ≡ Some answered → Serves registrar before after visit
    → IsReply registrar given before after visit.ended answered
