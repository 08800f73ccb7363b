-- What a connection is answered, and what of it is written: for `serve_one`.
use Rattle.std.specs.Prelude.{◌≡◌, ◌≢◌, ℕ, Bool, true, false, ◌⊎◌, List, [], ◌++◌}
use Rattle.std.specs.Prelude.{Result, Ok, Err, Some}
use Rattle.std.proofs.Common.{inl, inr}
use Rattle.rr_io.specs.Told.{Told, alone}
use Rattle.rr_io.specs.Sending.{Takes, TakesPrefix, Writes}
use Rattle.rr_text.specs.WholePart.{whole_part}
use Rattle.rr_submission.specs.declared.ledger.Ledger as ledger
use Rattle.rr_submission.specs.declared.submission.Done.{Done}
use Rattle.rr_submission.specs.declared.submission.SubmissionFault.{SubmissionFault}
use Rattle.rr_submission.specs.declared.submission.SubmissionFault.TheVariants as fault
use Rattle.rr_submission.specs.Submissions.{Sides, Submits, sides}
use Rattle.rr_desk.specs.declared.desk_dumping.DeskDumpFault.{DeskDumpFault}
use Rattle.rr_desk.specs.declared.desk_dumping.DeskDumpFault.TheVariants as dump_fault
use Rattle.rr_desk.specs.declared.peers.ConnFault.TheVariants as conn_fault
use Rattle.rr_desk.specs.Dumping.{Dumps}
use Rattle.rr_desk.specs.Turns.{ConnEnd}
use Rattle.rr_http.specs.declared.asking.Refusal.TheVariants.{Unavailable}
use Rattle.rr_http.specs.Replies.{ok_head, refusal_reply}

-- this text is the whole reply; the only fault is that a write failed, and then the beginning of it
-- was taken, and not all
pub record WritesReply (text : List ℕ) (old new : Told) (result : ConnEnd) : Type 0 where
  pub writes : Writes old new text result
  pub cause : result ≢ Err conn_fault.Read

-- the reply is that the request cannot be served now, and the desk was not asked
pub record IsUnavailable {D : Type 0} (before after : D) (old new : Told) (result : ConnEnd)
    : Type 0 where
  pub replies : WritesReply (refusal_reply Unavailable) old new result
  pub same : after ≡ before

-- the head of a reply could not be written whole, and a failed write is the fault
pub record IsHeadCut (old new : Told) (result : ConnEnd) : Type 0 where
  pub cut : TakesPrefix old new ok_head
  pub failed : result ≡ Err conn_fault.Write

-- the reply is this head, and then the text in which the desk answers
pub record RepliesWithAnswer {D : Type 0} (Answers : D → List ℕ → List ℕ → D → Type 0)
    (head query : List ℕ) (before after : D) (old new : Told) (result : ConnEnd) : Type 0 where
  pub text : List ℕ
  pub answers : Answers before query text after
  pub replies : WritesReply (head ++ text) old new result

-- a desk that runs is asked a query by HTTP: the head of the reply cannot be written and the desk
-- is not asked, or its answer follows the head
abbrev pub AnswersRunning : {D : Type 0} → (D → List ℕ → List ℕ → D → Type 0)
    → List ℕ → D → D
    → Told → Told → ConnEnd → Type 0
AnswersRunning Answers query before after old new result =
    (IsHeadCut old new result × (after ≡ before))
    ⊎ RepliesWithAnswer Answers ok_head query before after old new result

-- the reply to a query by HTTP: where the desk is stopped, that the query is not served now;
-- otherwise what a desk that runs answers
abbrev pub AnswersQuery : {D : Type 0} → (D → List ℕ → List ℕ → D → Type 0) → Bool
    → List ℕ → D → D
    → Told → Told → ConnEnd → Type 0
AnswersQuery Answers stopped query before after old new result =
    ((stopped ≡ true) × IsUnavailable before after old new result)
    ⊎ ((stopped ≡ false) × AnswersRunning Answers query before after old new result)

-- how serving a connection ends, by how its dump did: where memory ran out the reply ends early,
-- and the connection is served all the same; `Stopped` does not come, since a stopped desk is not
-- asked (profile)
abbrev pub dump_end : Result (Unit {0}) DeskDumpFault → ConnEnd
dump_end (Ok done) = Ok tt
dump_end (Err dump_fault.Write) = Err conn_fault.Write
dump_end (Err dump_fault.Memory) = Ok tt
dump_end (Err dump_fault.Stopped) = Ok tt

-- the head of a reply was written, and after it this dump, or where it was cut short the beginning
-- of it and not all
pub record IsDumped (text : List ℕ) (old new : Told) (result : ConnEnd) : Type 0 where
  pub between : Told
  pub head : Takes old between ok_head
  pub dump_result : Result (Unit {0}) DeskDumpFault
  pub dumps : Dumps text between new dump_result
  pub ends : result ≡ dump_end dump_result

-- the dump by HTTP: of a desk that is stopped, that it is not given now; of one that runs, it
-- follows the head of a reply, or not even that could be written (profile)
abbrev pub AnswersDump : List ℕ → Bool → Told → Told → ConnEnd → Type 0
AnswersDump text stopped old new result =
    ((stopped ≡ true) × WritesReply (refusal_reply Unavailable) old new result)
    ⊎ ((stopped ≡ false) × (IsHeadCut old new result ⊎ IsDumped text old new result))

-- what a reader of bytes in memory tells, by those that are left, its failed reads and its other
-- reads
abbrev pub in_memory : List ℕ → ℕ → ℕ → Told
in_memory bytes faults reads =
    record { bytes = Some bytes; faults = faults; reads = reads; aside = alone }

-- the two sides of a submission of a body: a reader of its bytes, and the writer of the reply
abbrev pub body_sides : {D : Type 0} → ledger.Ghosts D → List ℕ → List ℕ → ℕ → ℕ
    → D → D
    → Told → Told → Sides
body_sides g body rest faults reads before after old new =
    sides (in_memory body 0 0) (in_memory rest faults reads) old new
    (g.registry before) (g.registry after)

-- what was read of a body ends with a blank line, so that its entries are the first of the body
-- whatever follows, or with the body, and then no byte of it is missing (profile)
abbrev pub EndsWhole : List ℕ → ℕ → Type 0
EndsWhole read missing = (whole_part read ≡ read) ⊎ (missing ≡ 0)

-- what a submission that ended so says of the bytes of its body that never came: none are missing
-- where its end was reached, also if its last line could not be written, and some where a read
-- failed, after all that came. Where the line of an item could not be written, or the store failed,
-- what was read ends whole (`EndsWhole`). Of other ends nothing is said (profile)
abbrev pub TellsMissing : {D : Type 0} (g : ledger.Ghosts D) (source : List ℕ) (sides : Sides)
    (before after : D) (rest : List ℕ) (missing : ℕ) (result : Result Done SubmissionFault)
    → Submits g before after source sides result → Type 0
TellsMissing g source sides before after rest missing (Ok done) submits = missing ≡ 0
TellsMissing g source sides before after rest missing (Err (fault.ReadFault items)) submits =
    (missing ≢ 0) × (rest ≡ [])
TellsMissing g source sides before after rest missing (Err (fault.WriteFault items)) (inl submits) =
    EndsWhole submits.prefix missing
TellsMissing g source sides before after rest missing (Err (fault.WriteFault items)) (inr submits) =
    missing ≡ 0
TellsMissing g source sides before after rest missing (Err (fault.LedgerStopped items)) submits =
    EndsWhole submits.prefix missing
TellsMissing g source sides before after rest missing (Err fault.Memory) submits = Unit {0}
TellsMissing g source sides before after rest missing (Err fault.Stopped) submits = Unit {0}

-- a body was submitted of which these bytes came, and so many more did not: it is a text with an
-- end where none are missing, and ends with a failed read after its bytes where some are; no item
-- of it is one that misses bytes (profile)
pub record SubmitsBody {D : Type 0} (g : ledger.Ghosts D) (source body : List ℕ) (missing : ℕ)
    (before after : D) (old new : Told) (result : Result Done SubmissionFault) : Type 0 where
  pub rest : List ℕ
  pub faults : ℕ
  pub reads : ℕ
  pub submits : Submits g before after source
      (body_sides g body rest faults reads before after old new) result
  pub tells : TellsMissing g source (body_sides g body rest faults reads before after old new)
      before after rest missing result submits
