-- What the turns of a served desk are: events of its database, by the bytes of each connection and
-- of the reply to it (profile). A law in `src/laws.rt` says that they are.
use Rattle.std.specs.Prelude.{◌≡◌, ◌⊎◌, ℕ, Bool, false, IsTrue, List, [], ◌∷◌, ◌++◌}
use Rattle.std.specs.Prelude.{drop, Option, None, Some, Result, Err}
use Rattle.percent_encoding.specs.Percent.{percent_decode}
use Rattle.sqlite_trees.specs.declared.store.Store as store
use Rattle.rr_io.specs.Told.{Told}
use Rattle.rr_io.specs.Receiving.{BreaksOff}
use Rattle.rr_io.specs.Sending.{Takes, TakesPrefix}
use Rattle.rr_submission.specs.declared.submission.Done.{Done}
use Rattle.rr_submission.specs.declared.submission.SubmissionFault.{SubmissionFault}
use Rattle.rr_desk.specs.declared.desk.Desk.{Desk}
use Rattle.rr_desk.specs.declared.peers.ConnFault.TheVariants as conn_fault
use Rattle.rr_desk.specs.Events.{Event, asked, dumped, submitted}
use Rattle.rr_desk.specs.Histories.{History, at_desk}
use Rattle.rr_desk.specs.Turns.{DoesAll, Visit}
use Rattle.rr_http.specs.declared.asking.Refusal.TheVariants.{Unavailable}
use Rattle.rr_http.specs.declared.body_reading.BodyEnd.{BodyEnd}
use Rattle.rr_http.specs.Answering.{IsDumped, in_memory}
use Rattle.rr_http.specs.Bodies.{ReadsBody}
use Rattle.rr_http.specs.DeskRegistrars.{serves_desk}
use Rattle.rr_http.specs.Replies.{ok_head, refusal_reply}
use Rattle.rr_http.specs.Requests.{Asks, refused, submission, query, dump}
use Rattle.rr_http.specs.Serving.{Replies, visit_from}
use Rattle.rr_http.specs.Wants.{IsUndecided, IsWanted, ReadsHead, Wants, whois, http}

-- this text is the reply to a connection, and nothing was done
abbrev pub IsTurnedDown : List ℕ → Visit → List Event → Type 0
IsTurnedDown page visit events = (events ≡ []) × Replies page visit

-- not even the head of a reply could be written whole, and nothing was done
abbrev pub IsHeadUnwritten : Visit → List Event → Type 0
IsHeadUnwritten visit events =
    (events ≡ []) × TakesPrefix visit.writer_before visit.writer_after ok_head

-- a query was answered: the reply is this head and then the answer
pub record IsQueryTurn (head text : List ℕ) (visit : Visit) (events : List Event) : Type 0 where
  pub bytes : List ℕ
  pub replies : Replies (head ++ bytes) visit
  pub event : events ≡ asked text bytes ∷ []

-- the public dump was given, whole or cut short, after the head of a reply; the event has it whole
pub record IsDumpTurn (visit : Visit) (events : List Event) : Type 0 where
  pub bytes : List ℕ
  pub sent : IsDumped bytes visit.writer_before visit.writer_after visit.ended
  pub event : events ≡ dumped false bytes ∷ []

-- a body of this size was read, as far as it came, and submitted: the reply is its head and then
-- the report
pub record IsSubmissionTurn (buffered : List ℕ) (size : ℕ) (visit : Visit) (events : List Event)
    : Type 0 where
  pub body : List ℕ
  pub end : BodyEnd
  pub reads : ReadsBody visit.reader_before visit.reader_after buffered size body end
  pub between : Told
  pub head : Takes visit.writer_before between ok_head
  pub left : Told
  pub done : Result Done SubmissionFault
  pub event : events ≡ submitted (in_memory body 0 0) left between visit.writer_after done ∷ []

-- what became of what a request asks; these bytes came with its head
abbrev pub IsAskedTurn : List ℕ → Asks → Visit → List Event → Type 0
IsAskedTurn buffered (refused refusal) visit events =
    IsTurnedDown (refusal_reply refusal) visit events
IsAskedTurn buffered (submission size) visit events =
    IsTurnedDown (refusal_reply Unavailable) visit events
    ⊎ (IsHeadUnwritten visit events ⊎ IsSubmissionTurn buffered size visit events)
IsAskedTurn buffered (query escaped) visit events =
    IsTurnedDown (refusal_reply Unavailable) visit events
    ⊎ (IsHeadUnwritten visit events ⊎ IsQueryTurn ok_head (percent_decode escaped) visit events)
IsAskedTurn buffered dump visit events =
    IsTurnedDown (refusal_reply Unavailable) visit events
    ⊎ (IsHeadUnwritten visit events ⊎ IsDumpTurn visit events)

-- what became of what a connection wants at whose head these bytes were read
abbrev pub IsWantedTurn : List ℕ → Wants → Visit → List Event → Type 0
IsWantedTurn head (whois text) visit events = IsQueryTurn [] text visit events
IsWantedTurn head (http place asks) visit events = IsAskedTurn (drop place head) asks visit events

-- the head of a connection was read, it wants this, whatever may follow its head, and that became
-- of it
pub record IsServedTurn (visit : Visit) (events : List Event) : Type 0 where
  pub head : List ℕ
  pub at_end : Bool
  pub between : Told
  pub wants : Wants
  pub reads : ReadsHead visit.reader_before between head at_end
  pub is_wanted : (more : List ℕ) → (IsTrue at_end → more ≡ [])
      → IsWanted (head ++ more) wants
  pub is_turn : IsWantedTurn head wants (visit_from between visit) events

-- a read failed before it was known what a connection wants: nothing is written, and nothing done
pub record IsBrokenTurn (visit : Visit) (events : List Event) : Type 0 where
  pub bytes : List ℕ
  pub breaks : BreaksOff visit.reader_before visit.reader_after bytes
  pub undecided : IsUndecided bytes
  pub unwritten : visit.writer_after ≡ visit.writer_before
  pub failed : visit.ended ≡ Err conn_fault.Read
  pub none : events ≡ []

-- a turn is these events, one or none
abbrev pub IsTurn : Option Visit → List Event → Type 0
IsTurn None events = events ≡ []
IsTurn (Some visit) events = IsBrokenTurn visit events ⊎ IsServedTurn visit events

-- the turns are these events, one after the other
abbrev pub AreTurns : List (Option Visit) → List Event → Type 0
AreTurns [] events = events ≡ []
AreTurns (visit ∷ visits) events =
    (first : List Event) × (later : List Event) × (events ≡ first ++ later) × IsTurn visit first
    × AreTurns visits later

-- the turns are events of a history of the desk's database
pub record AreEvents {S : Type 0} (g : store.Ghosts S) (visits : List (Option Visit))
    (before after : Desk S) : Type 0 where
  pub events : List Event
  pub are_turns : AreTurns visits events
  pub history : History g (at_desk before) events (at_desk after)

-- the turns of a desk that is served by whois and HTTP are events of a history of its database
-- (`AreEvents`)
abbrev pub TurnsAreEvents : {S : Type 0} → store.Ghosts S → Type 0
TurnsAreEvents {S} g =
    (visits : List (Option Visit)) (before after : Desk S)
    → DoesAll S g serves_desk visits before after → AreEvents g visits before after
