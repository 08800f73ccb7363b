-- The turns of a served desk are events of its database.
use Rattle.std.proofs.Common.{◌≡◌, ◌⊎◌, inl, inr, ℕ, Bool, true, false, List, [], ◌∷◌, ◌++◌, Option}
use Rattle.std.proofs.Common.{None, Some, Result, Ok, Err, drop, refl, sym, ap, subst}
use Rattle.percent_encoding.specs.Percent.{percent_decode}
use Rattle.sqlite_trees.specs.declared.store.Store as store
use Rattle.rr_io.specs.Told.{Told}
use Rattle.rr_object.specs.declared.code.Code.{Code}
use Rattle.rr_auth.specs.declared.item.Item.{Item}
use Rattle.rr_answer.specs.Dumps as dumps
use Rattle.rr_submission.specs.declared.submission.Done.{Done}
use Rattle.rr_submission.specs.declared.submission.SubmissionFault.{SubmissionFault}
use Rattle.rr_submission.specs.declared.submission.SubmissionFault.TheVariants.{ReadFault}
use Rattle.rr_submission.specs.declared.submission.SubmissionFault.TheVariants.{WriteFault}
use Rattle.rr_submission.specs.declared.submission.SubmissionFault.TheVariants.{LedgerStopped}
use Rattle.rr_submission.specs.declared.submission.SubmissionFault.TheVariants.{Memory}
use Rattle.rr_submission.specs.declared.submission.SubmissionFault.TheVariants.{Stopped}
use Rattle.rr_submission.specs.Handled.{StopsAt}
use Rattle.rr_submission.specs.Submissions.{Sides, Submits}
use Rattle.rr_desk.specs.declared.desk.Desk.{Desk}
use Rattle.rr_desk.specs.Events.{Event, asked, dumped, submitted}
use Rattle.rr_desk.specs.Histories.{Happens, History, Place, at_desk}
use Rattle.rr_desk.specs.Histories.Happens.{submission as submission_event, query as query_event}
use Rattle.rr_desk.specs.Histories.Happens.{printing}
use Rattle.rr_desk.specs.Stocks.{stock_ledger}
use Rattle.rr_desk.specs.Turns.{ConnEnd, Does, StaysServed, Visit}
use Rattle.rr_http.specs.declared.body_reading.BodyEnd.{BodyEnd}
use Rattle.rr_http.specs.Answering.{AnswersDump, AnswersQuery, AnswersRunning, IsDumped, IsHeadCut}
use Rattle.rr_http.specs.Answering.{in_memory}
use Rattle.rr_http.specs.DeskRegistrars.{IsDeskAnswer, desk_ledger, desk_registrar, serves_desk}
use Rattle.rr_http.specs.Requests.{Asks, refused, submission, query, dump}
use Rattle.rr_http.specs.Serving.{IsSubmitted, TakesSubmission, Serves, ServesAsks, ServesBody}
use Rattle.rr_http.specs.Serving.{ServesWants, SubmitsRead, visit_from}
use Rattle.rr_http.specs.TurnEvents.{IsAskedTurn, IsTurn, IsWantedTurn, TurnsAreEvents}
use Rattle.rr_http.specs.Wants.{Wants, whois, http}

not_both : (b : Bool) → b ≡ true → b ≡ false → ⊥
not_both b on off = absurd (cc)

module _ {S : Type 0} (g : store.Ghosts S) where
  -- what a turn is, with the history of the desk through it
  record Turned (IsIt : List Event → Type 0) (before after : Desk S) : Type 0 where
    pub events : List Event
    pub is_it : IsIt events
    pub history : History g (at_desk before) events (at_desk after)

  -- nothing was done
  nothing : {IsIt : List Event → Type 0} (before after : Desk S) → after ≡ before → IsIt [] →
      Turned IsIt before after
  nothing before after same is = record { events = []; is_it = is; history = ap at_desk same }

  -- one thing was
  one_thing : {IsIt : List Event → Type 0} (before after : Desk S) (event : Event) →
      Happens g (at_desk before) event (at_desk after) → IsIt (event ∷ []) → Turned IsIt before
      after
  one_thing before after event happens is = record {
    events = event ∷ [];
    is_it = is;
    history =
        (at_desk after, happens, refl);
  }

  -- an answer is an event
  answered : (before after : Desk S) (text bytes : List ℕ) → IsDeskAnswer g before text bytes after
      → Happens g (at_desk before) (asked text bytes) (at_desk after)
  answered before after text bytes it =
      subst (λ (desk : Desk S). Happens g (at_desk before) (asked text bytes) (at_desk desk))
      (sym it.same)
      (subst (λ (b : List ℕ). Happens g (at_desk before) (asked text b) (at_desk before))
      (sym it.is) (query_event before text it.answer it.answered))

  -- so is a dump
  printed : (before after : Desk S) → before.stock.stopped ≡ false → after ≡ before →
      Happens g (at_desk before) (dumped false (dumps.dump false before.stock.registry))
      (at_desk after)
  printed before after running same =
      subst (λ (desk : Desk S). Happens g (at_desk before)
      (dumped false (dumps.dump false before.stock.registry)) (at_desk desk)) (sym same)
      (printing before false running)

  -- and a submission
  stops_alike : (middle after : Desk S) (secrets : List (List ℕ)) (action : Result Item Code) →
      StopsAt (desk_ledger g) middle secrets action after → StopsAt (stock_ledger g) middle.stock
      secrets action after.stock
  stops_alike middle after secrets (Ok item) stops = stops
  stops_alike middle after secrets (Err code) stops = absurd stops

  as_stock : (before after : Desk S) (source : List ℕ) (sides : Sides)
      (result : Result Done SubmissionFault) → Submits (desk_ledger g) before after source sides
      result →
      Submits (stock_ledger g) before.stock after.stock source sides result
  as_stock before after source sides (Ok done) it = it
  as_stock before after source sides (Err (ReadFault items)) it = it
  as_stock before after source sides (Err (WriteFault items)) it = it
  as_stock before after source sides (Err (LedgerStopped items)) it =
      let h = it.handles in record {
        prefix = it.prefix;
        reads = it.reads;
        handles = record {
          told = h.told;
          last = h.last;
          outcomes = h.outcomes;
          middle = h.middle.stock;
          between = h.between;
          are_items = h.are_items;
          runs = h.runs;
          confined = h.confined;
          running = h.running;
          stops = stops_alike h.middle after h.last.secrets h.last.request.action h.stops;
          writes = h.writes;
          ends = h.ends;
          counted = h.counted;
        };
      }
  as_stock before after source sides (Err Memory) it = it
  as_stock before after source sides (Err Stopped) it = it

  taken_in : (before after : Desk S) (body : List ℕ) (size : ℕ) (end : BodyEnd) (old new : Told)
      (ended : ConnEnd) → before.stock.stopped ≡ false → StaysServed g before after
      → (it : IsSubmitted (desk_registrar g) body size end before after old new ended)
      → Happens g (at_desk before)
      (submitted (in_memory body 0 0) (in_memory it.submits.rest it.submits.faults
      it.submits.reads) it.between new it.done) (at_desk after)
  taken_in before after body size end old new ended running stays it =
      submission_event before after (in_memory body 0 0)
      (in_memory it.submits.rest it.submits.faults it.submits.reads) it.between new it.done
      (record {
        refuses = λ halted. absurd (not_both before.stock.stopped halted running);
        submits = λ runs. as_stock before after before.settings.source _ it.done it.submits.submits;
        leaves = record {
          runs_on = λ runs. it.leaves.running;
          rows = stays.rows;
          of_source = it.leaves.of_source;
          lasts = stays.lasts;
          settings = stays.settings;
        };
      })

  module _ (before after : Desk S) (stays : StaysServed g before after) where
    of_taken : (buffered : List ℕ) (size : ℕ) (visit : Visit)
        (taken : TakesSubmission (desk_registrar g) buffered size before after visit)
        → SubmitsRead (desk_registrar g) taken.body size taken.end before after visit.writer_before
        visit.writer_after visit.ended
        → Turned (IsAskedTurn buffered (submission size) visit) before after
    of_taken buffered size visit taken (inl unwritten) = nothing before after unwritten.same
        (inr (inl (refl, unwritten.cut)))
    of_taken buffered size visit taken (inr it) =
        one_thing before after _ (taken_in before after taken.body size taken.end
        visit.writer_before visit.writer_after visit.ended taken.running stays it)
        (inr (inr (record {
          body = taken.body;
          end = taken.end;
          reads = taken.reads;
          between = it.between;
          head = it.head;
          left = in_memory it.submits.rest it.submits.faults it.submits.reads;
          done = it.done;
          event = refl;
        })))

    of_body : (buffered : List ℕ) (size : ℕ) (visit : Visit) → ServesBody (desk_registrar g)
        buffered size before after visit → Turned (IsAskedTurn buffered (submission size) visit)
        before after
    of_body buffered size visit (inl (inl halted)) = nothing before after halted.unavailable.same
        (inl (refl, halted.unavailable.replies))
    of_body buffered size visit (inl (inr none)) = nothing before after none.unavailable.same
        (inl (refl, none.unavailable.replies))
    of_body buffered size visit (inr taken) = of_taken buffered size visit taken taken.submits

    of_running : (buffered escaped : List ℕ) (visit : Visit) →
        AnswersRunning (desk_registrar g).Answers (percent_decode escaped) before after
        visit.writer_before visit.writer_after visit.ended
        → Turned (IsAskedTurn buffered (query escaped) visit) before after
    of_running buffered escaped visit (inl cut) = nothing before after cut.1
        (inr (inl (refl, cut.0.cut)))
    of_running buffered escaped visit (inr told) =
        one_thing before after _ (answered before after (percent_decode escaped) told.text
        told.answers)
        (inr (inr (record { bytes = told.text; replies = told.replies; event = refl })))

    of_query : (buffered escaped : List ℕ) (visit : Visit) →
        AnswersQuery (desk_registrar g).Answers before.stock.stopped (percent_decode escaped)
        before after visit.writer_before visit.writer_after visit.ended
        → Turned (IsAskedTurn buffered (query escaped) visit) before after
    of_query buffered escaped visit (inl none) = nothing before after none.1.same
        (inl (refl, none.1.replies))
    of_query buffered escaped visit (inr it) = of_running buffered escaped visit it.1

    of_sent : (buffered : List ℕ) (visit : Visit) → after ≡ before → before.stock.stopped ≡ false
        → IsHeadCut visit.writer_before visit.writer_after visit.ended
        ⊎ IsDumped (dumps.dump false before.stock.registry) visit.writer_before
        visit.writer_after visit.ended
        → Turned (IsAskedTurn buffered dump visit) before after
    of_sent buffered visit same running (inl cut) = nothing before after same
        (inr (inl (refl, cut.cut)))
    of_sent buffered visit same running (inr told) =
        one_thing before after _ (printed before after running same)
        (inr
        (inr (record {
          bytes = dumps.dump false before.stock.registry;
          sent = told;
          event =
              refl;
        })))

    of_dump : (buffered : List ℕ) (visit : Visit) → after ≡ before →
        AnswersDump (dumps.dump false before.stock.registry) before.stock.stopped
        visit.writer_before visit.writer_after visit.ended
        → Turned (IsAskedTurn buffered dump visit) before after
    of_dump buffered visit same (inl it) = nothing before after same (inl (refl, it.1))
    of_dump buffered visit same (inr it) = of_sent buffered visit same it.0 it.1

    of_asks : (buffered : List ℕ) (asks : Asks) (visit : Visit) → ServesAsks (desk_registrar g)
        buffered asks before after visit → Turned (IsAskedTurn buffered asks visit) before after
    of_asks buffered (refused refusal) visit it = nothing before after it.0.same (refl, it.1)
    of_asks buffered (submission size) visit it = of_body buffered size visit it
    of_asks buffered (query escaped) visit it = of_query buffered escaped visit it.1
    of_asks buffered dump visit it = of_dump buffered visit it.0.same it.1

    of_wants : (head : List ℕ) (wants : Wants) (visit : Visit) → ServesWants (desk_registrar g)
        head wants before after visit → Turned (IsWantedTurn head wants visit) before after
    of_wants head (whois text) visit it =
        one_thing before after _ (answered before after text it.1.text it.1.answers)
        (record { bytes = it.1.text; replies = it.1.replies; event = refl })
    of_wants head (http place asks) visit it = of_asks (drop place head) asks visit it

  of_visit : (visit : Visit) (before after : Desk S) → StaysServed g before after →
      Serves (desk_registrar g) before after visit → Turned (IsTurn (Some visit)) before after
  of_visit visit before after stays (inl broken) = nothing before after broken.same (inl (record {
    bytes = broken.bytes;
    breaks = broken.breaks;
    undecided = broken.undecided;
    unwritten = broken.unwritten;
    failed = broken.failed;
    none = refl;
  }))
  of_visit visit before after stays (inr served) =
      let turn = of_wants before after stays served.head served.wants
      (visit_from served.between visit) served.serves in record {
        events = turn.events;
        is_it = inr (record {
          head = served.head;
          at_end = served.at_end;
          between = served.between;
          wants = served.wants;
          reads = served.reads;
          is_wanted = served.is_wanted;
          is_turn = turn.is_it;
        });
        history = turn.history;
      }

  one_turn : (visit : Option Visit) (before after : Desk S) → Does S g serves_desk visit before
      after → Turned (IsTurn visit) before after
  one_turn None before after same = nothing before after same refl
  one_turn (Some visit) before after does = of_visit visit before after does.2 does.1

  -- two histories, one after the other
  joined_from : (place : Place S) (between last : Desk S) (events later : List Event) →
      History g place events (at_desk between) → History g (at_desk between) later (at_desk last) →
      History g place (events ++ later) (at_desk last)
  joined_from place between last [] later same two =
      subst (λ (from : Place S). History g from later (at_desk last)) same two
  joined_from place between last (event ∷ rest) later one two =
      (one.0, one.1, joined_from one.0 between last rest later one.2 two)

  pub turns_are_events : TurnsAreEvents g
  turns_are_events [] before after same = record {
    events = [];
    are_turns = refl;
    history =
        ap at_desk same;
  }
  turns_are_events (visit ∷ visits) before after all =
      let one = one_turn visit before all.0 all.1 in
      let more = turns_are_events visits all.0 after all.2 in record {
        events = one.events ++ more.events;
        are_turns = (one.events, more.events, refl, one.is_it, more.are_turns);
        history = joined_from (at_desk before) all.0 after one.events more.events one.history
            more.history;
      }
