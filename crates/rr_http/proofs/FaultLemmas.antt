-- Lemmas on what the end of serving a connection tells of its failed calls.
use Rattle.std.proofs.Common.{◌≡◌, ℕ, ◌+◌, ◌<◌, ◌≤◌, ◌^◌, inl, inr, Bool, true, false, List, drop}
use Rattle.std.proofs.Common.{Ok, Err, arith, refl, ap, sym, ◌∙◌, subst}
use Rattle.std.specs.Prelude.{Result, nat_lt}
use Rattle.std.proofs.lemmas.Bool.{ltb-true, ltb-false}
use Rattle.rr_io.specs.Told.{Told, Counts}
use Rattle.rr_io.specs.Receiving.{BreaksOff}
use Rattle.rr_io.specs.Sending.{TakesPrefix}
use Rattle.rr_desk.specs.declared.desk_dumping.DeskDumpFault.{DeskDumpFault}
use Rattle.rr_desk.specs.declared.desk_dumping.DeskDumpFault.TheVariants as dump_fault
use Rattle.rr_desk.specs.declared.peers.ConnFault.TheVariants.{Read, Write}
use Rattle.rr_desk.specs.Dumping.{Dumps}
use Rattle.rr_desk.specs.Turns.{ConnEnd, Visit}
use Rattle.rr_http.specs.declared.body_reading.BodyEnd.{BodyEnd}
use Rattle.rr_http.specs.declared.body_reading.BodyEnd.TheVariants.{Whole, Short, Broken}
use Rattle.rr_http.specs.declared.registrar.Registrar.{Ghosts}
use Rattle.rr_http.specs.Answering.{AnswersDump, AnswersQuery, WritesReply, dump_end}
use Rattle.rr_http.specs.Bodies.{ReadsBody}
use Rattle.rr_http.specs.Faults.{CanCount, TellsCalls, TellsFaults}
use Rattle.rr_http.specs.Requests.{Asks, refused, submission, query, dump}
use Rattle.rr_http.specs.Serving.{Serves, ServesAsks, ServesWants, SubmitsRead, end_by, visit_of}
use Rattle.rr_http.specs.Wants.{Wants, whois, http}

rises : (before between after : ℕ) → between ≡ before → before + 1 < 2 ^ 64 → Counts between after
    1 → before < after
rises before between after same room counts = let up =
    counts.exact (let there : between + 1 < 2 ^ 64 = omega arith in there) in omega arith

cut_fails : (old new : Told) (bytes : List ℕ) → CanCount old → TakesPrefix old new bytes →
    old.faults < new.faults
cut_fails old new bytes room cut = rises old.faults cut.between.faults new.faults
    cut.takes.no_fault room cut.fails.counted

-- a read failed
pub break_fails : (old new : Told) (bytes : List ℕ) → CanCount old → BreaksOff old new bytes →
    old.faults < new.faults
break_fails old new bytes room breaks = rises old.faults breaks.between.faults new.faults
    breaks.gives.no_fault room breaks.fails.counted

-- the reply is a whole text
told_reply : (text : List ℕ) (reader_old reader_new old new : Told) (result : ConnEnd) →
    reader_new.faults ≡ reader_old.faults → CanCount old →
    WritesReply text old new result → TellsCalls reader_old reader_new old new result
told_reply text reader_old reader_new old new (Ok done) same room replies =
    (same, let still = replies.writes.no_fault in omega arith)
told_reply text reader_old reader_new old new (Err Read) same room replies =
    absurd (replies.cause refl)
told_reply text reader_old reader_new old new (Err Write) same room replies =
    (same, cut_fails old new text room replies.writes)

-- a write failed in what was written
told_cut : (text : List ℕ) (reader_old reader_new old new : Told) (result : ConnEnd) →
    reader_new.faults ≡ reader_old.faults → CanCount old →
    TakesPrefix old new text → result ≡ Err Write → TellsCalls reader_old reader_new old new result
told_cut text reader_old reader_new old new result same room cut is =
    subst (TellsCalls reader_old reader_new old new) (sym is)
    (same, cut_fails old new text room cut)

told_query : {D : Type 0} (Answers : D → List ℕ → List ℕ → D → Type 0) (stopped : Bool)
    (text : List ℕ) (before after : D) (reader_old reader_new old new : Told) (result : ConnEnd) →
    reader_new.faults ≡ reader_old.faults → CanCount old → AnswersQuery Answers stopped text before
    after old new result → TellsCalls reader_old reader_new old new result
told_query Answers stopped text before after reader_old reader_new old new result same room
    (inl (is, turned)) = told_reply _ reader_old reader_new old new result same room turned.replies
told_query Answers stopped text before after reader_old reader_new old new result same room
    (inr (running, inl cut)) =
    told_cut _ reader_old reader_new old new result same room cut.0.cut cut.0.failed
told_query Answers stopped text before after reader_old reader_new old new result same room
    (inr (running, inr answered)) =
    told_reply _ reader_old reader_new old new result same room answered.replies

told_dumped : (text : List ℕ) (dump_result : Result (Unit {0}) DeskDumpFault)
    (reader_old reader_new old between new : Told) → reader_new.faults ≡ reader_old.faults →
    CanCount old →
    between.faults ≡ old.faults → Dumps text between new dump_result → TellsCalls reader_old
    reader_new old new (dump_end dump_result)
told_dumped text (Ok done) reader_old reader_new old between new same room head dumps =
    (same, let still = dumps.no_fault in omega arith)
told_dumped text (Err dump_fault.Write) reader_old reader_new old between new same room head dumps =
    let there : CanCount between = subst (λ n. n + 1 < 2 ^ 64) (sym head) room in
    (same, let up = cut_fails between new text there dumps in omega arith)
told_dumped text (Err dump_fault.Memory) reader_old reader_new old between new same room head dumps
    = (same, let still = dumps.takes.no_fault in omega arith)
told_dumped text (Err dump_fault.Stopped) reader_old reader_new old between new same room head
    dumps = absurd dumps

told_dump : (text : List ℕ) (stopped : Bool) (reader_old reader_new old new : Told)
    (result : ConnEnd) → reader_new.faults ≡ reader_old.faults → CanCount old →
    AnswersDump text stopped old new result → TellsCalls reader_old reader_new old new result
told_dump text stopped reader_old reader_new old new result same room (inl (is, turned)) =
    told_reply _ reader_old reader_new old new result same room turned
told_dump text stopped reader_old reader_new old new result same room (inr (running, inl cut)) =
    told_cut _ reader_old reader_new old new result same room cut.cut cut.failed
told_dump text stopped reader_old reader_new old new result same room (inr (running, inr dumped)) =
    subst (TellsCalls reader_old reader_new old new) (sym dumped.ends)
    (told_dumped text dumped.dump_result reader_old reader_new old dumped.between new same room
    dumped.head.no_fault dumped.dumps)

-- the faults of a reader of which a body was read, by how that ended
abbrev Reading : BodyEnd → ℕ → ℕ → Type 0
Reading Whole before after = after ≡ before
Reading Short before after = after ≡ before
Reading Broken before after = before < after

body_reading : (end : BodyEnd) (old new : Told) (buffered : List ℕ) (size : ℕ) (body : List ℕ) →
    CanCount old → ReadsBody old new buffered size body end → Reading end old.faults new.faults
body_reading Whole old new buffered size body room reads = reads.1.no_fault
body_reading Short old new buffered size body room reads = reads.1.no_fault
body_reading Broken old new buffered size body room reads = break_fails old new reads.0 room reads.1

-- the end after a body, by whether a write failed
told_end : (end : BodyEnd) (write_failed : Bool) (reader_old reader_new old new : Told) →
    Reading end reader_old.faults reader_new.faults →
    (write_failed ≡ true → old.faults < new.faults) →
    (write_failed ≡ false → new.faults ≤ old.faults) → TellsCalls reader_old reader_new old new
    (end_by end write_failed)
told_end Whole true reader_old reader_new old new read badly well = (read, badly refl)
told_end Whole false reader_old reader_new old new read badly well = (read, well refl)
told_end Short true reader_old reader_new old new read badly well = (read, badly refl)
told_end Short false reader_old reader_new old new read badly well = (read, well refl)
told_end Broken write_failed reader_old reader_new old new read badly well = read

told_submission : {D : Type 0} (registrar : Ghosts D) (body : List ℕ) (size : ℕ) (end : BodyEnd)
    (before after : D) (reader_old reader_new old new : Told) (result : ConnEnd) →
    Reading end reader_old.faults reader_new.faults → CanCount old → SubmitsRead registrar body
    size end before after old new result → TellsCalls reader_old reader_new old new result
told_submission registrar body size end before after reader_old reader_new old new result read room
    (inl cut) =
    subst (TellsCalls reader_old reader_new old new) (sym cut.failed)
    (told_end end true reader_old reader_new old new read (λ _. cut_fails old new _ room cut.cut)
    (λ is. let wrong : true ≡ false = is in absurd (cc)))
told_submission registrar body size end before after reader_old reader_new old new result read room
    (inr submitted) =
    subst (TellsCalls reader_old reader_new old new) (sym submitted.ends)
    (told_end end (nat_lt old.faults new.faults) reader_old reader_new old new read
    (λ is. ltb-true old.faults new.faults is) (λ is. ltb-false old.faults new.faults is))

told_asks : {D : Type 0} (registrar : Ghosts D) (buffered : List ℕ) (asks : Asks)
    (before after : D) (reader_old reader_new old new : Told) (result : ConnEnd) →
    CanCount reader_old → CanCount old → ServesAsks registrar buffered asks before after
    (visit_of reader_old reader_new old new result) → TellsCalls reader_old reader_new old new
    result
told_asks registrar buffered (refused refusal) before after reader_old reader_new old new result
    reader_room room serves =
    told_reply _ reader_old reader_new old new result
    (ap (λ (told : Told). told.faults) serves.0.unread) room serves.1
told_asks registrar buffered (submission size) before after reader_old reader_new old new result
    reader_room room (inl (inl stopped)) =
    told_reply _ reader_old reader_new old new result
    (ap (λ (told : Told). told.faults) stopped.unread) room stopped.unavailable.replies
told_asks registrar buffered (submission size) before after reader_old reader_new old new result
    reader_room room (inl (inr no_memory)) =
    told_reply _ reader_old reader_new old new result
    (ap (λ (told : Told). told.faults) no_memory.unread) room no_memory.unavailable.replies
told_asks registrar buffered (submission size) before after reader_old reader_new old new result
    reader_room room (inr taken) =
    told_submission registrar taken.body size taken.end before after reader_old reader_new old new
    result
    (body_reading taken.end reader_old reader_new buffered size taken.body reader_room taken.reads)
    room taken.submits
told_asks registrar buffered (query escaped) before after reader_old reader_new old new result
    reader_room room serves =
    told_query registrar.Answers (registrar.ledger.is_stopped before) _ before after reader_old
    reader_new old new result (ap (λ (told : Told). told.faults) serves.0) room serves.1
told_asks registrar buffered dump before after reader_old reader_new old new result reader_room
    room serves =
    told_dump _ (registrar.ledger.is_stopped before) reader_old reader_new old new result
    (ap (λ (told : Told). told.faults) serves.0.unread) room serves.1

told_wants : {D : Type 0} (registrar : Ghosts D) (head : List ℕ) (wants : Wants) (before after : D)
    (reader_old reader_new old new : Told) (result : ConnEnd) →
    CanCount reader_old → CanCount old → ServesWants registrar head wants before after
    (visit_of reader_old reader_new old new result) → TellsCalls reader_old reader_new old new
    result
told_wants registrar head (whois asked) before after reader_old reader_new old new result
    reader_room room serves =
    told_reply _ reader_old reader_new old new result (ap (λ (told : Told). told.faults) serves.0)
    room serves.1.replies
told_wants registrar head (http place asks) before after reader_old reader_new old new result
    reader_room room serves =
    told_asks registrar (drop place head) asks before after reader_old reader_new old new result
    reader_room room serves

-- the counts of a reader may be taken before the head was read, which fails in no call
from_head : (reader_old between reader_new old new : Told) (result : ConnEnd) → between.faults
    ≡ reader_old.faults → TellsCalls between reader_new old new result →
    TellsCalls reader_old reader_new old new result
from_head reader_old between reader_new old new (Ok done) same told = (told.0 ∙ same, told.1)
from_head reader_old between reader_new old new (Err Read) same told = omega arith
from_head reader_old between reader_new old new (Err Write) same told = (told.0 ∙ same, told.1)

-- how serving a connection ended tells of its failed calls
pub serves_tell : {D : Type 0} (registrar : Ghosts D) (before after : D) (visit : Visit) →
    Serves registrar before after visit → TellsFaults visit
serves_tell registrar before after visit (inl broken) = λ reader_room room.
    subst (TellsCalls visit.reader_before visit.reader_after visit.writer_before
    visit.writer_after) (sym broken.failed)
    (break_fails visit.reader_before visit.reader_after broken.bytes reader_room broken.breaks)
serves_tell registrar before after visit (inr served) = λ reader_room room.
    let same = served.reads.gives.no_fault in
    from_head visit.reader_before served.between visit.reader_after visit.writer_before
    visit.writer_after visit.ended same
    (told_wants registrar served.head served.wants before after served.between visit.reader_after
    visit.writer_before visit.writer_after visit.ended
    (subst (λ n. n + 1 < 2 ^ 64) (sym same) reader_room) room served.serves)
