-- Lemmas on the replies to connections that tell their bytes.
use Rattle.std.proofs.Common.{◌≡◌, ℕ, ◌≤◌, inl, inr, Bool, true, false, List, [], ◌++◌, length}
use Rattle.std.proofs.Common.{take, drop, Option, None, Some, Ok, Err, arith, refl, ap, sym, ◌∙◌}
use Rattle.std.proofs.Common.{subst}
use Rattle.std.specs.Prelude.{Result, IfSome}
use Rattle.std.proofs.lemmas.List.{append-nil, length-take}
use Rattle.rr_io.specs.Told.{Told}
use Rattle.rr_io.specs.Receiving.{Gives}
use Rattle.rr_io.specs.Sending.{Takes, TakesPrefix}
use Rattle.rr_io.proofs.Transfers.{TakesPrefix-more, TakesPrefix-then}
use Rattle.rr_desk.specs.declared.desk_dumping.DeskDumpFault.{DeskDumpFault}
use Rattle.rr_desk.specs.declared.desk_dumping.DeskDumpFault.TheVariants as dump_fault
use Rattle.rr_desk.specs.declared.peers.ConnFault.TheVariants.{Read, Write}
use Rattle.rr_desk.specs.Dumping.{Dumps}
use Rattle.rr_desk.specs.Turns.{ConnEnd}
use Rattle.rr_http.specs.declared.registrar.Registrar.{Ghosts}
use Rattle.rr_text.specs.Entries.{entries}
use Rattle.rr_submission.specs.SubmissionItems.{AreItems}
use Rattle.rr_http.specs.Answering.{RepliesWithAnswer, WritesReply, dump_end}
use Rattle.rr_http.specs.Lines.{speaks_http}
use Rattle.rr_http.specs.Heads.{head_length}
use Rattle.rr_http.specs.Replies.{ok_head}
use Rattle.rr_http.specs.ReplyBytes.{AnswersWithItsReply, AnswersWithItsReport, IsAnswerSent}
use Rattle.rr_http.specs.ReplyBytes.{IsDumpSent, IsCutOff, IsSent, RepliesTo, RepliesToWants}
use Rattle.rr_http.specs.Requests.{Asks, refused, submission, query, dump}
use Rattle.rr_http.specs.Serving.{ServesAsks, ServesWants, visit_of}
use Rattle.rr_http.specs.Wants.{HeadWants, IsWanted, RequestWants, Wants, is_full, whois, http}
use Rattle.rr_http.proofs.ToldLemmas.{body_after, wants_by_all}
use Rattle.rr_http.proofs.WantLemmas.{head_within}

-- the head of a request is in the prefix that says what is wanted
head_placed : (found : Option ℕ) (text : List ℕ) (full : Bool) (place : ℕ) (asks : Asks) →
    IfSome found (λ n. n ≤ length text) →
    RequestWants found text full (http place asks) → place ≤ length text
head_placed None text full place asks within wants = let none : place ≡ 0 = cc in omega arith
head_placed (Some n) text full place asks within wants = let is = wants.2 in let same : place ≡ n =
    cc in omega arith

head_placed_by : (speaks : Bool) (text : List ℕ) (full : Bool) (place : ℕ) (asks : Asks) →
    HeadWants speaks text full (http place asks) → place ≤ length text
head_placed_by false text full place asks wants = cc
head_placed_by true text full place asks wants = head_placed (head_length text) text full place
    asks (head_within text) wants

placed : (prefix : List ℕ) (place : ℕ) (asks : Asks) → IsWanted (prefix ++ []) (http place asks) →
    place ≤ length prefix
placed prefix place asks wanted =
    let within = head_placed_by (speaks_http (take 8192 (prefix ++ []))) (take 8192 (prefix ++ []))
    (is_full (prefix ++ [])) place asks wanted in
    omega (
      arith,
      within,
      length-take 8192 (prefix ++ []),
      ap (λ (xs : List ℕ). length xs)
          (append-nil prefix),
    )

module _ (old new : Told) (answered : List ℕ) (fresh : old.bytes ≡ Some [])
    (told : new.bytes ≡ Some answered) where
  taken : (text : List ℕ) → Takes old new text → answered ≡ text
  taken text takes = let all : new.bytes ≡ Some text = takes.appended [] fresh in cc

  cut_short : (text : List ℕ) → TakesPrefix old new text → IsCutOff text answered
  cut_short text cut =
      let all : new.bytes ≡ Some cut.prefix = cut.fails.bytes_stay cut.prefix
      (cut.takes.appended [] fresh) in
      let same : cut.prefix ≡ answered = cc in
      (cut.rest, cut.whole ∙ ap (λ xs. xs ++ cut.rest) same, cut.some_left)

  sent : (text : List ℕ) (result : ConnEnd) → WritesReply text old new result →
      IsSent text result answered
  sent text (Ok done) replies = taken text replies.writes
  sent text (Err Read) replies = absurd (replies.cause refl)
  sent text (Err Write) replies = cut_short text replies.writes

  answer_sent : {D : Type 0} (registrar : Ghosts D) (head text : List ℕ) (before after : D)
      (result : ConnEnd) → RepliesWithAnswer registrar.Answers head text before after old new
      result →
      IsAnswerSent registrar head text before after result answered
  answer_sent registrar head text before after result given =
      record {
        answer = given.text;
        answers = given.answers;
        sent = sent (head ++ given.text)
            result given.replies;
      }

  dumped : (text : List ℕ) (between : Told) (dump_result : Result (Unit {0}) DeskDumpFault) →
      Takes old between ok_head → Dumps text between new dump_result →
      IsDumpSent text (dump_end dump_result) answered
  dumped text between (Ok done) head dumps =
      let all : new.bytes ≡ Some (ok_head ++ text) = dumps.appended ok_head
      (head.appended [] fresh) in
      (text, [], sym (append-nil text), (let same : answered ≡ ok_head ++ text = cc in same))
  dumped text between (Err dump_fault.Write) head dumps = cut_short (ok_head ++ text)
      (TakesPrefix-then ok_head text head dumps)
  dumped text between (Err dump_fault.Memory) head dumps =
      let all : new.bytes ≡ Some (ok_head ++ dumps.prefix) = dumps.takes.appended ok_head
      (head.appended [] fresh) in (
        dumps.prefix,
        dumps.rest,
        dumps.whole,
        (let same : answered ≡ ok_head ++ dumps.prefix =
            cc in same),
      )
  dumped text between (Err dump_fault.Stopped) head dumps = absurd dumps

  module _ {D : Type 0} (registrar : Ghosts D) (before after : D) (reader_old reader_new : Told)
      (result : ConnEnd) where
    -- what a request asks, with what is given after its head
    to_asks : (reader_first : Told) (bytes prefix : List ℕ) (place : ℕ) (asks : Asks) →
        reader_first.bytes ≡ Some bytes → Gives reader_first reader_old prefix →
        place ≤ length prefix →
        ServesAsks registrar (drop place prefix) asks before after
        (visit_of reader_old reader_new old new result) → RepliesTo registrar
        (drop place bytes) asks before after result answered
    to_asks reader_first bytes prefix place (refused refusal) is gives within serves =
        (sent _ result serves.1, serves.0.same)
    to_asks reader_first bytes prefix place (submission size) is gives within (inl (inl stopped)) =
        inl (
          inl stopped.stopped,
          (
            sent _ result stopped.unavailable.replies,
            stopped.unavailable.same,
          ),
        )
    to_asks reader_first bytes prefix place (submission size) is gives within (inl (inr no_memory))
        =
        inl (
          inr no_memory.some,
          (
            sent _ result no_memory.unavailable.replies,
            no_memory.unavailable.same,
          ),
        )
    to_asks reader_first bytes prefix place (submission size) is gives within (inr taken_in) =
        inr (record {
          running = taken_in.running;
          body = taken_in.body;
          end = taken_in.end;
          is_body = body_after reader_first reader_old reader_new bytes prefix taken_in.body place
              size
              taken_in.end is gives within taken_in.reads;
          old = old;
          new = new;
          unwritten = fresh;
          written = told;
          submits = taken_in.submits;
        })
    to_asks reader_first bytes prefix place (query escaped) is gives within
        (same, inl (stopped, turned)) = inl (stopped, (sent _ result turned.replies, turned.same))
    to_asks reader_first bytes prefix place (query escaped) is gives within
        (same, inr (running, inl cut)) =
        inr (
          running,
          inl (record {
            cut = cut_short ok_head cut.0.cut;
            failed = cut.0.failed;
            same = cut.1;
          }),
        )
    to_asks reader_first bytes prefix place (query escaped) is gives within
        (same, inr (running, inr given)) =
        inr (running, inr (answer_sent registrar ok_head _ before after result given))
    to_asks reader_first bytes prefix place dump is gives within (left, inl (stopped, turned)) =
        inl (stopped, (sent _ result turned, left.same))
    to_asks reader_first bytes prefix place dump is gives within (left, inr (running, inl cut)) =
        inr (
          running,
          subst (λ ended. IsDumpSent (registrar.dumped before) ended answered)
              (sym cut.failed)
              (cut_short _ (TakesPrefix-more ok_head (registrar.dumped before) cut.cut)),
          left.same,
        )
    to_asks reader_first bytes prefix place dump is gives within (left, inr (running, inr given)) =
        inr (
          running,
          subst (λ ended. IsDumpSent (registrar.dumped before) ended answered)
              (sym given.ends) (dumped (registrar.dumped before) given.between given.dump_result
              given.head given.dumps),
          left.same,
        )

    to_wants : (reader_first : Told) (bytes prefix : List ℕ) (wants : Wants) → reader_first.bytes
        ≡ Some bytes → Gives reader_first reader_old prefix → IsWanted (prefix ++ []) wants →
        ServesWants registrar prefix wants before after (visit_of reader_old reader_new old new
        result) → RepliesToWants registrar bytes wants before after result answered
    to_wants reader_first bytes prefix (whois text) is gives wanted serves = answer_sent registrar
        [] text before after result serves.1
    to_wants reader_first bytes prefix (http place asks) is gives wanted serves =
        to_asks reader_first bytes prefix place asks is gives (placed prefix place asks wanted)
        serves

pub answers_with_its_reply : {D : Type 0} (registrar : Ghosts D) → AnswersWithItsReply registrar
answers_with_its_reply registrar before after visit given answered is fresh told (inl broken) =
    let consumed = broken.breaks.gives.consumed given is in
    inl (record {
      read = broken.bytes;
      rest = consumed.0;
      is = consumed.2;
      undecided = broken.undecided;
      none = (let same : visit.writer_after ≡ visit.writer_before = broken.unwritten in
          let bytes : visit.writer_after.bytes ≡ visit.writer_before.bytes =
          ap (λ (told : Told). told.bytes) same in cc);
      same = broken.same;
      failed = broken.failed;
    })
answers_with_its_reply registrar before after visit given answered is fresh told (inr served) =
    inr (record {
      wants = served.wants;
      is_wanted = wants_by_all visit.reader_before served.between given served.head served.at_end
          served.wants is served.reads served.is_wanted;
      replies = to_wants visit.writer_before visit.writer_after answered fresh told registrar before
          after served.between visit.reader_after visit.ended
          visit.reader_before given served.head served.wants is served.reads.gives
          (served.is_wanted [] (λ over. refl)) served.serves;
    })

pub answers_with_its_report : {D : Type 0} (registrar : Ghosts D) → AnswersWithItsReport registrar
answers_with_its_report registrar before after old between new body answered missing done fresh
    told head submits =
    let whole = submits.submits in
    let given = whole.reads.0.consumed body refl in
    let none : given.0 ≡ [] = whole.reads.1.none_left given.0 given.1 in
    let same : whole.text ≡ body =
    sym (given.2 ∙ (ap (λ xs. whole.text ++ xs) none ∙ append-nil whole.text)) in
    let all = whole.writes.appended ok_head (head.appended [] fresh) in (
      submits.tells,
      record {
        items = whole.items;
        outcomes = whole.outcomes;
        are_items = subst (λ text. AreItems (registrar.settings before).source [] (entries text)
            whole.items) same whole.are_items;
        runs = whole.runs;
        is = cc;
      },
    )
