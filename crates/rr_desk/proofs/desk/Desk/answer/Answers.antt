use Rattle.std.proofs.Common.{List, ℕ, Result}
use Rattle.sqlite_trees.specs.declared.store.Store.{Ghosts}
use Rattle.rr_io.specs.Sending.{Writes}
use Rattle.rr_io.specs.Told.{Told}
use Rattle.rr_answer.specs.declared.query_fault.QueryFault.{QueryFault}
use Rattle.rr_answer.specs.Answers.{answer_bytes}
use Rattle.rr_desk.specs.declared.desk_answering.Answered.{Answered}
use Rattle.rr_desk.specs.declared.desk_answering.WriteFault.{WriteFault}
use Rattle.rr_desk.specs.declared.desk.Desk.{Desk}
use Rattle.rr_desk.specs.Desks.{GivesAnswer}
use Rattle.rr_desk.specs.Histories.{AsksEvent}
use Rattle.rr_desk.specs.Histories.Happens.{query}
use Rattle.rr_desk.proofs.desk.Desk.answer.Goals as goal

-- an answer that is given is an event, and its bytes are what is written
asks : {S : Type 0} (g : Ghosts S) (desk : Desk S) (text : List ℕ)
    (answer : Result (List ℕ) QueryFault) {old new : Told} {result : Result Answered WriteFault} →
    GivesAnswer desk text answer
    → Writes old new (answer_bytes answer) result → AsksEvent g desk text old new result
asks g desk text answer gives writes = record {
  bytes = answer_bytes answer;
  happens =
      query desk text answer gives;
  writes = writes;
}

pub returns-clause-event : goal.returns-clause-event
returns-clause-event g c = asks g.S.Store _ _ _ c.found-found.ensures.gives
    c.write_found.ensures.writes
