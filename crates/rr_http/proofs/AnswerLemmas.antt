-- Lemmas on what is written after the head of a reply.
use Rattle.std.proofs.Common.{ℕ, List, [], ◌++◌, Ok, Err}
use Rattle.std.specs.Prelude.{Result}
use Rattle.rr_io.specs.Told.{Told}
use Rattle.rr_io.specs.Sending.{Takes, Writes}
use Rattle.rr_io.proofs.Transfers.{Takes-then, TakesPrefix-then}
use Rattle.rr_desk.specs.Turns.{ConnEnd}
use Rattle.rr_http.specs.Answering.{RepliesWithAnswer}

writes_after : {T E : Type 0} (old between new : Told) (head text : List ℕ) (result : Result T E) →
    Takes old between head → Writes between new text result → Writes old new (head ++ text) result
writes_after old between new head text (Ok t) p q = Takes-then head text p q
writes_after old between new head text (Err e) p q = TakesPrefix-then head text p q

-- an answer after the head of a reply
pub answered_after : {D : Type 0} (Answers : D → List ℕ → List ℕ → D → Type 0)
    (head query : List ℕ) (before after : D) (old between new : Told) (result : ConnEnd) →
    Takes old between head → RepliesWithAnswer Answers [] query before after between new result →
    RepliesWithAnswer Answers head query before after old new result
answered_after Answers head query before after old between new result p q = record {
  text = q.text;
  answers = q.answers;
  replies = record {
    writes = writes_after old between new head q.text result p q.replies.writes;
    cause = q.replies.cause;
  };
}
