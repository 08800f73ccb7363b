-- What serving a connection leaves of a registrar.
use Rattle.std.proofs.Common.{◌≡◌, ℕ, Bool, List, inl, inr, refl, sym, subst, drop}
use Rattle.rr_io.specs.Told.{Told}
use Rattle.rr_desk.specs.Turns.{ConnEnd, Visit}
use Rattle.rr_http.specs.declared.body_reading.BodyEnd.{BodyEnd}
use Rattle.rr_http.specs.declared.registrar.Registrar.{Ghosts}
use Rattle.rr_http.specs.Answering.{AnswersQuery}
use Rattle.rr_http.specs.Registrars.{Leaves}
use Rattle.rr_http.specs.Requests.{Asks, refused, submission, query, dump}
use Rattle.rr_http.specs.Serving.{ServesAsks, ServesBody, ServesWants, SubmitsRead}
use Rattle.rr_http.specs.Wants.{Wants, whois, http}

-- a registrar to which nothing was done
pub still_leaves : {D : Type 0} (registrar : Ghosts D) →
    ((desk : D) → registrar.ledger.Lasts desk desk) → (desk : D) →
    Leaves registrar.ledger registrar.settings desk desk
still_leaves registrar still desk = record { lasts = still desk; same_settings = refl }

module _ {D : Type 0} (registrar : Ghosts D) (still : (desk : D) → registrar.ledger.Lasts desk desk)
    (answered : (before : D) (query text : List ℕ) (after : D) →
    registrar.Answers before query text after →
    Leaves registrar.ledger registrar.settings before after)
    (before after : D) where
  same_leaves : after ≡ before → Leaves registrar.ledger registrar.settings before after
  same_leaves same = subst (λ desk. Leaves registrar.ledger registrar.settings before desk)
      (sym same) (still_leaves registrar still before)

  query_leaves : (stopped : Bool) (text : List ℕ) (old new : Told) (result : ConnEnd) →
      AnswersQuery registrar.Answers stopped text before after old new result →
      Leaves registrar.ledger registrar.settings before after
  query_leaves stopped text old new result (inl turned) = same_leaves turned.1.same
  query_leaves stopped text old new result (inr (running, inl cut)) = same_leaves cut.1
  query_leaves stopped text old new result (inr (running, inr told)) =
      answered before text told.text after told.answers

  submission_leaves : (body : List ℕ) (size : ℕ) (end : BodyEnd) (old new : Told)
      (result : ConnEnd) → SubmitsRead registrar body size end before after old new result →
      Leaves registrar.ledger registrar.settings before after
  submission_leaves body size end old new result (inl unsubmitted) = same_leaves unsubmitted.same
  submission_leaves body size end old new result (inr submitted) = submitted.leaves.leaves

  body_leaves : (buffered : List ℕ) (size : ℕ) (visit : Visit) →
      ServesBody registrar buffered size before after visit →
      Leaves registrar.ledger registrar.settings before after
  body_leaves buffered size visit (inl (inl stopped)) = same_leaves stopped.unavailable.same
  body_leaves buffered size visit (inl (inr none)) = same_leaves none.unavailable.same
  body_leaves buffered size visit (inr taken) =
      submission_leaves taken.body size taken.end _ _ _ taken.submits

  asks_leave : (buffered : List ℕ) (asks : Asks) (visit : Visit) →
      ServesAsks registrar buffered asks before after visit →
      Leaves registrar.ledger registrar.settings before after
  asks_leave buffered (refused refusal) visit it = same_leaves it.0.same
  asks_leave buffered (submission size) visit it = body_leaves buffered size visit it
  asks_leave buffered (query escaped) visit it = query_leaves _ _ _ _ _ it.1
  asks_leave buffered dump visit it = same_leaves it.0.same

  -- what is left of a registrar where what a connection wants was done
  pub wants_leave : (head : List ℕ) (wants : Wants) (visit : Visit) →
      ServesWants registrar head wants before after visit →
      Leaves registrar.ledger registrar.settings before after
  wants_leave head (whois text) visit it = answered before text it.1.text after it.1.answers
  wants_leave head (http place asks) visit it = asks_leave (drop place head) asks visit it
