-- Steps of a transaction, one after the other.
use Rattle.std.proofs.Common.{◌≡◌, ℕ, false, List, Ok, Err, Result, IsOk, IsTrue, OnOk, ◌∙◌, arith}
use Rattle.sqlite_value.specs.Order.{Row}
use Rattle.sqlite_trees.specs.declared.store.Store.{Ghosts}
use Rattle.sqlite.specs.declared.error.Error.{Error}
use Rattle.sqlite.specs.declared.error.Error.TheVariants.{SqliteFailure}
use Rattle.sqlite.specs.declared.error.ErrorCode.TheVariants.{TransactionState}
use Rattle.sqlite.specs.Effect.{Database}
use Rattle.sqlite.specs.State.{HasCleanDisk, Executes, ExecutesInside, State, Survives}
use Rattle.sqlite.specs.Held.{Held, state}
use Rattle.sqlite.proofs.StateLemmas.{survives_then}
use Rattle.rr_store.specs.Contents.{RunsOn}
use Rattle.rr_store.specs.StepParts.{IsOver, Step, StepWhereOpen}
use Rattle.rr_store.proofs.AddingLemmas.{keeps_then}
use Rattle.rr_store.proofs.BodyLemmas.{then_ok}
use Rattle.rr_store.proofs.CallLemmas.{did, keeps, steps}
use Rattle.rr_store.proofs.CommitLemmas.{done_so}

on_any : {X E P : Type 0} (r : Result X E) → P → OnOk r P
on_any (Ok x) p = p
on_any (Err e) p = tt

both_survive : (a b c : State) → Survives a b (λ _. ⊥) → Survives b c (λ _. ⊥) →
    Survives a c (λ _. ⊥)
both_survive a b c = survives_then a b c (λ _. ⊥) (λ _. ⊥) (λ _. ⊥) (λ _ db h. h) (λ _ db h. h)

both_go_on : (a b c : State) → RunsOn a b → RunsOn b c → RunsOn a c
both_go_on a b c one two = record {
  is_open = two.is_open;
  mode = two.mode ∙ one.mode;
  committed =
      two.committed ∙ one.committed;
}

-- a change and then another
abbrev pub Then : (Database → Database → Type 0) → (Database → Database → Type 0) → Database →
    Database → Type 0
Then First Second a c = (b : Database) × First a b × Second b c

module _ {S : Type 0} (g : Ghosts S) where
  -- a statement is a step
  pub statement_steps : (old new : Held S) (sql : List ℕ) (params : Row) (r : Result ℕ Error) →
      (old.in_transaction ≡ false → (r ≡ Err (SqliteFailure TransactionState)) × (new ≡ old))
      → (HasCleanDisk (state g new) → IsTrue old.in_transaction → ExecutesInside 0 sql params
      (state g old) (state g new) r) → Survives (state g old) (state g new) (λ _. ⊥) →
      (Seen : Database → Type 0) (Change : Database → Database → Type 0)
      → (HasCleanDisk (state g new) → (count : ℕ) → Executes sql params (state g old) (state g new)
      (Ok count) → Seen (state g old).now → Change (state g old).now (state g new).now) →
      Step g Seen Change old new r
  statement_steps old new sql params r ended runs survives Seen Change each = record {
    made = λ over clean. did g old new sql params r ended (runs clean)
        (Change (state g old).now (state g new).now)
        (λ count ran on. each clean count ran (over (omega (arith, clean, survives.clean)) on));
    goes_on = λ clean. steps g old new sql params r ended (runs clean);
    kept = λ clean. keeps g old new sql params r ended (runs clean);
    survives = survives;
  }

  -- a step that succeeded is one, whatever it is called
  pub steps_ok : {a b : Held S} {Seen : Database → Type 0} {Change : Database → Database → Type 0}
      {X E Y F : Type 0} {p : Result X E} (q : Result Y F) → Step g Seen Change a b p → IsOk p →
      Step g Seen Change a b q
  steps_ok {p = p} q h is = record {
    made = λ over clean. on_any q (done_so p is (h.made over clean));
    goes_on = λ clean. on_any q (done_so p is (h.goes_on clean));
    kept = h.kept;
    survives =
        h.survives;
  }

  -- a step over one database is a step over each that is such
  pub steps_over : {a b : Held S} {Seen Other : Database → Type 0}
      {Change : Database → Database → Type 0} {X E : Type 0} {p : Result X E} →
      (IsOver g Other a → IsOver g Seen a) → Step g Seen Change a b p → Step g Other Change a b p
  steps_over such h = record {
    made = λ over. h.made (such over);
    goes_on = h.goes_on;
    kept = h.kept;
    survives = h.survives;
  }

  -- a step after one that succeeded
  pub steps_then : {a b c : Held S} {Seen Next : Database → Type 0}
      {First Second Both : Database → Database → Type 0}
      {X E Y F : Type 0} {p : Result X E} {q : Result Y F} → Step g Seen First a b p →
      Step g Next Second b c q → IsOk p
      → (HasCleanDisk (state g b) → IsTrue (state g b).is_open → First (state g a).now
      (state g b).now → Next (state g b).now)
      → (HasCleanDisk (state g c) → First (state g a).now (state g b).now → Second (state g b).now
      (state g c).now → Both (state g a).now (state g c).now) → Step g Seen Both a c q
  steps_then {a = a} {b = b} {c = c} {p = p} {q = q} one two is next both =
      let earlier : HasCleanDisk (state g c) → HasCleanDisk (state g b) = λ clean.
      omega (arith, two.survives.clean) in
      record {
        made = λ over clean.
            let first = done_so p is (one.made over (earlier clean)) in
            then_ok q (two.made (λ mid on. next mid on first) clean) (both clean first);
        goes_on = λ clean. then_ok q (two.goes_on clean)
            (both_go_on (state g a) (state g b) (state g c)
            (done_so p is (one.goes_on (earlier clean))));
        kept = λ clean. keeps_then (state g a) (state g b) (state g c) (one.kept (earlier clean))
            (two.kept clean);
        survives = both_survive (state g a) (state g b) (state g c) one.survives two.survives;
      }

  pub steps_both : {a b c : Held S} {Seen Next : Database → Type 0}
      {First Second : Database → Database → Type 0}
      {X E Y F : Type 0} {p : Result X E} {q : Result Y F} → Step g Seen First a b p →
      Step g Next Second b c q → IsOk p
      → (HasCleanDisk (state g b) → IsTrue (state g b).is_open → First (state g a).now
      (state g b).now → Next (state g b).now) → Step g Seen (Then First Second) a c q
  steps_both {b = b} one two is next = steps_then one two is next (λ clean first second.
      ((state g b).now, first, second))

  -- and some after it, which find the connection open
  pub steps_more : {a b c : Held S} {Seen Next : Database → Type 0}
      {First Second Both : Database → Database → Type 0}
      {X E Y F : Type 0} {p : Result X E} {q : Result Y F} → Step g Seen First a b p →
      StepWhereOpen g Next Second b c q → IsOk p
      → (HasCleanDisk (state g b) → IsTrue (state g b).is_open → First (state g a).now
      (state g b).now → Next (state g b).now)
      → (HasCleanDisk (state g c) → First (state g a).now (state g b).now → Second (state g b).now
      (state g c).now → Both (state g a).now (state g c).now) → Step g Seen Both a c q
  steps_more {a = a} {b = b} {c = c} {p = p} {q = q} one two is next both =
      let earlier : HasCleanDisk (state g c) → HasCleanDisk (state g b) = λ clean.
      omega (arith, two.survives.clean) in
      record {
        made = λ over clean.
            let first = done_so p is (one.made over (earlier clean)) in
            then_ok q (two.made (λ mid on. next mid on first) clean
            (done_so p is (one.goes_on (earlier clean))).is_open) (both clean first);
        goes_on = λ clean. let on = done_so p is (one.goes_on (earlier clean)) in
            then_ok q (two.goes_on clean on.is_open) (both_go_on (state g a) (state g b)
            (state g c) on);
        kept = λ clean. keeps_then (state g a) (state g b) (state g c) (one.kept (earlier clean))
            (two.kept clean);
        survives = both_survive (state g a) (state g b) (state g c) one.survives two.survives;
      }
