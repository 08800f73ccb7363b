-- A query with no RETURNING leaves the database as it is, also where it fails.
use Rattle.std.proofs.Common.{◌≡◌, ◌⊎◌, false, inl, inr, ℕ, List, Option, Some, None, Ok, Err}
use Rattle.std.proofs.Common.{Result, IfOk, IfErr, IsErr, OnOk, OnErr, IsTrue, refl, sym, subst}
use Rattle.std.proofs.Common.{◌∙◌, arith}
use Rattle.sqlite_value.specs.Order.{Row}
use Rattle.sqlite_trees.specs.declared.store.Store.{Ghosts}
use Rattle.sqlite.specs.declared.error.Error.{Error}
use Rattle.sqlite_schema.specs.declared.command.Returning.{Returning}
use Rattle.sqlite.specs.Listing.{understood}
use Rattle.sqlite_schema.specs.declared.command.Command.{Command}
use Rattle.sqlite_schema.specs.declared.schema.Schema.{Schema}
use Rattle.rr_store.specs.Tables.{Layout, HasTables}
use Rattle.rr_store.specs.Queries.{IsSqlOf}
use Rattle.rr_store.specs.Entries.{TreesOf}
use Rattle.sqlite.specs.Effect.{Database}
use Rattle.rr_store.specs.Contents.{RunsOn}
use Rattle.rr_store.specs.Calls.{Looks, Rests, Transacts, WhereOpen}
use Rattle.rr_store.proofs.AddingLemmas.{survives_itself}
use Rattle.rr_store.proofs.BodyLemmas.{then_ok}
use Rattle.sqlite.specs.Held.{Held, state}
use Rattle.sqlite.specs.State.{State, HasCleanDisk, IsUnchanged, Fails, Shown, ShowsRows}
use Rattle.sqlite.specs.State.{FailsToQuery, FailsToShow, IsNotRun, IsTooLate, KeepsCommit}
use Rattle.sqlite.specs.State.{CommitsShowing, Survives}
use Rattle.sqlite.specs.Clock.{timed}
use Rattle.sqlite.proofs.Callers.{IsPlain, never_commits, unchanged_then}
use Rattle.sqlite.proofs.InsideLemmas.{unchanged_keeps}
use Rattle.sqlite.proofs.StateLemmas.{survives_then, survives_weaker}

module _ (sql : List ℕ) (params : Row) (old new : State) where
  pub shown_open : (rows : List Row) → Shown sql params old new rows → IsTrue old.is_open
  unfolding Shown
  shown_open rows h = go h.0.returning h.2
    where
      go : (o : Option Returning) → ShowsRows old new sql h.0 (timed params h.0.formats h.1.now)
          rows o → IsTrue old.is_open
      go None s = s.3.0.was_open
      go (Some what) s = s.1.shown.was_open

  pub shown_on : (rows : List Row) → Shown sql params old new rows → IsTrue new.is_open
  unfolding Shown
  shown_on rows h = go h.0.returning h.2
    where
      go : (o : Option Returning) → ShowsRows old new sql h.0 (timed params h.0.formats h.1.now)
          rows o → IsTrue new.is_open
      go None s = s.3.0.is_open
      go (Some what) s = s.1.shown.is_open

  pub shown_same : (rows : List Row) → IsPlain (understood old.now.schema sql) →
      Shown sql params old new rows → IsUnchanged old new
  unfolding Shown
  shown_same rows plain h =
      (subst (ShowsRows old new sql h.0 (timed params h.0.formats h.1.now) rows)
      (subst IsPlain h.1.is plain).0 h.2).3

  module _ (settled : IsTrue old.is_open → old.now ≡ old.committed) (on : IsTrue new.is_open) where
    fails_same : (T : Type 0) (e : Error) → Fails old new T e → new.now ≡ old.now
    fails_same T e h = let back = h.3 in (back.undone on).0 ∙ sym (settled (back.was_open on))

    unrun_same : (e : Error) → IsNotRun old new sql params e → new.now ≡ old.now
    unfolding IsNotRun
    unrun_same e (inl h) = h.1.0.now_is
    unrun_same e (inr h) = fails_same ⊥ e h

    pub failed_same : (e : Error) → FailsToQuery sql params old new e → new.now ≡ old.now
    unfolding FailsToQuery
    failed_same e (inl h) = unrun_same e h
    failed_same e (inr h) = go h.0.returning h.2
      where
        go : (o : Option Returning) → FailsToShow old new sql h.0
            (timed params h.0.formats h.1.now) e o → new.now ≡ old.now
        go None f = f.3.0.now_is
        go (Some what) (inl f) = f.1.0.now_is
        go (Some what) (inr f) = fails_same _ e f

  module _ (on : IsTrue new.is_open) where
    unrun_open : (e : Error) → IsNotRun old new sql params e → IsTrue old.is_open
    unfolding IsNotRun
    unrun_open e (inl h) = h.1.0.was_open
    unrun_open e (inr h) = h.3.was_open on

    -- a query that failed leaves a connection open only where it was
    pub failed_open : (e : Error) → FailsToQuery sql params old new e → IsTrue old.is_open
    unfolding FailsToQuery
    failed_open e (inl h) = unrun_open e h
    failed_open e (inr h) = go h.0.returning h.2
      where
        go : (o : Option Returning) → FailsToShow old new sql h.0
            (timed params h.0.formats h.1.now) e o → IsTrue old.is_open
        go None f = f.3.0.was_open
        go (Some what) (inl f) = f.1.0.was_open
        go (Some what) (inr f) = f.3.was_open on

  unrun_keeps : (e : Error) → IsNotRun old new sql params e → KeepsCommit old new
  unfolding IsNotRun
  unrun_keeps e (inl h) = unchanged_keeps old new (inl h.1)
  unrun_keeps e (inr h) = unchanged_keeps old new (inr h.3)

  -- a query that failed committed nothing
  failed_keeps : (e : Error) → FailsToQuery sql params old new e → KeepsCommit old new
  unfolding FailsToQuery
  failed_keeps e (inl h) = unrun_keeps e h
  failed_keeps e (inr h) = go h.0.returning h.2
    where
      go : (o : Option Returning) → FailsToShow old new sql h.0 (timed params h.0.formats h.1.now)
          e o → KeepsCommit old new
      go None f = unchanged_keeps old new (inl f.3)
      go (Some what) (inl f) = unchanged_keeps old new (inl f.1)
      go (Some what) (inr f) = unchanged_keeps old new (inr f.3)

  refused_keeps : (e : Error) → FailsToQuery sql params old new e ⊎ IsTooLate sql params old new e
      → KeepsCommit old new
  refused_keeps e (inl failed) = failed_keeps e failed
  refused_keeps e (inr late) = unchanged_keeps old new (inl late.5)

  pub looks : (HasCleanDisk old → IsPlain (understood old.now.schema sql)) →
      Survives old new (CommitsShowing sql params old) → Survives old new (λ _. ⊥)
  looks plain h = survives_weaker old new (CommitsShowing sql params old) (λ _. ⊥)
      (λ clean db made. never_commits sql params old db (plain (omega (arith, h.clean))) made) h

pub on_each : {X E : Type 0} (r : Result X E) (P : X → Type 0) (Q : Type 0) → IfOk r P →
    ((x : X) → P x → Q) → OnOk r Q
on_each (Ok x) P Q h f = f x h
on_each (Err e) P Q h f = tt

pub on_err : {X E : Type 0} (r : Result X E) (P : E → Type 0) (Q : Type 0) → IfErr r P →
    ((e : E) → P e → Q) → OnErr r Q
on_err (Ok x) P Q h f = tt
on_err (Err e) P Q h f = f e h

pub on_err_as : {X E P Q : Type 0} (r : Result X E) → OnErr r P → (P → Q) → OnErr r Q
on_err_as (Ok x) p f = tt
on_err_as (Err e) p f = f p

pub of_both : {X E : Type 0} (r : Result X E) (Q : Type 0) → OnOk r Q → OnErr r Q → Q
of_both (Ok x) Q h k = h
of_both (Err e) Q h k = k

-- a query in a transaction, which goes on, leaves the database as it is
module _ {X : Type 0} (items : X → List Row) (sql : List ℕ) (params : Row) (old new : State)
    (plain : IsTrue old.is_open → IsPlain (understood old.now.schema sql)) (r : Result X Error)
    (shown : IfOk r (λ x. Shown sql params old new (items x))) where
  pub asked_same : OnOk r (IsUnchanged old new)
  asked_same = on_each r _ _ shown (λ x h. shown_same sql params old new (items x)
      (plain (shown_open sql params old new (items x) h)) h)

  pub asked_step : OnOk r (RunsOn old new)
  asked_step = then_ok r asked_same (λ same. record {
    is_open = same.0.is_open;
    mode = same.0.mode;
    committed = same.0.committed_is;
  })

  pub asked_keeps : IfErr r (λ e. FailsToQuery sql params old new e ⊎ IsTooLate sql params old new
      e) → KeepsCommit old new
  asked_keeps refused =
      of_both r _ (then_ok r asked_same (λ same. unchanged_keeps old new (inl same)))
      (on_err r _ _ refused (refused_keeps sql params old new))

-- a text on the tables is plain under each schema that has them
pub plain_of : (schema : Schema) (text : List ℕ) (command : Layout → Command) →
    ((l : Layout) → IsSqlOf l text (command l)) → HasTables schema →
    IsPlain (understood schema text)
plain_of schema text command means has = subst (λ s. IsPlain (understood s text)) (sym has.is)
    (means has.layout).plain

pub each_shown : {X E : Type 0} (r : Result X E) (P : X → Type 0) (Q : Type 0) (R : X → Type 0) →
    IfOk r P → OnOk r Q → ((x : X) → Q → P x → R x) → IfOk r R
each_shown (Ok x) P Q R h k f = f x k h
each_shown (Err e) P Q R h k f = tt

-- an answer is told of the tables under which it was asked for
pub shown_of : {X : Type 0} (r : Result X Error) (items : X → List Row) (sql : List ℕ)
    (params : Row) (old new : State) (R : X → Type 0)
    → IfOk r (λ x. Shown sql params old new (items x)) →
    ((x : X) → Shown sql params old new (items x) → R x) → IfOk r R
shown_of (Ok x) items sql params old new R h f = f x h
shown_of (Err e) items sql params old new R h f = tt

module _ {S : Type 0} (g : Ghosts S) where
  pub rests_itself : (h : Held S) → h.in_transaction ≡ false → Rests g h h
  rests_itself h mode = record {
    autocommit = mode;
    opened = λ clean on. on;
    same = λ clean on.
        refl;
    crash = survives_itself (state g h);
  }

  module _ (a b c : Held S) (one : Rests g a b) (same : HasCleanDisk (state g b) →
      IsUnchanged (state g a) (state g b)) where
    -- of what was read twice, too, nothing changes
    pub rests_then : Rests g b c → Rests g a c
    rests_then two = record {
      autocommit = two.autocommit;
      opened = λ clean on. (same (omega (arith, clean, two.crash.clean))).0.was_open;
      same = λ clean on. two.same clean on
          ∙ (same (omega (arith, clean, two.crash.clean))).0.now_is;
      crash = survives_then (state g a) (state g b) (state g c) (λ _. ⊥) (λ _. ⊥) (λ _. ⊥)
          (λ _ db h. h) (λ _ db h. h) one.crash two.crash;
    }

    pub looks_then : {X E : Type 0} (r : Result X E) → Looks g b c r → Looks g a c r
    looks_then r two = record {
      rests = rests_then two.rests;
      same = λ clean. then_ok r (two.same clean) (unchanged_then (state g a) (state g b)
          (state g c) (same (omega (arith, clean, two.rests.crash.clean))));
    }

    -- a transaction after that changes what stood before
    pub writes_then : {X E : Type 0} (Change : Database → Database → Type 0) (r : Result X E) →
        Transacts g Change b c r → Transacts g Change a c r
    writes_then Change r two =
        let before : HasCleanDisk (state g c) → HasCleanDisk (state g b) = λ clean.
        omega (arith, clean, two.crash.clean) in
        record {
          autocommit = two.autocommit;
          opened = λ clean on. (same (before clean)).0.was_open;
          done = λ clean. then_ok r (two.done clean) (λ made. subst (λ d. Change d (state g c).now)
              (same (before clean)).0.now_is made);
          is_open = two.is_open;
          kept = λ clean on. on_err_as r (two.kept clean on)
              (λ is. is ∙ (same (before clean)).0.now_is);
          crash = survives_then (state g a) (state g b) (state g c) (λ _. ⊥)
              (WhereOpen g b (TreesOf (Change (state g b).now)))
              (WhereOpen g a (TreesOf (Change (state g a).now))) (λ _ db h. absurd h)
              (λ clean db made. (
                (same (before clean)).0.was_open,
                subst (λ d. TreesOf (Change d) db) (same (before clean)).0.now_is made.1,
              ))
              one.crash two.crash;
        }

  -- a call that failed before its transaction has written nothing
  pub unwritten : {X E : Type 0} (Change : Database → Database → Type 0) (a b : Held S)
      (r : Result X E) → IsErr r → Rests g a b → Transacts g Change a b r
  unwritten Change a b (Ok x) is one = absurd (let e = is in cc)
  unwritten Change a b (Err e) is one = record {
    autocommit = one.autocommit;
    opened = one.opened;
    done = λ clean. tt;
    is_open = λ clean. tt;
    kept = one.same;
    crash = survives_weaker (state g a) (state g b) (λ _. ⊥)
        (WhereOpen g a (TreesOf (Change (state g a).now))) (λ clean db h. absurd h) one.crash;
  }

  -- and after a query that failed nothing has changed
  pub rests_failed : (sql : List ℕ) (params : Row) (old new : Held S) →
      (HasCleanDisk (state g old) → IsPlain (understood old.schema sql)) →
      (IsTrue (state g old).is_open → (state g old).now ≡ (state g old).committed)
      → new.in_transaction ≡ false → (HasCleanDisk (state g new) → (e : Error) × FailsToQuery sql
      params (state g old) (state g new) e) → Survives (state g old) (state g new)
      (CommitsShowing sql params (state g old)) → Rests g old new
  rests_failed sql params old new plain settled mode failed survives = record {
    autocommit = mode;
    opened = λ clean on. let f = failed clean in failed_open sql params (state g old) (state g new)
        on f.0 f.1;
    same = λ clean on. let f = failed clean in failed_same sql params (state g old) (state g new)
        settled on f.0 f.1;
    crash = looks sql params (state g old) (state g new) plain survives;
  }
