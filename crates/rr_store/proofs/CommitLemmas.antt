-- What a transaction leaves once it has ended, and what a stop during it may leave.
use Rattle.std.proofs.Common.{◌≡◌, true, false, Ok, Err, Result, IsOk, IsErr, OnOk, OnErr, IsTrue}
use Rattle.std.proofs.Common.{sym, ap, subst, ◌∙◌, arith}
use Rattle.sqlite_trees.specs.declared.store.Store.{Ghosts}
use Rattle.sqlite.specs.Effect.{Database}
use Rattle.sqlite.specs.State.{HasCleanDisk, KeepsCommit, Survives}
use Rattle.sqlite.specs.Held.{Held, state}
use Rattle.sqlite.proofs.Callers.{survives_begin}
use Rattle.sqlite.proofs.StateLemmas.{survives_then, survives_weaker}
use Rattle.rr_store.specs.Contents.{RunsOn}
use Rattle.rr_store.specs.Entries.{TreesOf}
use Rattle.rr_store.specs.Calls.{Transacts, WhereOpen}
use Rattle.rr_store.specs.StepParts.{EndsWork, IsOver, Step}
use Rattle.rr_store.proofs.BodyLemmas.{then_ok}
use Rattle.rr_store.proofs.LookLemmas.{of_both, on_err_as}

pub done_so : {X E P : Type 0} (r : Result X E) → IsOk r → OnOk r P → P
done_so (Ok x) is p = p
done_so (Err e) is p = absurd (let e = is in cc)

module _ {S X Y E F : Type 0} (g : Ghosts S) (old begun mid new : Held S) (work : Result X E)
    (result : Result Y F) (Change : Database → Database → Type 0)
    (begins : begun ≡ record old { in_transaction = true })
    (made : HasCleanDisk (state g mid) → OnOk work (Change (state g begun).now (state g mid).now))
    (last : Survives (state g mid) (state g new)
    (λ trees. IsOk work × (trees ≡ (state g mid).now.trees))) where
  changed : HasCleanDisk (state g new) → IsOk work → Change (state g old).now (state g mid).now
  changed clean is = subst (λ h. Change (state g h).now (state g mid).now) begins
      (done_so work is (made (omega (arith, last.clean))))

  -- what the work made stands where its end succeeds
  pub ended_ok : OnOk result (IsOk work) →
      (HasCleanDisk (state g new) → OnOk result ((state g new).now ≡ (state g mid).now)) →
      HasCleanDisk (state g new) → OnOk result (Change (state g old).now (state g new).now)
  ended_ok done same clean = go result done (same clean)
    where
      go : (q : Result Y F) → OnOk q (IsOk work) → OnOk q ((state g new).now ≡ (state g mid).now) →
          OnOk q (Change (state g old).now (state g new).now)
      go (Ok x) is one = subst (Change (state g old).now) (sym one) (changed clean is)
      go (Err e) is one = tt

  module _ (first : Survives (state g begun) (state g mid) (λ _. ⊥))
      (kept : HasCleanDisk (state g mid) → KeepsCommit (state g begun) (state g mid))
      (goes_on : HasCleanDisk (state g mid) → OnOk work (RunsOn (state g begun) (state g mid)))
      (settled : IsTrue (state g old).is_open → (state g old).now ≡ (state g old).committed)
      (autocommit : new.in_transaction ≡ false) (done : OnOk result (IsOk work))
      (ok : HasCleanDisk (state g new) → OnOk result ((state g new).now ≡ (state g mid).now))
      (is_open : HasCleanDisk (state g new) → OnOk result (IsTrue (state g new).is_open))
      (was_open : HasCleanDisk (state g new) → OnOk result (IsTrue (state g mid).is_open))
      (err : HasCleanDisk (state g new) → IsTrue (state g new).is_open →
      OnErr result (((state g new).now ≡ (state g mid).committed)
      × IsTrue (state g mid).is_open)) where
    earlier : HasCleanDisk (state g new) → HasCleanDisk (state g mid)
    earlier clean = omega (arith, last.clean)

    open_from : HasCleanDisk (state g new) → IsTrue (state g mid).is_open →
        IsTrue (state g old).is_open
    open_from clean on = subst (λ h. IsTrue (state g h).is_open) begins
        ((kept (earlier clean)).was_open on)

    -- work that was done was done over a connection that was open
    worked_open : HasCleanDisk (state g new) → IsOk work → IsTrue (state g old).is_open
    worked_open clean is = open_from clean (done_so work is (goes_on (earlier clean))).is_open

    -- and then a stop may leave what it made
    ended_survives : Survives (state g old) (state g new)
        (WhereOpen g old (TreesOf (Change (state g old).now)))
    ended_survives =
        survives_begin g old (state g new) (WhereOpen g old (TreesOf (Change (state g old).now)))
        (survives_then (state g (record old { in_transaction = true })) (state g mid) (state g new)
        (λ _. ⊥) (λ trees. IsOk work × (trees ≡ (state g mid).now.trees))
        (WhereOpen g old (TreesOf (Change (state g old).now))) (λ clean db none. absurd none)
        (λ clean db is. (worked_open clean is.0, ((state g mid).now, changed clean is.0, is.1)))
        (subst (λ h. Survives (state g h) (state g mid) (λ _. ⊥)) begins first) last)

    back : HasCleanDisk (state g new) → ((state g new).now ≡ (state g mid).committed)
        × IsTrue (state g mid).is_open → (state g new).now ≡ (state g old).now
    back clean both =
        let as_before : (state g begun).committed ≡ (state g old).committed =
        ap (λ h. (state g h).committed) begins in
        both.0 ∙ ((kept (earlier clean)).committed both.1
        ∙ (as_before ∙ sym (settled (open_from clean both.1))))

    -- a transaction writes what its work made
    pub ended_writes : Transacts g Change old new result
    ended_writes = record {
      autocommit = autocommit;
      opened = λ clean on.
          open_from clean
          (of_both result _ (was_open clean) (on_err_as result (err clean on) (λ both. both.1)));
      done = ended_ok done ok;
      is_open = is_open;
      kept = λ clean on. on_err_as result (err clean on) (back clean);
      crash = ended_survives;
    }

-- what is true of a database is true of it when a transaction has begun
pub begun_over : {S : Type 0} (g : Ghosts S) (old begun : Held S) (Seen : Database → Type 0) →
    begun ≡ record old { in_transaction = true } → IsOver g Seen old → IsOver g Seen begun
begun_over g old begun Seen begins = subst (IsOver g Seen) (sym begins)

-- a transaction writes what its one step made
pub transacted : {S X Y E F : Type 0} (g : Ghosts S) (old begun mid new : Held S)
    (work : Result X E) (result : Result Y F) (Seen : Database → Type 0)
    (Change : Database → Database → Type 0) →
    begun ≡ record old { in_transaction = true } → IsOver g Seen old →
    Step g Seen Change begun mid work → EndsWork g mid new work result →
    (IsTrue (state g old).is_open → (state g old).now ≡ (state g old).committed) →
    Transacts g Change old new result
transacted g old begun mid new work result Seen Change begins over step ends settled =
    ended_writes g old begun mid new work result Change begins
    (step.made (begun_over g old begun Seen begins over)) ends.survives step.survives
    step.kept step.goes_on settled ends.autocommit ends.done ends.ok ends.is_open ends.was_open
    ends.err

module _ {S : Type 0} (g : Ghosts S) (old new : Held S) (P Q : Database → Database → Type 0) where
  -- and what is written, too
  pub writes_as : {X E : Type 0} (r : Result X E) → (HasCleanDisk (state g new) → (db : Database) →
      P (state g old).now db → Q (state g old).now db) → Transacts g P old new r →
      Transacts g Q old new r
  writes_as r follows w = record {
    autocommit = w.autocommit;
    opened = w.opened;
    done = λ clean. then_ok r (w.done clean) (follows clean (state g new).now);
    is_open = w.is_open;
    kept = w.kept;
    crash = survives_weaker (state g old) (state g new)
        (WhereOpen g old (TreesOf (P (state g old).now)))
        (WhereOpen g old (TreesOf (Q (state g old).now))) (λ clean trees left.
        (left.0, (left.1.0, follows clean left.1.0 left.1.1, left.1.2))) w.crash;
  }

  -- what failed has, whatever it is called
  pub writes_failed : {X E Y F : Type 0} (r : Result X E) (q : Result Y F) → IsErr r → IsErr q →
      Transacts g P old new r → Transacts g P old new q
  writes_failed (Ok x) q is_r is_q w = absurd (let e = is_r in cc)
  writes_failed (Err e) (Ok y) is_r is_q w = absurd (let e = is_q in cc)
  writes_failed (Err e) (Err f) is_r is_q w = record {
    autocommit = w.autocommit;
    opened = w.opened;
    done = λ clean. tt;
    is_open = λ clean. tt;
    kept = w.kept;
    crash = w.crash;
  }

  pub writes_ok : {X E Y F : Type 0} (x : X) (r : Result X E) (y : Y) (q : Result Y F) → r ≡ Ok x →
      q ≡ Ok y → Transacts g P old new r → Transacts g P old new q
  writes_ok x r y q is_r is_q w = record {
    autocommit = w.autocommit;
    opened = w.opened;
    done = λ clean. rw is_q (rw is_r at (w.done clean));
    is_open = λ clean. rw is_q (rw is_r at (w.is_open clean));
    kept = λ clean on. rw is_q tt;
    crash = w.crash;
  }
