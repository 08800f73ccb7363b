-- What the calls of a transaction leave of a connection.
use Rattle.std.proofs.Common.{◌≡◌, inl, inr, ℕ, false, List, Ok, Err, Result, IsTrue, OnOk, refl}
use Rattle.std.proofs.Common.{sym, subst, ◌∙◌}
use Rattle.std.proofs.lemmas.Bool.{cases_Bool}
use Rattle.sqlite_value.specs.Order.{Row}
use Rattle.sqlite_trees.specs.declared.store.Store.{Ghosts}
use Rattle.sqlite.specs.declared.error.Error.{Error}
use Rattle.sqlite.specs.declared.error.Error.TheVariants.{SqliteFailure}
use Rattle.sqlite.specs.declared.error.ErrorCode.TheVariants.{TransactionState}
use Rattle.sqlite.specs.State.{State, IsUnchanged, KeepsCommit, Executes, ExecutesInside}
use Rattle.sqlite.specs.Held.{Held, state}
use Rattle.rr_store.specs.Contents.{RunsOn}

unchanged_keeps : (old new : State) → IsUnchanged old new → KeepsCommit old new
unchanged_keeps old new same = record {
  was_open = λ _. same.0.was_open;
  committed = λ _.
      same.0.committed_is;
}

kept_inside : (sql : List ℕ) (params : Row) (old new : State) (r : Result ℕ Error) →
    ExecutesInside 0 sql params old new r → KeepsCommit old new
kept_inside sql params old new (Ok count) h = record {
  was_open = λ _. h.1.was_open;
  committed =
      λ _. h.1.committed_is;
}
kept_inside sql params old new (Err e) (inl (ran, inl same)) = unchanged_keeps old new same
kept_inside sql params old new (Err e) (inl (ran, inr back)) =
    record { was_open = back.was_open; committed = λ h. (back.undone h).1 }
kept_inside sql params old new (Err e) (inr refused) = unchanged_keeps old new refused.2

module _ {S : Type 0} (g : Ghosts S) (old new : Held S) (sql : List ℕ) (params : Row)
    (r : Result ℕ Error)
    (ended : old.in_transaction ≡ false → (r ≡ Err (SqliteFailure TransactionState)) × (new ≡ old))
    (runs : IsTrue old.in_transaction → ExecutesInside 0 sql params (state g old) (state g new)
    r) where
  pub keeps : KeepsCommit (state g old) (state g new)
  keeps = elim (cases_Bool old.in_transaction) [
    | inl on ↦ kept_inside sql params (state g old) (state g new) r (runs on)
    | inr off ↦ subst (λ h. KeepsCommit (state g old) (state g h)) (sym (ended off).1)
        (record { was_open = λ h. h; committed = λ h. refl })
  ]

  inside : (count : ℕ) → r ≡ Ok count → IsTrue old.in_transaction
  inside count is = elim (cases_Bool old.in_transaction) [
    | inl on ↦ on
    | inr off ↦
        absurd (let e = (ended off).0 in cc)
  ]

  -- what a statement that succeeded did
  pub did : (P : Type 0) → ((count : ℕ) → Executes sql params (state g old) (state g new)
      (Ok count) → IsTrue (state g old).is_open → P) → OnOk r P
  did P each = go r refl
    where
      go : (q : Result ℕ Error) → r ≡ q → OnOk q P
      go (Err e) is = tt
      go (Ok count) is = let h = subst (ExecutesInside 0 sql params (state g old) (state g new)) is
          (runs (inside count is)) in each count h.0 h.1.was_open

  pub steps : OnOk r (RunsOn (state g old) (state g new))
  steps = go r refl
    where
      go : (q : Result ℕ Error) → r ≡ q → OnOk q (RunsOn (state g old) (state g new))
      go (Err e) is = tt
      go (Ok count) is =
          let on = inside count is in
          let h = subst (ExecutesInside 0 sql params (state g old) (state g new)) is (runs on) in
          record { is_open = h.1.is_open; mode = h.1.mode ∙ sym on; committed = h.1.committed_is }
