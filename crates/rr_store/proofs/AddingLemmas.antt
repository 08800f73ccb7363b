-- Rows of `named` that are added one after the other, or taken out.
use Rattle.std.proofs.Common.{◌≡◌, inl, ℕ, Bool, true, false, cond, not, ◌||◌, List, [], ◌∷◌, ◌++◌}
use Rattle.std.proofs.Common.{filter, IsTrue, refl, sym, ap, ◌∙◌, arith, append_assoc}
use Rattle.std.proofs.lemmas.List.Folds.{list_any-append}
use Rattle.std.proofs.lemmas.List.Sorted.{IsPermutation-refl, IsPermutation-cons}
use Rattle.std.proofs.lemmas.List.Sorted.{IsPermutation-trans, IsPermutation-middle}
use Rattle.sqlite_value.specs.Order.{Row}
use Rattle.sqlite_trees.specs.declared.store.Store.{Ghosts}
use Rattle.sqlite.specs.State.{State, HasCleanDisk, KeepsCommit, Survives}
use Rattle.sqlite.specs.Held.{Held, state}
use Rattle.sqlite.proofs.StateLemmas.{survives_then}
use Rattle.rr_store.specs.Contents.{IsTidy, Alters, Adds, RunsOn, RemovesRows, is_name_among}
use Rattle.rr_store.specs.Contents.{is_name_of}
use Rattle.rr_store.specs.StepParts.{IsOver}
use Rattle.rr_store.proofs.OtherLemmas.{others_itself, others_then}

-- the rows of `named` were altered in a transaction that goes on
pub record HasAltered {S : Type 0} (g : Ghosts S) (old new : Held S) (Change : List Row →
    List Row → Type 0) : Type 0 where
  pub done : IsOver g IsTidy old → HasCleanDisk (state g new) → IsTrue (state g old).is_open →
      Alters (state g old).now (state g new).now 4 Change
  pub step : HasCleanDisk (state g new) → IsTrue (state g old).is_open → RunsOn (state g old)
      (state g new)
  pub kept : HasCleanDisk (state g new) → KeepsCommit (state g old) (state g new)
  pub survives : Survives (state g old) (state g new) (λ _. ⊥)

pub keeps_itself : (s : State) → KeepsCommit s s
keeps_itself s = record { was_open = λ h. h; committed = λ h. refl }

pub survives_itself : (s : State) → Survives s s (λ _. ⊥)
survives_itself s = record {
  clean = omega arith;
  shield = λ h. h;
  counts = omega arith;
  limit =
      refl;
  closes = λ clean h. inl h;
  crash = λ clean db h. inl h;
}

pub keeps_then : (a b c : State) → KeepsCommit a b → KeepsCommit b c → KeepsCommit a c
keeps_then a b c p q = record {
  was_open = λ h. p.was_open (q.was_open h);
  committed = λ h.
      q.committed h ∙ p.committed (q.was_open h);
}

none_altered : {S : Type 0} (g : Ghosts S) (old : Held S) (Change : List Row → List Row → Type 0) →
    ((rows : List Row) → Change rows rows) → HasAltered g old old Change
none_altered g old Change none = record {
  done = λ over clean on. record {
    tidy = over clean on;
    change = none _;
    meta = λ _. refl;
    object =
        λ _. refl;
    named = λ _. refl;
    others = others_itself _;
  };
  step = λ clean on. record { is_open = on; mode = refl; committed = refl };
  kept = λ clean. keeps_itself (state g old);
  survives = survives_itself (state g old);
}

altered_more : {S : Type 0} (g : Ghosts S) (old mid new : Held S) (First Second Both : List Row →
    List Row → Type 0) → ((a b c : List Row) → First a b → Second b c → Both a c) →
    HasAltered g old mid First
    → (IsOver g IsTidy mid → HasCleanDisk (state g new) → Alters (state g mid).now
    (state g new).now 4 Second) →
    (HasCleanDisk (state g new) → RunsOn (state g mid) (state g new))
    → (HasCleanDisk (state g new) → KeepsCommit (state g mid) (state g new)) →
    Survives (state g mid) (state g new) (λ _. ⊥) → HasAltered g old new Both
altered_more g old mid new First Second Both joined had alters step kept survives =
    let earlier : HasCleanDisk (state g new) → HasCleanDisk (state g mid) = λ clean.
    omega (arith, survives.clean) in
    record {
      done = λ over clean on.
          let one = had.done over (earlier clean) on in
          let two = alters (λ mid on. one.tidy) clean in
          record {
            tidy = two.tidy;
            change = joined _ _ _ one.change two.change;
            meta = λ h. two.meta h ∙ one.meta h;
            object = λ h. two.object h ∙ one.object h;
            named = λ h. two.named h ∙ one.named h;
            others = others_then _ _ _ one.others two.others;
          };
      step = λ clean on. let one = had.step (earlier clean) on in let two = step clean in
          record {
            is_open = two.is_open;
            mode = two.mode ∙ one.mode;
            committed = two.committed
                ∙ one.committed;
          };
      kept = λ clean. keeps_then (state g old) (state g mid) (state g new)
          (had.kept (earlier clean)) (kept clean);
      survives = survives_then (state g old) (state g mid) (state g new) (λ _. ⊥) (λ _. ⊥) (λ _. ⊥)
          (λ _ db h. h) (λ _ db h. h) had.survives survives;
    }

-- ---- added

pub none_added : {S : Type 0} (g : Ghosts S) (old : Held S) → HasAltered g old old (Adds [])
none_added g old = none_altered g old (Adds []) (λ rows. IsPermutation-refl rows)

one_more : (rows : List Row) (row : Row) (before mid after : List Row) → Adds rows before mid →
    Adds (row ∷ []) mid after → Adds (rows ++ row ∷ []) before after
one_more rows row before mid after first last =
    rw append_assoc (IsPermutation-trans _ _ _ (IsPermutation-middle rows row before)
    (IsPermutation-trans _ _ _ (IsPermutation-cons row _ _ first) last))

pub added_more : {S : Type 0} (g : Ghosts S) (old mid new : Held S) (rows : List Row) (row : Row) →
    HasAltered g old mid (Adds rows)
    → (IsOver g IsTidy mid → HasCleanDisk (state g new) → Alters (state g mid).now
    (state g new).now 4 (Adds (row ∷ [])))
    → (HasCleanDisk (state g new) → RunsOn (state g mid) (state g new))
    → (HasCleanDisk (state g new) → KeepsCommit (state g mid) (state g new)) →
    Survives (state g mid) (state g new) (λ _. ⊥) → HasAltered g old new
    (Adds (rows ++ row ∷ []))
added_more g old mid new rows row = altered_more g old mid new (Adds rows) (Adds (row ∷ []))
    (Adds (rows ++ row ∷ [])) (one_more rows row)

-- ---- taken out

all_kept : (rows : List Row) → rows ≡ filter (λ row. true) rows
all_kept [] = refl
all_kept (row ∷ rows) = ap (λ l. row ∷ l) (all_kept rows)

-- what the first test leaves and then the second is what either leaves
left_by_both : (p q r : Row → Bool) → ((row : Row) → r row ≡ (p row || q row)) →
    (rows : List Row) → filter (λ row. not (r row)) rows ≡ filter (λ row. not (q row))
    (filter (λ row. not (p row)) rows)
left_by_both p q r either [] = refl
left_by_both p q r either (row ∷ rows) =
    let rest = left_by_both p q r either rows in
    let both = filter (λ x. not (r x)) rows in
    let first = filter (λ x. not (p x)) rows in
    let second = filter (λ x. not (q x)) first in
    ap (λ b. cond (not b) (row ∷ both) both) (either row)
    ∙ (elim (p row) as (λ b. cond (not (b || q row)) (row ∷ both) both ≡ filter (λ x. not (q x))
    (cond (not b) (row ∷ first) first)) [
      | true ↦ rest
      | false ↦
          (elim (q row) as (λ b. cond (not b) (row ∷ both) both ≡ cond (not b) (row ∷ second)
          second) [ true ↦ rest | false ↦ ap (λ l. row ∷ l) rest ])
    ])

or_not : (b : Bool) → (b || false) ≡ b
or_not true = refl
or_not false = refl

module _ (class : ℕ) (key : List ℕ) where
  pub none_removed : {S : Type 0} (g : Ghosts S) (old : Held S) →
      HasAltered g old old (RemovesRows (is_name_among class key []))
  none_removed g old = none_altered g old (RemovesRows (is_name_among class key [])) all_kept

  one_less : (names : List (List ℕ)) (name : List ℕ) (before mid after : List Row) →
      RemovesRows (is_name_among class key names) before mid →
      RemovesRows (is_name_of class key name) mid
      after
      → RemovesRows (is_name_among class key (names ++ name ∷ [])) before after
  one_less names name before mid after first last =
      last
      ∙ ap (filter (λ row. not (is_name_of class key name row))) first
      ∙ sym (left_by_both (is_name_among class key names) (is_name_of class key name)
      (is_name_among class key (names ++ name ∷ []))
      (λ row. list_any-append (λ n. is_name_of class key n row) names (name ∷ [])
      ∙ ap (λ b. is_name_among class key names row || b)
      (or_not (is_name_of class key name row))) before)

  pub removed_more : {S : Type 0} (g : Ghosts S) (old mid new : Held S) (names : List (List ℕ))
      (name : List ℕ) → HasAltered g old mid (RemovesRows (is_name_among class key names))
      → (IsOver g IsTidy mid → HasCleanDisk (state g new) → Alters (state g mid).now
      (state g new).now 4 (RemovesRows (is_name_of class key name))) →
      (HasCleanDisk (state g new) → RunsOn (state g mid) (state g new))
      → (HasCleanDisk (state g new) → KeepsCommit (state g mid) (state g new)) →
      Survives (state g mid) (state g new) (λ _. ⊥) → HasAltered g old new
      (RemovesRows (is_name_among class key (names ++ name ∷ [])))
  removed_more g old mid new names name = altered_more g old mid new
      (RemovesRows (is_name_among class key names)) (RemovesRows (is_name_of class key name))
      (RemovesRows (is_name_among class key (names ++ name ∷ []))) (one_less names name)
