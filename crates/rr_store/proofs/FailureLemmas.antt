-- Why a reading of rows one at a time failed.
use Rattle.std.proofs.Common.{◌≡◌, ◌≢◌, inl, inr, ℕ, true, List, [], ◌∷◌, ◌++◌, Ok, Err, Result}
use Rattle.std.proofs.Common.{IfErr, map, sym, subst, arith, IsPermutation}
use Rattle.std.proofs.lemmas.List.Sorted.{IsPermutation-map, IsPermutation-sym}
use Rattle.std.specs.List.{AllByRecursion}
use Rattle.sqlite_value.specs.Order.{Row}
use Rattle.sqlite_trees.specs.declared.error.StoreError.TheVariants.{OutOfMemory}
use Rattle.sqlite_trees.specs.declared.store.Store.{Ghosts}
use Rattle.sqlite_trees.specs.Tree.{rowid, IsAscending}
use Rattle.sqlite_trees.specs.View.{is_int}
use Rattle.sqlite_schema.specs.declared.command.Command.TheVariants.{Select}
use Rattle.sqlite_schema.specs.declared.program.Program.{Program}
use Rattle.sqlite_schema.specs.Program.{lets_of}
use Rattle.sqlite.specs.declared.error.Error.{Error}
use Rattle.sqlite.specs.Effect.{Database}
use Rattle.sqlite.specs.Given.{FailsToAdvance}
use Rattle.sqlite.specs.Held.{Held, state}
use Rattle.sqlite.specs.State.{State, FailsToQuery, HasCleanDisk, IsUnchanged, Shown, Survives}
use Rattle.sqlite.proofs.Callers.{unchanged_then}
use Rattle.sqlite.proofs.StateLemmas.{survives_then}
use Rattle.rr_store.specs.Contents.{AreNumbered, IsInRank, IsTidy, by_one, number}
use Rattle.rr_store.specs.Queries.{IsSqlOf}
use Rattle.rr_store.specs.Tables.{HasTables, Layout}
use Rattle.rr_store.proofs.NumberLemmas.{keyed_by}
use Rattle.rr_store.specs.Calls.{FailsFor, FailsOverTidy, IsCaused}
use Rattle.rr_store.specs.Opening.{IfStore}
use Rattle.rr_store.specs.StreamParts.{FailsToCount, FailsAfterRows}
use Rattle.rr_store.specs.declared.store_fault.OpenFault.{OpenFault}
use Rattle.rr_store.specs.declared.store_fault.OpenFault.TheVariants.{Store}
use Rattle.rr_store.proofs.CauseLemmas.{IsTold, caused_then, fails_then, tidy_then}
use Rattle.rr_store.proofs.StreamLemmas.{Begins, HasRead, begun_answer}

all_numbers : (P : Row → Type 0) (rows : List Row) → AllByRecursion (λ r. P (number r)) rows →
    AllByRecursion P (map number rows)
all_numbers P [] h = tt
all_numbers P (x ∷ xs) h = (h.0, all_numbers P xs h.1)

apart_numbers : (rows : List Row) → IsAscending (λ a b. rowid a ≢ rowid b) rows →
    IsAscending (λ a b. rowid a ≢ rowid b) (map number rows)
apart_numbers [] h = tt
apart_numbers (x ∷ xs) h = (all_numbers (λ r. rowid x ≢ rowid r) xs h.0, apart_numbers xs h.1)

-- the list of the numbers of rows has these for its own
keyed_numbers : (rows : List Row) → AreNumbered rows → AreNumbered (map number rows)
keyed_numbers rows keyed = record {
  apart = apart_numbers rows keyed.apart;
  numbered =
      all_numbers (λ r. is_int (rowid r) ≡ true) rows keyed.numbered;
}

-- in any order
keyed_answer : (rows answer : List Row) → IsPermutation (map number rows) answer →
    AreNumbered rows → AreNumbered answer
keyed_answer rows answer same keyed =
    keyed_by answer (map number (map number rows))
    (IsPermutation-map number answer (map number rows) (IsPermutation-sym _ _ same))
    (keyed_numbers (map number rows) (keyed_numbers rows keyed))

module _ {S : Type 0} (g : Ghosts S) where
  module _ (old mid new : Held S) (P : List Row → Type 0) (had : HasRead g old mid P)
      (clean : HasCleanDisk (state g mid)) (error : Error) where
    -- the move to the next row failed
    pub failed_after : FailsToAdvance g mid new error → FailsAfterRows g old new error
    failed_after failed sql params given was =
        let r = had.rows clean in (
          mid,
          had.same clean,
          had.survives,
          failed sql params (given ++ r.0)
              (r.1 sql params given was),
        )

    -- or the reading of some rows
    pub failed_within : FailsAfterRows g mid new error → FailsAfterRows g old new error
    failed_within failed sql params given was =
        let r = had.rows clean in
        let it = failed sql params (given ++ r.0) (r.1 sql params given was) in (
          it.0,
          unchanged_then (state g old) (state g mid) (state g it.0) (had.same clean) it.1,
          survives_then (state g old) (state g mid) (state g it.0) (λ _. ⊥) (λ _. ⊥) (λ _. ⊥)
              (λ _ db h. h) (λ _ db h. h) had.survives it.2,
          it.3,
        )

  module _ (text : List ℕ) (params : Row) (told : IsTold text params) (old now new : Held S)
      (b : Begins g text params old now) (clean : HasCleanDisk (state g now))
      (tables : HasTables old.schema) (error : Error) where
    -- a query on the three tables fails for a cause outside the rows
    pub failure_caused : FailsAfterRows g now new error → IsCaused (state g old) (state g new) error
    failure_caused failed =
        let it = failed text params [] (b.given clean) in
        let same : IsUnchanged (state g old) (state g it.0) = unchanged_then (state g old)
        (state g now) (state g it.0) (b.same clean) it.1 in
        let first : Survives (state g old) (state g it.0) (λ _. ⊥) = survives_then (state g old)
        (state g now) (state g it.0) (λ _. ⊥) (λ _. ⊥) (λ _. ⊥) (λ _ db h. h) (λ _ db h. h)
        b.survives it.2 in
        caused_then (state g old) (state g it.0) (state g new) same first error
        (told (state g it.0) (state g new) (subst (λ (d : Database). HasTables d.schema)
        (sym same.0.now_is) tables) error it.3)

    -- and so does a count, where rows have numbers of their own
    pub count_caused : (query : Program) (names : List (List ℕ)) →
        ((l : Layout) → IsSqlOf l text (Select query names)) → lets_of query ≡ [] → (tree : ℕ)
        → ((a b : State) → HasTables a.now.schema → (rows : List Row) → Shown text params a b rows
        → IsInRank by_one (map number (a.now.trees tree)) rows)
        → AreNumbered ((state g old).now.trees tree) → FailsToCount g now new error →
        IsCaused (state g old) (state g new) error
    count_caused query names means none tree tells keyed (inl memory) =
        inl (OutOfMemory, memory, tt)
    count_caused query names means none tree tells keyed (inr (inl failed)) = failure_caused failed
    count_caused query names means none tree tells keyed (inr (inr at)) =
        let answer = begun_answer g text params query names means none old now new b clean tables
        at.same (λ db rows. IsInRank by_one (map number (db.trees tree)) rows) tells at.more
        at.gives in
        absurd (at.none answer.0 (keyed_answer _ _ answer.1.same keyed) answer.1.sorted)

  -- what a query on the three tables that failed, at once or as its rows were read, failed for
  module _ (text : List ℕ) (params : Row) (told : IsTold text params) (old new : Held S) where
    pub asks_fail : {X : Type 0} (r : Result X Error) →
        (HasCleanDisk (state g old) → HasTables old.schema) → Survives (state g old) (state g new)
        (λ _. ⊥) →
        (HasCleanDisk (state g new) →
        IfErr r (FailsToQuery text params (state g old) (state g new))) →
        IfErr r (FailsFor g old new)
    asks_fail (Ok x) tables survives h = tt
    asks_fail (Err error) tables survives h = λ clean. told (state g old) (state g new)
        (tables (omega (arith, clean, survives.clean))) error (h clean)

    pub ask_fails : (error : Error) →
        (HasCleanDisk (state g new) → FailsToQuery text params (state g old) (state g new) error) →
        FailsOverTidy g old new error
    ask_fails error h tidy clean = told (state g old) (state g new) tidy.has error (h clean)

    module _ (now : Held S) (b : Begins g text params old now)
        (then : Survives (state g now) (state g new) (λ _. ⊥)) where
      pub reads_fail : {X : Type 0} (r : Result X OpenFault) →
          (HasCleanDisk (state g new) → IfErr r (IfStore (FailsAfterRows g now new))) →
          IfErr r (IfStore (FailsOverTidy g old new))
      reads_fail (Ok x) h = tt
      reads_fail (Err fault) h = λ error is tidy clean. failure_caused text params told old now new
          b (omega (arith, clean, then.clean)) tidy.has error (h clean error is)

      pub counts_fail : {X : Type 0} (r : Result X Error) (query : Program) (names : List (List ℕ))
          → ((l : Layout) → IsSqlOf l text (Select query names)) → lets_of query ≡ [] → (tree : ℕ)
          → ((a b : State) → HasTables a.now.schema → (rows : List Row) → Shown text params a b
          rows → IsInRank by_one (map number (a.now.trees tree)) rows)
          → (IsTidy (state g old).now → AreNumbered ((state g old).now.trees tree)) →
          (HasCleanDisk (state g new) → IfErr r (FailsToCount g now new)) →
          IfErr r (FailsOverTidy g old new)
      counts_fail (Ok x) query names means none tree tells keyed h = tt
      counts_fail (Err error) query names means none tree tells keyed h = λ tidy clean.
          count_caused text params told old now new b (omega (arith, clean, then.clean)) tidy.has
          error query names means none tree tells (keyed tidy) (h clean)

-- the database's error is the fault
pub is_store : (P : Error → Type 0) (error : Error) → P error → IfStore P (Store error)
is_store P error h other is = let same : error ≡ other = cc in subst P same h

module _ {S : Type 0} (g : Ghosts S) (a b c : Held S) (same : HasCleanDisk (state g b) →
    IsUnchanged (state g a) (state g b)) (first : Survives (state g a) (state g b) (λ _. ⊥))
    (then : Survives (state g b) (state g c) (λ _. ⊥)) where
  -- of two calls of which the first changed nothing, the second failed
  pub second_fails : {X : Type 0} (r : Result X Error) → IfErr r (FailsFor g b c) →
      IfErr r (FailsFor g a c)
  second_fails (Ok x) h = tt
  second_fails (Err error) h = fails_then g a b c same first then error h

  pub second_reads : {X : Type 0} (r : Result X OpenFault) →
      IfErr r (IfStore (FailsOverTidy g b c)) → IfErr r (IfStore (FailsOverTidy g a c))
  second_reads (Ok x) h = tt
  second_reads (Err fault) h = λ error is. tidy_then g a b c same first then error (h error is)
