-- Why a query on the three tables failed.
use Rattle.std.proofs.Common.{◌≡◌, inl, inr, ℕ, true, false, List, [], ◌∷◌, length, Ok, Err, Result}
use Rattle.std.proofs.Common.{IsSome, refl, sym, ap, subst, ◌∙◌, arith, append-nil, codes}
use Rattle.std.proofs.Math.Dec.{leb}
use Rattle.std.proofs.lemmas.Bool.{both_ways, leb-true}
use Rattle.sqlite_value.specs.Order.{Row}
use Rattle.sqlite_trees.specs.declared.error.StoreError.{StoreError}
use Rattle.sqlite_trees.specs.declared.error.StoreError.TheVariants.{OutOfMemory, Io, Corrupt, Full}
use Rattle.sqlite_trees.specs.declared.error.StoreError.TheVariants.{Broken, Unstorable}
use Rattle.sqlite_trees.specs.declared.store.Store.{Ghosts}
use Rattle.sqlite_trees.specs.Tree.{Trees}
use Rattle.sqlite_sql.specs.Term.{Term, col}
use Rattle.sqlite_sql.specs.Program.{QueryOverflows, overlay}
use Rattle.sqlite_sql.specs.Query.{Query}
use Rattle.sqlite_schema.specs.declared.schema.Schema.{Schema}
use Rattle.sqlite_schema.specs.declared.command.Command.TheVariants.{Select}
use Rattle.sqlite_resolve.specs.declared.compiled.Compiled.{Compiled}
use Rattle.sqlite_resolve.specs.declared.error.CompileError.{CompileError}
use Rattle.sqlite_typing.specs.Types.{accepts_program}
use Rattle.sqlite_tied.specs.Compute.{everything}
use Rattle.sqlite.specs.declared.error.Error.{Error}
use Rattle.sqlite.specs.Effect.{RefusesQuery, RefusesToRead}
use Rattle.sqlite.specs.Held.{Held, state}
use Rattle.sqlite.specs.Listing.{IsSourceOf, reads_listing, understood}
use Rattle.sqlite.specs.State.{State, Fails, FailsToQuery, HasCause, HasCleanDisk, IsNotRun}
use Rattle.sqlite.specs.State.{IsUnchanged, Survives}
use Rattle.sqlite.proofs.Callers.{IsPlain, command_of}
use Rattle.rr_store.specs.Contents.{IsTidy}
use Rattle.rr_store.specs.Queries.{IsSqlOf, alone, rows_of}
use Rattle.rr_store.specs.Tables.{HasTables, Layout, laid}
use Rattle.rr_store.specs.Texts.{select_meta, select_object, select_named}
use Rattle.rr_store.specs.Texts.{select_sorted_named, meta_numbers, object_numbers, named_numbers}
use Rattle.rr_store.proofs.TextLemmas.{select_meta_is, select_object_is}
use Rattle.rr_store.proofs.TextLemmas.{select_named_is, select_sorted_named_is, meta_numbers_is}
use Rattle.rr_store.proofs.TextLemmas.{object_numbers_is, named_numbers_is}
use Rattle.rr_store.specs.Calls.{FailsFor, FailsOverTidy, IsCaused}

-- ---- one call after another

module _ (a b c : State) (same : IsUnchanged a b) (first : Survives a b (λ _. ⊥)) where
  cause_then : (cause : StoreError) → HasCause b c ⊥ cause → HasCause a c ⊥ cause
  cause_then OutOfMemory h = tt
  cause_then Io h = omega (arith, first.counts, h)
  cause_then Corrupt h = omega (arith, first.counts, h)
  cause_then Full h = omega (arith, first.counts, h)
  cause_then Broken h = absurd (both_ways b.is_open h same.0.is_open)
  cause_then Unstorable h = h

  -- what failed after a call that changed nothing failed for the same cause
  pub caused_then : (error : Error) → IsCaused b c error → IsCaused a c error
  caused_then error (inl h) = inl (h.0, h.1, cause_then h.0 h.2)
  caused_then error (inr h) = inr (h.0, subst IsSome first.limit h.1)

module _ {S : Type 0} (g : Ghosts S) (a b c : Held S) (same : HasCleanDisk (state g b) →
    IsUnchanged (state g a) (state g b)) (first : Survives (state g a) (state g b) (λ _. ⊥))
    (then : Survives (state g b) (state g c) (λ _. ⊥)) where
  pub fails_then : (error : Error) → FailsFor g b c error → FailsFor g a c error
  fails_then error h clean = caused_then (state g a) (state g b) (state g c)
      (same (omega (arith, clean, then.clean))) first error (h clean)

  pub tidy_then : (error : Error) → FailsOverTidy g b c error → FailsOverTidy g a c error
  tidy_then error h tidy clean =
      let one = same (omega (arith, clean, then.clean)) in
      caused_then (state g a) (state g b) (state g c) one first error
      (h (subst IsTidy (sym one.0.now_is) tidy) clean)

-- ---- one query

-- a text is one statement with as many parameters
abbrev IsAsked : List ℕ → Row → Result Compiled CompileError → Type 0
IsAsked sql params (Ok c) = (leb (length sql) c.tail ≡ true) × (length params ≡ length c.names)
IsAsked sql params (Err e) = ⊥

-- a query on the three tables that failed did so for a cause outside the rows
abbrev pub IsTold : List ℕ → Row → Type 1
IsTold sql params = (old new : State) → HasTables old.now.schema → (error : Error) →
    FailsToQuery sql params old new error → IsCaused old new error

module _ (sql : List ℕ) (params : Row) (old new : State) (schema : Schema)
    (has : old.now.schema ≡ schema) (query : Query) (names : List (List ℕ))
    (is : command_of (understood schema sql) ≡ Select (alone query) names)
    (plain : IsPlain (understood schema sql)) (unlisted : reads_listing schema sql ≡ false)
    (asked : IsAsked sql params (understood schema sql)) (typed : accepts_program schema [] query
    params ≡ true) (sums : (db : Trees) → QueryOverflows query db params → ⊥) where
  failed : (error : Error) → Fails old new ⊥ error → IsCaused old new error
  failed error h = inl (h.0, h.1, h.2)

  known : (r : Result Compiled CompileError) → understood old.now.schema sql ≡ r →
      understood schema sql ≡ r
  known r h = sym (ap (λ s. understood s sql) has) ∙ h

  unrun : (error : Error) → IsNotRun old new sql params error → IsCaused old new error
  unfolding IsNotRun
  unrun error (inr h) = failed error h
  unrun error (inl (inl h, same)) = absurd (subst IsPlain (known (Err h.0) h.1) plain)
  unrun error (inl (inr h, same)) =
      let bare = subst IsPlain (known (Ok h.0) h.1) plain in
      let whole = subst (IsAsked sql params) (known (Ok h.0) h.1) asked in
      elim h.2 [
        | inl more ↦ absurd (more.0 (leb-true _ _ whole.0))
        | inr (inl few) ↦ absurd (few.0 whole.1)
        | inr (inr timeless) ↦ absurd (timeless.0 bare.1)
      ]

  refused : (error : Error) → RefusesQuery old.step_limit old.now (alone query) params error →
      IsCaused old new error
  refused error (inl h) =
      absurd (both_ways _ h.1 (subst (λ s. accepts_program s [] query params ≡ true) (sym has)
      typed))
  refused error (inr (inl h)) = absurd (sums (overlay old.now.trees []) h.1)
  refused error (inr (inr h)) = inr h

  pub query_caused : (error : Error) → FailsToQuery sql params old new error →
      IsCaused old new error
  unfolding FailsToQuery
  query_caused error (inl h) = unrun error h
  query_caused error (inr h) =
      let same = known (Ok h.0) h.1.is in
      let bare = subst IsPlain same plain in
      let it = rw (bare.0, bare.1, append-nil params) at h.2 in
      let db : it.0 ≡ old.now = subst (λ b. IsSourceOf b old.now it.0)
      (ap (λ s. reads_listing s sql) has ∙ unlisted) it.1 in
      refused error (subst (λ k. RefusesToRead old.step_limit k old.now params error)
      (ap command_of (sym same) ∙ is)
      (subst (λ d. RefusesToRead old.step_limit h.0.command d params error) db it.2))

-- a text whose query every schema with the three tables accepts, and which sums nothing
module _ (query : Query) (sql : List ℕ) (params : Row) (names : List (List ℕ))
    (means : (l : Layout) → IsSqlOf l sql (Select (alone query) names)) (asked : (l : Layout) →
    IsAsked sql params (understood (laid l) sql))
    (typed : (l : Layout) → accepts_program (laid l) [] query params ≡ true) (sums : (db : Trees) →
    QueryOverflows query db params → ⊥) where
  asked_told : IsTold sql params
  asked_told old new has =
      let l = has.layout in
      query_caused sql params old new (laid l) has.is query names (means l).is (means l).plain
      (means l).unlisted (asked l) (typed l) sums

-- and here of all rows of one table
module _ (tree : ℕ) (shown order : List Term) (sql : List ℕ) (names : List (List ℕ))
    (means : (l : Layout) → IsSqlOf l sql (Select (alone (rows_of tree [] shown order)) names))
    (asked : (l : Layout) → IsAsked sql [] (understood (laid l) sql)) (typed : (l : Layout) →
    accepts_program (laid l) [] (rows_of tree [] shown order) [] ≡ true) where
  sums_nothing : (db : Trees) → QueryOverflows (rows_of tree [] shown order) db [] → ⊥
  sums_nothing db (inl h) = h
  sums_nothing db (inr h) = h.4

  told : IsTold sql []
  told = asked_told (rows_of tree [] shown order) sql [] names means asked typed sums_nothing

pub select_meta_told : IsTold select_meta []
unfolding understood everything
select_meta_told = told 0 (col 1 1 ∷ col 1 2 ∷ []) (col 1 1 ∷ col 1 2 ∷ []) select_meta
    (codes "name" ∷ codes "value" ∷ []) select_meta_is (λ l. (refl, refl)) (λ l. refl)

pub select_object_told : IsTold select_object []
unfolding understood everything
select_object_told = told 2 (col 1 0 ∷ col 1 1 ∷ col 1 2 ∷ col 1 3 ∷ []) (col 1 0 ∷ [])
    select_object (codes "rowid" ∷ codes "class" ∷ codes "okey" ∷ codes "body" ∷ [])
    select_object_is (λ l. (refl, refl)) (λ l. refl)

pub select_named_told : IsTold select_named []
unfolding understood everything
select_named_told = told 4 (col 1 0 ∷ col 1 1 ∷ col 1 2 ∷ col 1 3 ∷ []) (col 1 0 ∷ []) select_named
    (codes "rowid" ∷ codes "maintainer" ∷ codes "class" ∷ codes "okey" ∷ []) select_named_is
    (λ l. (refl, refl)) (λ l. refl)

pub select_sorted_named_told : IsTold select_sorted_named []
unfolding understood everything
select_sorted_named_told = told 4 (col 1 1 ∷ col 1 2 ∷ col 1 3 ∷ [])
    (col 1 1 ∷ col 1 2 ∷ col 1 3 ∷ []) select_sorted_named (codes "maintainer" ∷ codes "class"
    ∷ codes "okey" ∷ []) select_sorted_named_is (λ l. (refl, refl)) (λ l. refl)

pub meta_numbers_told : IsTold meta_numbers []
unfolding understood everything
meta_numbers_told = told 0 (col 1 0 ∷ []) (col 1 0 ∷ []) meta_numbers (codes "rowid" ∷ [])
    meta_numbers_is (λ l. (refl, refl)) (λ l. refl)

pub object_numbers_told : IsTold object_numbers []
unfolding understood everything
object_numbers_told = told 2 (col 1 0 ∷ []) (col 1 0 ∷ []) object_numbers (codes "rowid" ∷ [])
    object_numbers_is (λ l. (refl, refl)) (λ l. refl)

pub named_numbers_told : IsTold named_numbers []
unfolding understood everything
named_numbers_told = told 4 (col 1 0 ∷ []) (col 1 0 ∷ []) named_numbers (codes "rowid" ∷ [])
    named_numbers_is (λ l. (refl, refl)) (λ l. refl)
