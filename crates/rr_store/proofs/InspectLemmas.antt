-- Inspections of the tables, one after the other.
use Rattle.std.proofs.Common.{◌≡◌, ◌∙◌, ◌&&◌, ℕ, Bool, true, false, List, [], Ok, Err, Result}
use Rattle.std.proofs.Common.{IfErr}
use Rattle.std.proofs.Common.{IfOk, OnOk, IsTrue, length, map, refl, sym, subst, arith}
use Rattle.std.proofs.lemmas.Result.{IfOk-weaker}
use Rattle.sqlite_value.specs.Order.{Row}
use Rattle.sqlite_trees.specs.declared.store.Store.{Ghosts}
use Rattle.sqlite_schema.specs.declared.command.Command.TheVariants.{Select}
use Rattle.sqlite_schema.specs.declared.program.Program.{Program}
use Rattle.sqlite_schema.specs.Program.{lets_of}
use Rattle.sqlite.specs.declared.error.Error.{Error}
use Rattle.sqlite.specs.Effect.{Database}
use Rattle.sqlite.specs.Held.{Held, state}
use Rattle.sqlite.specs.Listing.{understood}
use Rattle.sqlite.specs.State.{State, CommitsShowing, FailsToQuery, HasCleanDisk, IsUnchanged}
use Rattle.sqlite.specs.State.{Shown, Survives}
use Rattle.sqlite.proofs.Callers.{IsPlain}
use Rattle.rr_store.specs.Contents.{AreNumbered, IsInRank, IsTidy, by_one, number}
use Rattle.rr_store.specs.Queries.{IsSqlOf}
use Rattle.rr_store.specs.Tables.{HasTables, Layout, meta_tree, named_tree, object_tree}
use Rattle.rr_store.specs.VacancyParts.{SaysBare, SaysEmpty}
use Rattle.rr_store.specs.Calls.{FailsOverTidy, Rests, database}
use Rattle.rr_store.specs.CheckParts.{HasBadRow}
use Rattle.rr_store.specs.Faults.{no_tables}
use Rattle.rr_store.specs.LookParts.{CountsRows, HoldsOnCleanDisk, IsTabled, Selects}
use Rattle.rr_store.specs.Opening.{IfStore, Inspects}
use Rattle.rr_store.specs.StreamParts.{FailsAfterRows, FailsToCount, GivesRest, HasStreamed}
use Rattle.rr_store.specs.declared.store_fault.OpenFault.{OpenFault}
use Rattle.rr_store.specs.declared.store_fault.OpenFault.TheVariants.{Store}
use Rattle.rr_store.proofs.CauseLemmas.{IsTold}
use Rattle.rr_store.proofs.CheckLemmas.{each_err}
use Rattle.rr_store.proofs.FailureLemmas.{ask_fails, counts_fail, is_store, reads_fail}
use Rattle.rr_store.proofs.FailureLemmas.{second_fails, second_reads}
use Rattle.rr_store.proofs.LookLemmas.{looks_then, on_each, rests_failed, rests_itself}
use Rattle.rr_store.proofs.NumberLemmas.{keyed_by}
use Rattle.rr_store.proofs.StreamLemmas.{Begins, on_any, streamed, whole_answer}
use Rattle.rr_store.proofs.TidyLemmas.{as_many}

-- the database's error is no bad row
pub no_bad_row : (Bad : Database → Type 0) (db : Database) (error : Error) →
    HasBadRow Bad db (Store error)
no_bad_row Bad db error = record { bad_row = λ is. absurd (cc); no_other = λ n is. absurd (cc) }

-- whether the three tables have no row is told by whether each has none
pub bare_of : (db : Database) (meta object named : Bool) → HasTables db.schema →
    SaysEmpty (db.trees meta_tree) meta → SaysEmpty (db.trees object_tree) object →
    SaysEmpty (db.trees named_tree) named → SaysBare db (meta && object && named)
bare_of db false object named has m o n = record {
  bare = λ is. let off : false ≡ true = is in absurd (cc);
  filled = λ is first second third. m.filled refl first;
}
bare_of db true false named has m o n = record {
  bare = λ is. let off : false ≡ true = is in absurd (cc);
  filled = λ is first second third. o.filled refl second;
}
bare_of db true true false has m o n = record {
  bare = λ is. let off : false ≡ true = is in absurd (cc);
  filled = λ is first second third. n.filled refl third;
}
bare_of db true true true has m o n = record {
  bare = λ is. record {
    tidy = record {
      has = has;
      meta = rw (m.empty refl) (record { apart = tt; numbered = tt });
      object = rw (o.empty refl) (record { apart = tt; numbered = tt });
      named = rw (n.empty refl) (record { apart = tt; numbered = tt });
    };
    meta = m.empty refl;
    object = o.empty refl;
    named = n.empty refl;
  };
  filled = λ is. let on : true ≡ false = is in absurd (cc);
}

-- what holds of a result that is good holds of its value
pub ok_if : {X E : Type 0} {P : Type 0} (r : Result X E) (R : X → Type 0) → OnOk r P →
    ((x : X) → P → R x) → IfOk r R
ok_if (Ok x) R h f = f x h
ok_if (Err e) R h f = tt

module _ {S : Type 0} (g : Ghosts S) (a b : Held S) where
  -- a result that is judged after an inspection
  pub judged : {X : Type 0} (q : Result X OpenFault) (Read : Database → X → Type 0)
      (Why : Database → OpenFault → Type 0) → Rests g a b →
      (HasCleanDisk (state g b) → IsUnchanged (state g a) (state g b)) →
      (HasCleanDisk (state g b) → IfOk q (Read (database g a))) →
      (HasCleanDisk (state g b) → IfErr q (Why (database g a))) → IfErr q (IfStore (λ _. ⊥)) →
      Inspects g a b q Read Why
  judged q Read Why rests same read why none = record {
    looks = record { rests = rests; same = λ clean. on_any q (same clean) };
    read = read;
    why = why;
    cause = each_err q _ _ none (λ fault no error is tidy clean. absurd (no error is));
  }

  -- what is read may be said otherwise, and why it is not
  pub inspects_as : {X : Type 0} (r : Result X OpenFault) (Read Read' : Database → X → Type 0)
      (Why Why' : Database → OpenFault → Type 0) → Inspects g a b r Read Why →
      (HasCleanDisk (state g b) → (x : X) → Read (database g a) x → Read' (database g a) x) →
      (HasCleanDisk (state g b) → (fault : OpenFault) → Why (database g a) fault →
      Why' (database g a) fault) → Inspects g a b r Read' Why'
  inspects_as r Read Read' Why Why' one reads tells = record {
    looks = one.looks;
    read = λ clean. IfOk-weaker r _ _ (reads clean) (one.read clean);
    why = λ clean. each_err r _ _ (one.why clean) (tells clean);
    cause = one.cause;
  }

  -- what was not read is not read by the caller
  pub refused_as : {X Y : Type 0} (fault : OpenFault) (Read : Database → X → Type 0)
      (Read' : Database → Y → Type 0) (Why Why' : Database → OpenFault → Type 0) →
      Inspects g a b (Err fault) Read Why →
      (HasCleanDisk (state g b) → Why (database g a) fault → Why' (database g a) fault) →
      Inspects g a b (Err fault) Read' Why'
  refused_as fault Read Read' Why Why' one tells = record {
    looks = record { rests = one.looks.rests; same = λ clean. tt };
    read = λ clean. tt;
    why = λ clean. tells clean (one.why clean);
    cause = one.cause;
  }

  -- nor where rows were not counted
  pub uncounted : {Y : Type 0} (tree : ℕ) (error : Error) (Read : Database → Y → Type 0)
      (Why : Database → OpenFault → Type 0) → Why (database g a) (Store error) →
      CountsRows g tree a b (Err error) → Inspects g a b (Err (Store error)) Read Why
  uncounted tree error Read Why why one = record {
    looks = record { rests = one.looks.rests; same = λ clean. tt };
    read = λ clean. tt;
    why = λ clean. why;
    cause = is_store (FailsOverTidy g a b) error one.cause;
  }

  -- nor where a query failed
  pub unselected : {X Y : Type 0} (Found : Database → X → Type 0) (error : Error)
      (Read : Database → Y → Type 0) (Why : Database → OpenFault → Type 0) →
      Why (database g a) (Store error) → Selects g a b (Err error) Found →
      Inspects g a b (Err (Store error)) Read Why
  unselected Found error Read Why why one = record {
    looks = record { rests = one.looks.rests; same = λ clean. tt };
    read = λ clean. tt;
    why = λ clean. why;
    cause = is_store (FailsOverTidy g a b) error (λ tidy. one.cause);
  }

  -- what a query did not find its caller does not find
  pub unselected_as : {X Y : Type 0} (Found : Database → X → Type 0) (error : Error)
      (Found' : Database → Y → Type 0) → Selects g a b (Err error) Found →
      Selects g a b (Err error) Found'
  unselected_as Found error Found' one = record {
    looks = record { rests = one.looks.rests; same = λ clean. tt };
    found = λ clean. tt;
    cause = one.cause;
  }

  -- what it found may be said otherwise
  pub selects_as : {X Y : Type 0} (x : X) (y : Y) (Found : Database → X → Type 0)
      (Found' : Database → Y → Type 0) → Selects g a b (Ok x) Found →
      (HasCleanDisk (state g b) → Found (database g a) x → Found' (database g a) y) →
      Selects g a b (Ok y) Found'
  selects_as x y Found Found' one finds = record {
    looks = record { rests = one.looks.rests; same = one.looks.same };
    found = λ clean. finds clean (one.found clean);
    cause = tt;
  }

-- without the three tables that is told
pub untabled : {S X : Type 0} (g : Ghosts S) (conn : Held S) (Read : Database → X → Type 0)
    (Bad : Database → Type 0) → conn.in_transaction ≡ false →
    (HasTables (database g conn).schema → ⊥) →
    Inspects g conn conn (Err (Store no_tables)) Read (HasBadRow Bad)
untabled g conn Read Bad mode none = record {
  looks = record { rests = rests_itself g conn mode; same = λ clean. tt };
  read = λ clean. tt;
  why = λ clean. no_bad_row Bad (database g conn) no_tables;
  cause = λ error is tidy clean. absurd (none tidy.has);
}

module _ {S : Type 0} (g : Ghosts S) (a b : Held S) (one : Rests g a b)
    (same : HasCleanDisk (state g b) → IsUnchanged (state g a) (state g b)) where
  -- after a call that changed nothing this is still true of the database
  pub seen_then : (Seen : Database → Type 0) → HoldsOnCleanDisk g Seen a → HoldsOnCleanDisk g Seen b
  seen_then Seen had clean = subst Seen (sym (same clean).0.now_is)
      (had (omega (arith, clean, one.crash.clean)))

  -- and what is read then was to be read before
  pub inspects_then : {X : Type 0} (c : Held S) (r : Result X OpenFault)
      (Read : Database → X → Type 0) (Why : Database → OpenFault → Type 0) →
      Inspects g b c r Read Why → Inspects g a c r Read Why
  inspects_then c r Read Why two =
      let before : HasCleanDisk (state g c) → HasCleanDisk (state g b) = λ clean.
      omega (arith, clean, two.looks.rests.crash.clean) in
      record {
        looks = looks_then g a b c one same r two.looks;
        read = λ clean. subst (λ (d : Database). IfOk r (Read d)) (same (before clean)).0.now_is
            (two.read clean);
        why = λ clean. subst (λ (d : Database). IfErr r (Why d)) (same (before clean)).0.now_is
            (two.why clean);
        cause = second_reads g a b c same one.crash two.looks.rests.crash r two.cause;
      }

  pub selects_then : {X : Type 0} (c : Held S) (r : Result X Error)
      (Found : Database → X → Type 0) → Selects g b c r Found → Selects g a c r Found
  selects_then c r Found two =
      let before : HasCleanDisk (state g c) → HasCleanDisk (state g b) = λ clean.
      omega (arith, clean, two.looks.rests.crash.clean) in
      record {
        looks = looks_then g a b c one same r two.looks;
        found = λ clean. subst (λ (d : Database). IfOk r (Found d)) (same (before clean)).0.now_is
            (two.found clean);
        cause = second_fails g a b c same one.crash two.looks.rests.crash r two.cause;
      }

-- whether the three tables have no row is found by asking for each
pub selects_bare : {S : Type 0} (g : Ghosts S) (old one two new : Held S)
    (meta object named is : Bool) → HoldsOnCleanDisk g IsTabled old →
    Selects g old one (Ok meta) (λ db e. SaysEmpty (db.trees meta_tree) e) →
    Selects g one two (Ok object) (λ db e. SaysEmpty (db.trees object_tree) e) →
    Selects g two new (Ok named) (λ db e. SaysEmpty (db.trees named_tree) e) →
    is ≡ (meta && object && named) → Selects g old new (Ok is) SaysBare
selects_bare g old one two new meta object named is tabled first second third value =
    let seconds = selects_then g old one first.looks.rests first.looks.same two _ _ second in
    let thirds = selects_then g old one first.looks.rests first.looks.same new _ _
    (selects_then g one two second.looks.rests second.looks.same new _ _ third) in
    let on_two : HasCleanDisk (state g new) → HasCleanDisk (state g two) = λ clean.
    omega (arith, clean, third.looks.rests.crash.clean) in
    let on_one : HasCleanDisk (state g new) → HasCleanDisk (state g one) = λ clean.
    let before = on_two clean in omega (arith, before, second.looks.rests.crash.clean) in
    record {
      looks = record { rests = thirds.looks.rests; same = thirds.looks.same };
      found = λ clean.
          let before = on_one clean in
          subst (SaysBare (database g old)) (sym value)
          (bare_of (database g old) meta object named
          (tabled (omega (arith, before, first.looks.rests.crash.clean)))
          (first.found before) (seconds.found (on_two clean)) (thirds.found clean));
      cause = tt;
    }

-- one query of the tables
module _ {S : Type 0} (g : Ghosts S) (text : List ℕ) (params : Row) (told : IsTold text params)
    (old new : Held S)
    (settled : IsTrue (state g old).is_open → (state g old).now ≡ (state g old).committed) where
  -- that was refused
  module _ (plain : HasCleanDisk (state g old) → IsPlain (understood old.schema text))
      (mode : new.in_transaction ≡ false) (error : Error)
      (failed : HasCleanDisk (state g new) →
      FailsToQuery text params (state g old) (state g new) error)
      (survives : Survives (state g old) (state g new)
      (CommitsShowing text params (state g old))) where
    rested : Rests g old new
    rested = rests_failed g text params old new plain settled mode
        (λ clean. (error, failed clean)) survives

    pub not_counted : (tree : ℕ) → CountsRows g tree old new (Err error)
    not_counted tree = record {
      looks = record { rests = rested; same = λ clean. tt };
      numbered = λ clean. tt;
      count = λ clean. tt;
      cause = ask_fails g text params told old new error failed;
    }

    pub not_asked : {X : Type 0} (Read : Database → X → Type 0) (Bad : Database → Type 0) →
        Inspects g old new (Err (Store error)) Read (HasBadRow Bad)
    not_asked Read Bad = record {
      looks = record { rests = rested; same = λ clean. tt };
      read = λ clean. tt;
      why = λ clean. no_bad_row Bad (database g old) error;
      cause = is_store (FailsOverTidy g old new) error
          (ask_fails g text params told old new error failed);
    }

  -- that began, and whose rows were read one at a time
  module _ (begun : Held S) (b : Begins g text params old begun)
      (mode : begun.in_transaction ≡ false) where
    pub inspected : {X : Type 0} (r : Result X OpenFault) (Read : Database → X → Type 0)
        (Why : Database → OpenFault → Type 0) → HasStreamed g begun new r →
        (HasCleanDisk (state g new) → IfOk r (Read (database g old))) →
        (HasCleanDisk (state g new) → IfErr r (Why (database g old))) →
        (HasCleanDisk (state g new) → IfErr r (IfStore (FailsAfterRows g begun new))) →
        Inspects g old new r Read Why
    inspected r Read Why streams read why fails = record {
      looks = streamed g r old begun new b.same b.survives streams mode settled;
      read = read;
      why = why;
      cause = reads_fail g text params told old new begun b streams.survives r fails;
    }

    module _ (tabled : HasCleanDisk (state g old) → HasTables old.schema) (r : Result ℕ Error)
        (streams : HasStreamed g begun new r) (query : Program) (names : List (List ℕ))
        (means : (l : Layout) → IsSqlOf l text (Select query names)) (none : lets_of query ≡ [])
        (tree : ℕ)
        (tells : (a b : State) → HasTables a.now.schema → (rows : List Row) →
        Shown text params a b rows → IsInRank by_one (map number (a.now.trees tree)) rows)
        (keyed : IsTidy (state g old).now → AreNumbered ((state g old).now.trees tree))
        (numbered : HasCleanDisk (state g new) → IfOk r (λ count. (rest : List Row)
        × GivesRest g begun new rest × AreNumbered rest × (count ≡ length rest)))
        (fails : HasCleanDisk (state g new) → IfErr r (FailsToCount g begun new)) where
      ranked : HasCleanDisk (state g new) → (rest : List Row) → GivesRest g begun new rest →
          IsInRank by_one (map number ((state g old).now.trees tree)) rest
      ranked clean rest gives =
          let first : HasCleanDisk (state g begun) = omega (arith, clean, streams.survives.clean) in
          whole_answer g text params old begun new b first
          (tabled (omega (arith, first, b.survives.clean)))
          (λ db rows. IsInRank by_one (map number (db.trees tree)) rows) tells rest gives

      pub counted : CountsRows g tree old new r
      counted = record {
        looks = streamed g r old begun new b.same b.survives streams mode settled;
        numbered = λ clean. on_each r _ _ (numbered clean) (λ count rest.
            keyed_by ((state g old).now.trees tree) rest.0 (ranked clean rest.0 rest.1).same
            rest.2);
        count = λ clean. IfOk-weaker r _ _ (λ count rest. rest.3
            ∙ as_many ((state g old).now.trees tree) rest.0 (ranked clean rest.0 rest.1).same)
            (numbered clean);
        cause = counts_fail g text params told old new begun b streams.survives r query names means
            none tree tells keyed fails;
      }
