-- The rows of a list of objects are those of the registry that the list is.
use Rattle.std.proofs.Common.{◌≡◌, false, inl, ℕ, List, [], ◌∷◌, map, Bor, refl, sym, subst, ◌∙◌}
use Rattle.std.proofs.Common.{arith}
use Rattle.std.specs.Prelude.{Some}
use Rattle.std.specs.List.{AllByRecursion}
use Rattle.std.specs.Ordering.{eq_by_cmp}
use Rattle.std.specs.FinMap.{empty, entries, find, get-entries, insert, values}
use Rattle.sqlite_trees.specs.Tree.{Trees}
use Rattle.sqlite.specs.Effect.{Database}
use Rattle.sqlite.specs.State.{State, Survives}
use Rattle.sqlite.proofs.StateLemmas.{survives_weaker}
use Rattle.rr_object.specs.declared.key.Key.{Key}
use Rattle.rr_object.specs.KeyOrders.{key_cmp}
use Rattle.rr_object.specs.Objects.{Obj, lent}
use Rattle.rr_auth.specs.Registries.{Reg, Sound}
use Rattle.rr_registry.specs.Loading.{IsTaken, gathered}
use Rattle.rr_store.specs.Entries.{entry_of}
use Rattle.rr_store.specs.Made.{IsMadeWith}
use Rattle.rr_store.specs.Maps.{AreStored, HasRows, IsFilled, IsObject}
use Rattle.rr_store.proofs.MapLists.{put_all, stored_rows}
use Rattle.rr_store.specs.Creating.{IsStoreOf}
use Rattle.rr_desk.proofs.DumpSources.{one_found}
use Rattle.sqlite_trees.specs.declared.store.Store.{Ghosts}
use Rattle.sqlite.specs.Held.{Held, state}
use Rattle.rr_store.specs.Calls.{database}
use Rattle.rr_store.specs.declared.store_fault.CreateFault.{CreateFault}
use Rattle.rr_desk.specs.Opened.{CommitsTables, FailsToMakeTables, GivesBack, MakesNone}
use Rattle.rr_desk.specs.Opened.{MakesTables}
use Rattle.rr_desk.proofs.Following.{trees_of}

-- a list that is gathered is put in one by one
pub gathered_is : (r : Reg) (os : List Obj) → gathered r os ≡ put_all r os
gathered_is r [] = refl
gathered_is r (o ∷ os) = gathered_is (insert r o.key o) os

-- the rows that were read are those of the registry of what was read
pub opened_rows : (source : List ℕ) (os : List Obj) (r : Reg) (db : Database) →
    AreStored source os db → IsTaken os r → HasRows r db
opened_rows source os r db stored taken = subst (λ m. HasRows m db)
    (sym (taken.whole ∙ gathered_is empty os)) (stored_rows source os db stored)

-- what holds of each object holds of the one that is found
found_among : (P : Obj → Type 0) (k : Key) (es : List (Key × Obj)) (o : Obj) →
    AllByRecursion P (map (λ e. e.1) es) → find key_cmp k es ≡ Some o → P o
found_among P k [] o all is = absurd (cc)
found_among P k (e ∷ es) o all is = one_found P (eq_by_cmp key_cmp k e.0) e.1 o (find key_cmp k es)
    all.0 (found_among P k es o all.1) is

-- tables that are filled with the objects of a registry hold its rows
registry_rows : (r : Reg) (db : Database) → Sound r → AllByRecursion IsObject (values r) →
    IsFilled (map entry_of (values r)) db → HasRows r db
registry_rows r db sound all filled = record {
  keyed = record {
    keyed = sound.keyed;
    formed = sound.formed;
    read = λ k o found.
        found_among IsObject k (entries r) o all (sym (get-entries r k) ∙ found);
  };
  rows = filled.rows;
  version = filled.version;
}

-- and so with those that are lent
pub lent_rows : (r : Reg) (objects : List (Bor Obj)) → Sound r → lent objects ≡ values r →
    (db : Database) → IsStoreOf (lent objects) db → HasRows r db
lent_rows r objects sound same db store =
    registry_rows r db sound (subst (AllByRecursion IsObject) same store.read)
    (subst (λ os. IsFilled (map entry_of os) db) same store.filled)

-- tables that are made with such rows are made with those of which more is said
pub made_as : {P Q : Database → Type 0} (old db : Database) → (P db → Q db) → IsMadeWith P old db →
    IsMadeWith Q old db
made_as old db f made = record { vacant = made.vacant; tables = made.tables; rows = f made.rows }

-- a connection that was not touched leaves what it left before
pub untouched : (s : State) (P : Trees → Type 0) → Survives s s P
untouched s P = record {
  clean = omega arith;
  shield = λ h. h;
  counts = omega arith;
  limit = refl;
  closes = λ clean h. inl h;
  crash = λ clean db h. inl h;
}

module _ {S : Type 0} (g : Ghosts S) where
  -- a stop that may leave such tables may leave those of which more is said
  pub left_as : {P Q : Database → Type 0} (conn new : Held S) → ((db : Database) → P db → Q db) →
      Survives (state g conn) (state g new) (CommitsTables g P conn) → Survives (state g conn)
      (state g new) (CommitsTables g Q conn)
  left_as {P} {Q} conn new f one =
      survives_weaker (state g conn) (state g new) (CommitsTables g P conn)
      (CommitsTables g Q conn) (λ clean trees made.
      (made.0, trees_of (λ db. made_as (database g conn) db (f db)) trees made.1)) one

  -- a connection that was not touched is given back as it was
  pub untouched_back : (commits : Trees → Type 0) (conn : Held S) → conn.in_transaction ≡ false →
      GivesBack g commits conn conn
  untouched_back commits conn autocommit = record {
    autocommit = autocommit;
    was_open = λ clean on.
        on;
    kept = λ clean on. refl;
    crash = untouched _ _;
  }

  -- tables with such rows have those of which more is said
  pub makes_as : {P Q : Database → Type 0} (conn made : Held S) → ((db : Database) → P db → Q db) →
      MakesTables g P conn made → MakesTables g Q conn made
  makes_as conn made f makes = record {
    was_open = makes.was_open;
    vacant = makes.vacant;
    tables =
        makes.tables;
    crash = left_as conn made f makes.crash;
  }

  pub none_as : {P Q : Database → Type 0} (conn left : Held S) → ((db : Database) → P db → Q db) →
      MakesNone g P conn left → MakesNone g Q conn left
  none_as conn left f none = record {
    autocommit = none.autocommit;
    was_open = none.was_open;
    kept = none.kept;
    crash = left_as conn left f none.crash;
  }

  pub fails_as : {P Q : Database → Type 0} (conn left : Held S) (fault : CreateFault) →
      ((db : Database) → P db → Q db) → FailsToMakeTables g P conn left fault →
      FailsToMakeTables g Q conn left fault
  fails_as conn left fault f fails = record {
    none = none_as conn left f fails.none;
    not_empty = fails.not_empty;
    store = fails.store;
    untabled = fails.untabled;
  }
