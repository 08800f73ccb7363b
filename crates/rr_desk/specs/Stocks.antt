-- A registry with the store that keeps its rows, as a ledger (profile): what a desk promises of its
-- rows and its database.
use Rattle.std.specs.Prelude.{◌≡◌, Bool, false, is_some, IsTrue, Option, refl}
use Rattle.std.specs.Coded.{Coded, code_by, coded×, coded_bool, coded_option}
use Rattle.std.specs.FinMap as map
use Rattle.sqlite_trees.specs.declared.store.Store as store
use Rattle.sqlite.specs.declared.error.Error.{Error}
use Rattle.sqlite.specs.contracts.error.Error as error
use Rattle.sqlite.specs.Held.{Held, held_code, state}
use Rattle.sqlite.specs.State.{State, HasCleanDisk, Survives}
use Rattle.rr_object.specs.contracts.key.Key as key
use Rattle.rr_object.specs.contracts.object.Object as object
use Rattle.rr_auth.specs.Registries.{Reg}
use Rattle.rr_store.specs.Contents.{KeepsOthers}
use Rattle.rr_submission.specs.declared.ledger.Ledger as ledger
use Rattle.rr_store.specs.Calls.{OnCleanDisk}
use Rattle.rr_desk.specs.Stops.{LeavesStopped}
use Rattle.rr_desk.specs.Rows.{Holds}

-- a registry, the connection that keeps its rows, and whether a fault of the store stopped it, with
-- the error of the database that was its cause
pub record StockParts (S : Type 0) : Type 0 where
  pub registry : Reg
  pub store : Held S
  pub stopped : Bool
  pub cause : Option Error

-- a stock is told apart by its registry, its store, whether it is stopped, and its cause
abbrev pub stock_code : {S : Type 0} → Coded S → Coded (StockParts S)
stock_code {S} held =
    code_by (Reg × (Held S × (Bool × Option Error)))
    (coded× (map.code (key.the_row).coded (object.the_row).coded)
    (coded× (held_code held) (coded× coded_bool (coded_option (error.the_row).coded))))
    (λ s. (s.registry, (s.store, (s.stopped, s.cause))))
    (λ p. record { registry = p.0; store = p.1.0; stopped = p.1.1.0; cause = p.1.1.1 })
    (λ _. refl)

-- the stock of this registry, store and cause; it is stopped where it has a cause
abbrev pub stock_of : {S : Type 0} → Reg → Held S → Option Error → StockParts S
stock_of registry store cause =
    record { registry = registry; store = store; stopped = is_some cause; cause = cause }

-- where the disk gives back what was written, the store of a stock is open and holds the rows of
-- its registry. A stop of the process then leaves these and no others (profile)
abbrev pub StoresRows : {S : Type 0} → store.Ghosts S → StockParts S → Type 0
StoresRows g s = OnCleanDisk g s.store (Holds s.registry (state g s.store))

-- until a stock is stopped its store holds the rows of its registry (`StoresRows`)
abbrev pub StoresUntilStopped : {S : Type 0} → store.Ghosts S → StockParts S → Type 0
StoresUntilStopped g s = s.stopped ≡ false → StoresRows g s

-- what lasts of a connection, whatever is committed in between. A disk that is clean was clean, and
-- the count of its faults did not fall. Where each later read is tested against a digest, it still
-- is, and the limit of steps stays. Where the disk is clean, nothing but a fault of it shuts the
-- connection. One that is open then was open, and has all as it was beside the rows of the three
-- tables (profile)
pub record DatabaseLasts (old now : State) : Type 0 where
  pub survives : Survives old now (λ trees. Unit {0})
  pub was_open : HasCleanDisk now → IsTrue now.is_open → IsTrue old.is_open
  pub others : HasCleanDisk now → IsTrue now.is_open → KeepsOthers old.now now.now

-- a stock as a ledger: it keeps its registry and, until it is stopped, the rows of it; it stops by
-- a fault of the store alone, and its connection lasts (profile)
abbrev pub stock_ledger : {S : Type 0} → store.Ghosts S → ledger.Ghosts (StockParts S)
stock_ledger g = record {
  registry = λ s. s.registry;
  is_stopped = λ s. s.stopped;
  Stops = λ old secrets item new. LeavesStopped old.registry secrets item new.registry
      new.stopped (state g old.store) (state g new.store);
  Lasts = λ old new. DatabaseLasts (state g old.store) (state g new.store);
  Kept = StoresUntilStopped g;
}
