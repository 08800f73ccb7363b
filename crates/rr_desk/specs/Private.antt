-- What private functions of the desk promise each other. No public clause cites these.
use Rattle.std.specs.Prelude.{◌≡◌, None, ℕ, Bool, true, false, IsTrue, List}
use Rattle.std.specs.Prelude.{Ok, OnErr, OnOk, Result}
use Rattle.std.specs.FinMap.{get, insert, remove}
use Rattle.sqlite_trees.specs.declared.store.Store.{Ghosts}
use Rattle.sqlite.specs.declared.error.Error.{Error}
use Rattle.sqlite.specs.declared.error.Error.TheVariants.{SqliteFailure}
use Rattle.sqlite.specs.declared.error.ErrorCode.TheVariants as code
use Rattle.sqlite.specs.Effect.{Database}
use Rattle.sqlite.specs.Held.{Held, state}
use Rattle.sqlite.specs.State.{Survives}
use Rattle.rr_text.specs.Fields.{Field}
use Rattle.rr_object.specs.declared.key.Key.{Key}
use Rattle.rr_object.specs.Objects.{Obj}
use Rattle.rr_object.specs.Readings.{object_of}
use Rattle.rr_auth.specs.Registries.{Reg}
use Rattle.rr_auth.specs.Sources.{IsRegistryOf}
use Rattle.rr_registry.specs.declared.outcome.Outcome.{Outcome}
use Rattle.rr_registry.specs.declared.outcome.Outcome.TheVariants.{Added, Changed}
use Rattle.rr_registry.specs.declared.outcome.Outcome.TheVariants.{Unchanged, Deleted}
use Rattle.rr_registry.specs.declared.outcome.Outcome.TheVariants.{Refused}
use Rattle.rr_registry.specs.declared.load.LoadFault.{LoadFault}
use Rattle.rr_registry.specs.declared.load.LoadFault.TheVariants.{Duplicate, Overlap, Unnamed}
use Rattle.rr_registry.specs.declared.load.LoadFault.TheVariants.{Memory}
use Rattle.rr_store.specs.Contents.{KeepsOthers}
use Rattle.rr_store.specs.Entries.{TreesOf}
use Rattle.rr_store.specs.Maps.{HasRows}
use Rattle.rr_store.specs.Calls.{IsSettled, OnCleanDisk, WhileOpen, database}
use Rattle.rr_store.specs.declared.store_fault.StoreFault.{StoreFault}
use Rattle.rr_store.specs.declared.store_fault.StoreFault.TheVariants as store_fault
use Rattle.rr_store.specs.declared.store_fault.OpenFault.{OpenFault}
use Rattle.rr_store.specs.declared.store_fault.OpenFault.TheVariants as opened
use Rattle.rr_desk.specs.Stocks.{StockParts, StoresRows}
use Rattle.rr_desk.specs.declared.loading.DeskLoadFault.{DeskLoadFault}
use Rattle.rr_desk.specs.declared.loading.DeskLoadFault.TheVariants as load

-- one registry is another with an object under this key
pub record GainsObject (before : Reg) (key : Key) (after : Reg) : Type 0 where
  pub object : Obj
  pub of_key : object.key ≡ key
  pub is : after ≡ insert before key object

-- one registry is another with an object under this key, where none stood
pub record GainsNew (before : Reg) (key : Key) (after : Reg) : Type 0 where
  pub gain : GainsObject before key after
  pub absent : get before key ≡ None

-- what an outcome of an item about this key says of the registry before it and the one after it
abbrev pub LeadsTo : Reg → Key → Outcome → Reg → Type 0
LeadsTo before key Added after = GainsNew before key after
LeadsTo before key Changed after = GainsObject before key after
LeadsTo before key Unchanged after = after ≡ before
LeadsTo before key Deleted after = after ≡ remove before key
LeadsTo before key (Refused code) after = after ≡ before

-- a stock of this registry runs, and its store holds the rows of it
pub record IsStockOf {S : Type 0} (g : Ghosts S) (this : Reg) (stock : StockParts S) : Type 0 where
  pub registry : stock.registry ≡ this
  pub running : stock.stopped ≡ false
  pub holds : StoresRows g stock

-- a stock of a registry of this source runs, and its store holds the rows of it
pub record IsStockOfSource {S : Type 0} (g : Ghosts S) (source : List ℕ) (stock : StockParts S)
    : Type 0 where
  pub of_source : IsRegistryOf source stock.registry
  pub running : stock.stopped ≡ false
  pub holds : StoresRows g stock

-- after the outcome an object stands under the key of its item
abbrev pub puts_one : Outcome → Bool
puts_one Added = true
puts_one Changed = true
puts_one Unchanged = false
puts_one Deleted = false
puts_one (Refused code) = false

-- where the rows were those of the registry before the item, they are those of the one after it
abbrev pub Follows : Key → Outcome → Reg → Database → Database → Type 0
Follows key outcome after old new =
    (before : Reg) → LeadsTo before key outcome after → HasRows before old → HasRows after new

-- beside the rows of the three tables all is as it was, also in what a stop may leave and could not
-- leave before
pub record LeavesRest {S : Type 0} (g : Ghosts S) (old new : Held S) : Type 0 where
  pub stands : WhileOpen g new (KeepsOthers (database g old) (database g new))
  pub crash : Survives (state g old) (state g new) (TreesOf (KeepsOthers (database g old)))

-- the rows follow an item by this change, if it is one that changes them, or stay as they are after
-- a fault; a stop of the process leaves one of the two, and where it left just the rows that stood
-- before the call, one after the call leaves just those that stand then, while the connection is
-- open
pub record FollowsIn {S X E : Type 0} (g : Ghosts S) (Change : Database → Database → Type 0)
    (old new : Held S) (result : Result X E) : Type 0 where
  pub done : OnCleanDisk g new (OnOk result (Change (database g old) (database g new)))
  pub is_open : OnCleanDisk g new
      (IsTrue (state g old).is_open → OnOk result (IsTrue (state g new).is_open))
  pub settled : IsSettled g old → IsSettled g new
  pub kept : WhileOpen g new (OnErr result (database g new ≡ database g old))
  pub crash : Survives (state g old) (state g new) (TreesOf (Change (database g old)))

-- the error of the database that a fault of its store is; out of memory is one of its own
abbrev pub error_of : StoreFault → Error
error_of (store_fault.Store error) = error
error_of store_fault.Memory = SqliteFailure code.OutOfMemory

-- rows of objects that are not a registry are bad rows; that memory ran out is told as such
abbrev pub opening_fault : LoadFault → OpenFault
opening_fault (Duplicate n) = opened.BadRow
opening_fault (Overlap n) = opened.BadRow
opening_fault (Unnamed n) = opened.BadRow
opening_fault Memory = opened.Memory

-- a paragraph is this object in the registry of a source
pub record IsParagraphOf (source : List ℕ) (fields : List Field) (object : Obj) : Type 0 where
  pub read : object_of fields source ≡ Ok object

-- a paragraph is an object in the registry of a source
pub record HasObject (source : List ℕ) (fields : List Field) : Type 0 where
  pub object : Obj
  pub read : object_of fields source ≡ Ok object

-- the fault of a load is not of the store
abbrev pub IsNotOfStore : DeskLoadFault → Type 0
IsNotOfStore (load.Unread fault) = Unit {0}
IsNotOfStore (load.Untaken fault) = Unit {0}
IsNotOfStore (load.Unmade fault) = ⊥
