-- Dumps that a desk loads (profile): for `Desk::load` and for histories.
use Rattle.std.specs.Prelude.{◌≡◌, ℕ, List}
use Rattle.sqlite_trees.specs.declared.store.Store.{Ghosts}
use Rattle.sqlite.specs.Effect.{Database}
use Rattle.sqlite.specs.Held.{Held}
use Rattle.rr_io.specs.Told.{Told}
use Rattle.rr_io.specs.Receiving.{Reads}
use Rattle.rr_io.specs.declared.receiving.ReadEnd.TheVariants.{Whole}
use Rattle.rr_object.specs.Objects.{Obj}
use Rattle.rr_auth.specs.Registries.{Reg}
use Rattle.rr_registry.specs.declared.load.LoadFault.{LoadFault}
use Rattle.rr_registry.specs.Loading.{IsFaultOf}
use Rattle.rr_store.specs.Maps.{HasRows}
use Rattle.rr_store.specs.declared.store_fault.CreateFault.{CreateFault}
use Rattle.rr_desk.specs.Dumps.{IsDumpOf}
use Rattle.rr_desk.specs.DumpReadings.{FailsToRead, HasRead}
use Rattle.rr_desk.specs.declared.loading.DeskLoadFault.{DeskLoadFault}
use Rattle.rr_desk.specs.declared.loading.DeskLoadFault.TheVariants.{Unread, Untaken, Unmade}
use Rattle.rr_desk.specs.Opened.{FailsToMakeTables, MakesNone}

-- a text was read to its end, and is a dump of this registry of the source (profile)
pub record IsLoaded (source : List ℕ) (start now : Told) (registry : Reg) : Type 0 where
  pub text : List ℕ
  pub reads : Reads start now text Whole
  pub dump : IsDumpOf source text registry

-- a text was read to its end, and is a dump of a registry of the source (profile)
pub record HasReadDump (source : List ℕ) (start now : Told) : Type 0 where
  pub registry : Reg
  pub is_loaded : IsLoaded source start now registry

-- the tables hold the rows of the registry of which a dump was read (profile)
pub record HasLoadedRows (source : List ℕ) (start now : Told) (db : Database) : Type 0 where
  pub registry : Reg
  pub is_loaded : IsLoaded source start now registry
  pub rows : HasRows registry db

-- a dump was read to its end, and its objects, all of the source, are not a registry for this
-- reason, or memory ran out (profile)
pub record IsUntaken (source : List ℕ) (start now : Told) (fault : LoadFault) : Type 0 where
  pub objects : List Obj
  pub read : HasRead source start now objects
  pub is_fault : IsFaultOf objects fault

-- why a dump was not loaded, by the fault: those of the reading come first, with the first entry
-- that is not an object of the source, then what is the matter with the list of objects. Only of a
-- dump of a registry is it told that no tables were made (profile)
abbrev pub FailsToLoad : List ℕ → Told → Told → DeskLoadFault → Type 0
FailsToLoad source start now (Unread fault) = FailsToRead source start now fault
FailsToLoad source start now (Untaken fault) = IsUntaken source start now fault
FailsToLoad source start now (Unmade fault) = HasReadDump source start now

-- no tables were made of a dump, and the fault says why; a fault of the store says what it says
-- wherever none are made (FailsToMakeTables) (profile)
pub record FailsToLoadTables {S : Type 0} (g : Ghosts S) (source : List ℕ) (start now : Told)
    (conn left : Held S) (fault : DeskLoadFault) : Type 0 where
  pub none : MakesNone g (HasLoadedRows source start now) conn left
  pub why : FailsToLoad source start now fault
  pub unmade : (refused : CreateFault) → fault ≡ Unmade refused
      → FailsToMakeTables g (HasLoadedRows source start now) conn left refused
