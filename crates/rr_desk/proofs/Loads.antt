-- What a dump is loaded as, and why none is, from what the layers below answer.
use Rattle.std.proofs.Common.{◌≡◌, ℕ, List, subst}
use Rattle.sqlite_trees.specs.declared.store.Store.{Ghosts}
use Rattle.sqlite.specs.Effect.{Database}
use Rattle.sqlite.specs.Held.{Held}
use Rattle.rr_io.specs.Told.{Told}
use Rattle.rr_object.specs.Objects.{Obj}
use Rattle.rr_auth.specs.Registries.{Reg}
use Rattle.rr_registry.specs.declared.load.LoadFault.{LoadFault}
use Rattle.rr_registry.specs.Loading.{IsFaultOf, IsTaken}
use Rattle.rr_store.specs.Maps.{HasRows}
use Rattle.rr_store.specs.declared.store_fault.CreateFault.{CreateFault}
use Rattle.rr_desk.specs.DumpReadings.{HasRead}
use Rattle.rr_desk.specs.Loaded.{FailsToLoadTables, HasLoadedRows, HasReadDump, IsLoaded}
use Rattle.rr_desk.specs.Loaded.{IsUntaken}
use Rattle.rr_desk.specs.Opened.{FailsToMakeTables}
use Rattle.rr_desk.specs.declared.loading.DeskLoadFault.{DeskLoadFault}
use Rattle.rr_desk.specs.declared.loading.DeskLoadFault.TheVariants.{Unmade}
use Rattle.rr_desk.proofs.ListRows.{fails_as}

pub taken_loads : (source : List ℕ) (start now : Told) (objects : List Obj) (registry : Reg) →
    HasRead source start now objects → IsTaken objects registry → IsLoaded source start now registry
taken_loads source start now objects registry read taken = record {
  text = read.text;
  reads = read.reads;
  dump = record { objects = objects; are = read.are; taken = taken };
}

pub untaken : (source : List ℕ) (start now : Told) (objects : List Obj) (fault : LoadFault) →
    HasRead source start now objects → IsFaultOf objects fault → IsUntaken source start now fault
untaken source start now objects fault read is =
    record { objects = objects; read = read; is_fault = is }

module _ {S : Type 0} (g : Ghosts S) (source : List ℕ) (start now : Told) (registry : Reg)
    (loaded : IsLoaded source start now registry) (conn left : Held S) where
  loaded_rows : (db : Database) → HasRows registry db → HasLoadedRows source start now db
  loaded_rows db rows = record { registry = registry; is_loaded = loaded; rows = rows }

  -- the fault of the load says why no tables were made, and no other reason
  unmade_so : (fault refused : CreateFault) → FailsToMakeTables g (HasLoadedRows source start now)
      conn left fault → ◌≡◌ {A = DeskLoadFault} (Unmade fault) (Unmade refused)
      → FailsToMakeTables g (HasLoadedRows source start now) conn left refused
  unmade_so fault refused fails is =
      let same : fault ≡ refused = cc in
      subst (λ (f : CreateFault). FailsToMakeTables g (HasLoadedRows source start now) conn left f)
      same fails

  pub unmade_fails : (fault : CreateFault) → FailsToMakeTables g (HasRows registry) conn left fault
      → FailsToLoadTables g source start now conn left (Unmade fault)
  unmade_fails fault fails =
      let these : FailsToMakeTables g (HasLoadedRows source start now) conn left fault =
      fails_as g conn left fault loaded_rows fails in
      let read : HasReadDump source start now =
      record { registry = registry; is_loaded = loaded } in record {
        none = these.none;
        why = read;
        unmade = λ refused is. unmade_so fault refused these is;
      }
