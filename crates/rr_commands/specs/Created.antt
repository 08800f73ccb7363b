-- What `irrdesk init` does, by how it ends, for the contracts of `init` and `create_to`. What is
-- said of rows holds where the disk gives back what was written (profile).
use Rattle.std.specs.Prelude.{◌≡◌, ℕ, ◌⊎◌, List, Err, codes}
use Rattle.sqlite_trees.specs.declared.store.Store.{Ghosts}
use Rattle.sqlite.specs.Held.{Held}
use Rattle.rr_store.specs.declared.store_fault.CreateFault.{CreateFault}
use Rattle.rr_desk.specs.Opened.{FailsToMakeTables, HasOpeningRows, IsRunning, MakesTables}
use Rattle.rr_desk.specs.Opening.{IsOpeningRegistry}
use Rattle.rr_desk.specs.Settings.{SettingsParts}
use Rattle.rr_desk.specs.declared.desk.Desk.{Desk}
use Rattle.rr_commands.specs.Commands.{Act, ActsBySettings, CommandEnd, InDatabase}
use Rattle.rr_commands.specs.Commands.{ProgramEnd}
use Rattle.rr_commands.specs.Faults.{IsAbout}
use Rattle.rr_commands.specs.Worlds.{Deed, Ports}
use Rattle.rr_commands.specs.Printed.{HasTold}
use Rattle.rr_commands.specs.declared.registry_databases.Absent.TheVariants.{Made}
use Rattle.rr_commands.specs.declared.trouble.Trouble.TheVariants.{Creating}

-- the line that says how many objects a registry opens with (profile)
abbrev pub created_line : List ℕ
created_line = codes "created 4 objects\n"

module _ {S : Type 0} (g : Ghosts S) (settings : SettingsParts) where
  -- no registry was made, and the fault says why. What there was stands while the connection is
  -- open, and a stop of the process may still leave the tables that were to be made. Nothing was
  -- printed (profile)
  pub record IsUncreated (done : Deed (Held S) CommandEnd) : Type 0 where
    pub fault : CreateFault
    pub told : done.ended ≡ Err (Creating fault)
    pub fails : FailsToMakeTables g (HasOpeningRows settings) done.before.has done.after.has fault
    pub silent : done.after.output ≡ done.before.output

  -- the registry that opens with the settings was made, at a desk that runs with them, and the
  -- connection is given back. The line that says so was printed, or not whole (profile)
  pub record IsCreated (done : Deed (Held S) CommandEnd) : Type 0 where
    pub desk : Desk S
    pub runs : IsRunning g settings desk
    pub opened : IsOpeningRegistry settings desk.stock.registry
    pub makes : MakesTables g (HasOpeningRows settings) done.before.has desk.stock.store
    pub given_back : done.after.has ≡ desk.stock.store
    pub tells : HasTold created_line done

-- what `irrdesk init` does in a database (profile)
abbrev pub CreatesIn : {S : Type 0} → Ghosts S → SettingsParts → Act (Held S)
CreatesIn g settings done = IsUncreated g settings done ⊎ IsCreated g settings done

-- what `irrdesk init` does. If its settings file gives no settings, or the database that these name
-- is refused, nothing is printed, and the fault says why. Otherwise a registry is made there or not
-- (`CreatesIn`), and the database is closed. A fault shows the place of its trouble (profile)
abbrev pub CreatesBy : {D S : Type 0} → Ports D S → List ℕ → Deed D ProgramEnd → Type 0
CreatesBy by file =
    ActsBySettings by.files file (IsAbout file)
    (InDatabase by.stores Made (CreatesIn by.stores.store))
