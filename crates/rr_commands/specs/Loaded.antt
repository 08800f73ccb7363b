-- What `irrdesk load` does, by how it ends, for the contracts of `load` and `load_to`. What is said
-- of rows holds where the disk gives back what was written (profile).
use Rattle.std.specs.Prelude.{◌≡◌, ℕ, ◌⊎◌, List, ◌++◌, length, Ok, Err, codes}
use Rattle.std.specs.Prelude.{decimal}
use Rattle.std.specs.FinMap.{values}
use Rattle.sqlite_trees.specs.declared.store.Store.{Ghosts}
use Rattle.sqlite.specs.Held.{Held}
use Rattle.rr_io.specs.Told.{Told}
use Rattle.rr_desk.specs.Loaded.{FailsToLoadTables, HasLoadedRows, IsLoaded}
use Rattle.rr_desk.specs.Opened.{IsRunning, MakesTables}
use Rattle.rr_desk.specs.Settings.{SettingsParts}
use Rattle.rr_desk.specs.declared.desk.Desk.{Desk}
use Rattle.rr_desk.specs.declared.loading.DeskLoadFault.{DeskLoadFault}
use Rattle.rr_desk.specs.declared.loading.DeskLoadFault.TheVariants.{Unread, Untaken, Unmade}
use Rattle.rr_commands.specs.Commands.{Act, ActsBySettings, CommandEnd, FailsSilently}
use Rattle.rr_commands.specs.Commands.{InDatabase, IsUnopenedFile, ProgramEnd}
use Rattle.rr_commands.specs.Faults.{IsAboutDump}
use Rattle.rr_commands.specs.Files.{FileCalls}
use Rattle.rr_commands.specs.Printed.{Tells}
use Rattle.rr_commands.specs.Worlds.{Deed, Ports}
use Rattle.rr_commands.specs.declared.registry_databases.Absent.TheVariants.{Made}
use Rattle.rr_commands.specs.declared.trouble.Trouble.{Trouble}
use Rattle.rr_commands.specs.declared.trouble.Trouble.TheVariants.{Creating, DumpUnread}
use Rattle.rr_commands.specs.declared.trouble.Trouble.TheVariants.{DumpUntaken}

-- what is told of a dump that was not loaded (profile)
abbrev pub loading_trouble : DeskLoadFault → Trouble
loading_trouble (Unread fault) = DumpUnread fault
loading_trouble (Untaken fault) = DumpUntaken fault
loading_trouble (Unmade fault) = Creating fault

-- the line that says how many objects were loaded (profile)
abbrev pub loaded_line : ℕ → List ℕ
loaded_line count = codes "loaded " ++ (decimal count ++ codes " objects\n")

-- the line without their number, for want of memory to count them (profile)
abbrev pub uncounted_line : List ℕ
uncounted_line = codes "loaded the dump\n"

-- one of the two lines was written, or could not be written whole: no clause says which of the two
-- (profile)
abbrev pub TellsLoaded : ℕ → Told → Told → CommandEnd → Type 0
TellsLoaded count old new ended =
    Tells (loaded_line count) old new ended ⊎ Tells uncounted_line old new ended

module _ {S : Type 0} (g : Ghosts S) (settings : SettingsParts) (reader_old reader_new : Told) where
  -- no registry was made of what was read, the fault says why, and nothing was printed (profile)
  pub record IsUnloaded (done : Deed (Held S) CommandEnd) : Type 0 where
    pub fault : DeskLoadFault
    pub told : done.ended ≡ Err (loading_trouble fault)
    pub fails : FailsToLoadTables g settings.source reader_old reader_new
        done.before.has done.after.has fault
    pub silent : done.after.output ≡ done.before.output

  -- a dump was read to its end, its registry was made, at a desk that runs with the settings, and
  -- the connection is given back. The line that says so was printed, or not whole (profile)
  pub record HasLoaded (done : Deed (Held S) CommandEnd) : Type 0 where
    pub desk : Desk S
    pub runs : IsRunning g settings desk
    pub loaded : IsLoaded settings.source reader_old reader_new desk.stock.registry
    pub makes : MakesTables g (HasLoadedRows settings.source reader_old reader_new)
        done.before.has desk.stock.store
    pub given_back : done.after.has ≡ desk.stock.store
    pub tells : TellsLoaded (length (values desk.stock.registry))
        done.before.output done.after.output done.ended

-- what the load of a dump does in a database, by what its reader told before and after (profile)
abbrev pub Loads : {S : Type 0} → Ghosts S → SettingsParts → Told → Told → Act (Held S)
Loads g settings reader_old reader_new done =
    IsUnloaded g settings reader_old reader_new done
    ⊎ HasLoaded g settings reader_old reader_new done

-- the file at this path was opened, and its load did this in a database. Its reader told
-- `reader_old` when it was opened, and `reader_new` when all was done (profile)
pub record LoadsFile {S : Type 0} (g : Ghosts S) (settings : SettingsParts) (files : FileCalls)
    (file : List ℕ) (done : Deed (Held S) CommandEnd) : Type 0 where
  pub reader_old : Told
  pub reader_new : Told
  pub opened : files.opens file (Ok reader_old.bytes)
  pub loads : Loads g settings reader_old reader_new done

-- what `irrdesk load` does in a database: its file is not opened and the database stays as it was,
-- or it is read, and loaded or not (profile)
abbrev pub LoadsIn : {S : Type 0} → Ghosts S → FileCalls → List ℕ → SettingsParts → Act (Held S)
LoadsIn g files file settings done =
    (FailsSilently (IsUnopenedFile files file) done × (done.after.has ≡ done.before.has))
    ⊎ LoadsFile g settings files file done

-- what `irrdesk load` does. If its settings file gives no settings, or the database that these name
-- is refused, nothing is printed, and the fault says why. Otherwise the dump is loaded there or not
-- (`LoadsIn`), and the database is closed. A fault shows the place of its trouble, and may show
-- where in the dump (profile)
abbrev pub LoadsBy : {D S : Type 0} → Ports D S → List ℕ → List ℕ → Deed D ProgramEnd → Type 0
LoadsBy by file dump =
    ActsBySettings by.files file (IsAboutDump dump)
    (InDatabase by.stores Made (LoadsIn by.stores.store by.files dump))
