-- Histories of one database: what was done to it, as the calls of desks promise it, and that each
-- is one of its registry by itself (profile).
use Rattle.std.specs.Prelude.{◌≡◌, ◌⊎◌, ℕ, Bool, true, false, List, [], ◌∷◌, Result, Ok, Err}
use Rattle.sqlite_trees.specs.declared.store.Store.{Ghosts}
use Rattle.sqlite_trees.specs.Tree.{Trees}
use Rattle.sqlite.specs.Effect.{Database}
use Rattle.sqlite.specs.Held.{Held, state}
use Rattle.sqlite.specs.State.{HasCleanDisk}
use Rattle.rr_io.specs.Told.{Told}
use Rattle.rr_io.specs.Sending.{Writes}
use Rattle.rr_object.specs.Objects.{Obj}
use Rattle.rr_auth.specs.Registries.{Reg}
use Rattle.rr_auth.specs.Sources.{IsRegistryOf}
use Rattle.rr_answer.specs.Answers.{answer_bytes}
use Rattle.rr_answer.specs.Dumps.{dump}
use Rattle.rr_answer.specs.declared.query_fault.QueryFault.{QueryFault}
use Rattle.rr_store.specs.Entries.{TreesOf}
use Rattle.rr_store.specs.Maps.{AreOldStored, HasRows, HasVersion}
use Rattle.rr_store.specs.Tables.{HasTables, meta_tree}
use Rattle.rr_store.specs.Calls.{OnCleanDisk, WhileOpen, database}
use Rattle.rr_store.specs.declared.store_fault.MigrateFault.{MigrateFault}
use Rattle.rr_store.specs.declared.store_fault.OpenFault.{OpenFault}
use Rattle.rr_submission.specs.declared.submission.SubmissionFault.{SubmissionFault}
use Rattle.rr_submission.specs.declared.submission.Done.{Done}
use Rattle.rr_submission.specs.Submissions.{RefusesSubmission}
use Rattle.rr_desk.specs.declared.desk.Desk.{Desk}
use Rattle.rr_desk.specs.Desks.{GivesAnswer, LeavesDesk, SubmitsTo, desk_state}
use Rattle.rr_desk.specs.Events.{Event, IsMadeBy, Making, asked, closed, dumped, made, migrated}
use Rattle.rr_desk.specs.Events.{of_dump, of_settings, opened, stopped, submitted, unmade}
use Rattle.rr_desk.specs.Events.{unmigrated, unopened}
use Rattle.rr_desk.specs.Loaded.{HasLoadedRows}
use Rattle.rr_desk.specs.Migrating.{FailsToMigrateTables, MigratesTables}
use Rattle.rr_desk.specs.Modes.{Found, MayBeFound, Mode, RunsAs, halted, no_registry, old_tables}
use Rattle.rr_desk.specs.Modes.{one_grown, one_made, resting, running, that_registry}
use Rattle.rr_desk.specs.Opened.{FailsToOpenTables, HasOpeningRows, IsRunning, MakesNone}
use Rattle.rr_desk.specs.Opened.{MakesTables, OpensTables}
use Rattle.rr_desk.specs.Rows.{KeepsRows}
use Rattle.rr_desk.specs.Settings.{SettingsParts}

-- where a database is between two calls: at a desk, or at a connection that no desk has
pub data Place (S : Type 0) : Type 0 where
  at_desk : Desk S → Place S
  at_rest : Held S → Place S

-- the connection to a database, at a desk or at rest
abbrev pub connection : {S : Type 0} → Place S → Held S
connection (at_desk desk) = desk.stock.store
connection (at_rest conn) = conn

-- tables hold the rows of the registry that is made so
abbrev pub rows_by : Making → Database → Type 0
rows_by (of_settings by) = HasOpeningRows by
rows_by (of_dump source start now) = HasLoadedRows source start now

-- where a row says the version of tables, the schema has the three tables: a connection reads its
-- schema from the trees
abbrev pub ListsTables : Database → Type 0
ListsTables db = (version : List ℕ) → HasVersion version db → HasTables db.schema

-- trees have the rows of a registry that is what may be found
abbrev pub HaveFound : Found → Trees → Type 0
HaveFound found trees = (r : Reg) × MayBeFound found r × TreesOf (HasRows r) trees

-- trees are the rows of no registry, nor of objects in tables of version 1
pub record AreOfNone (trees : Trees) : Type 0 where
  pub none : (r : Reg) → TreesOf (HasRows r) trees → ⊥
  pub no_old : (source : List ℕ) (objects : List Obj)
      → TreesOf (AreOldStored source objects) trees → ⊥

-- trees in which this may be found: no registry, that one, one that was made so, tables of version
-- 1, or what these are migrated to
abbrev pub AreOf : Found → Trees → Type 0
AreOf no_registry trees = AreOfNone trees
AreOf (that_registry r) trees = HaveFound (that_registry r) trees
AreOf (one_made how) trees = HaveFound (one_made how) trees
AreOf (old_tables objects) trees =
    (source : List ℕ) × TreesOf (AreOldStored source objects) trees
AreOf (one_grown by objects) trees = HaveFound (one_grown by objects) trees

-- trees in which one of these may be found
abbrev pub AreOfOne : List Found → Trees → Type 0
AreOfOne [] trees = ⊥
AreOfOne (found ∷ others) trees = AreOf found trees ⊎ AreOfOne others trees

module _ {S : Type 0} (g : Ghosts S) where
  -- what `Desk::submit` promises of a submission, clause by clause
  pub record IsSubmission (old new : Desk S) (reader_old reader_new writer_old writer_new : Told)
      (result : Result Done SubmissionFault) : Type 0 where
    pub refuses : old.stock.stopped ≡ true
        → RefusesSubmission old new reader_old reader_new writer_old writer_new result
    pub submits : old.stock.stopped ≡ false
        → SubmitsTo g old new reader_old reader_new writer_old writer_new result
    pub leaves : LeavesDesk g old new result

  -- a connection was opened anew after a stop, over a disk that had given back what was written.
  -- Where the disk still does, it found trees that the stop may have left, and the schema that they
  -- list, and a further stop leaves only such trees
  pub record IsFoundAfter (old new : Held S) : Type 0 where
    pub clean : HasCleanDisk (state g old)
    pub found : OnCleanDisk g new ((state g old).may_leave (database g new).trees)
    pub lists : OnCleanDisk g new (ListsTables (database g new))
    pub leaves : OnCleanDisk g new
        ((trees : Trees) → (state g new).may_leave trees → (state g old).may_leave trees)

  -- an event of a database, as the call promises it. At a desk these are a submission, which alone
  -- changes the desk; a query; a dump, while the desk runs; and its closing. At a connection they
  -- are the opening, making or migration of a registry, or that it failed. A stop comes at either
  pub data Happens : Place S → Event → Place S → Type 0 where
    submission : (old new : Desk S) (reader_old reader_new writer_old writer_new : Told)
        (result : Result Done SubmissionFault) →
        IsSubmission old new reader_old reader_new writer_old writer_new result →
        Happens (at_desk old) (submitted reader_old reader_new writer_old writer_new result)
        (at_desk new)
    query : (desk : Desk S) (text : List ℕ) (answer : Result (List ℕ) QueryFault) →
        GivesAnswer desk text answer →
        Happens (at_desk desk) (asked text (answer_bytes answer)) (at_desk desk)
    printing : (desk : Desk S) (full : Bool) → desk.stock.stopped ≡ false →
        Happens (at_desk desk) (dumped full (dump full desk.stock.registry)) (at_desk desk)
    closing : (desk : Desk S) (conn : Held S) → conn ≡ desk.stock.store →
        Happens (at_desk desk) closed (at_rest conn)
    opening : (by : SettingsParts) (conn : Held S) (desk : Desk S) →
        IsRunning g by desk → OpensTables g conn desk.stock →
        Happens (at_rest conn) (opened by) (at_desk desk)
    no_opening : (by : SettingsParts) (conn left : Held S) (fault : OpenFault) →
        FailsToOpenTables g by.source conn left fault →
        Happens (at_rest conn) (unopened by fault) (at_rest left)
    making : (by : SettingsParts) (how : Making) (conn : Held S) (desk : Desk S) →
        IsRunning g by desk → IsMadeBy how desk.stock.registry
        → MakesTables g (rows_by how) conn desk.stock.store →
        Happens (at_rest conn) (made by how) (at_desk desk)
    no_making : (how : Making) (conn left : Held S) → MakesNone g (rows_by how) conn left →
        Happens (at_rest conn) (unmade how) (at_rest left)
    migration : (by : SettingsParts) (conn : Held S) (desk : Desk S) →
        IsRunning g by desk → MigratesTables g by conn desk.stock →
        Happens (at_rest conn) (migrated by) (at_desk desk)
    no_migration : (by : SettingsParts) (conn left : Held S) (fault : MigrateFault) →
        FailsToMigrateTables g by conn left fault →
        Happens (at_rest conn) (unmigrated by fault) (at_rest left)
    stop : (place : Place S) (conn : Held S) → IsFoundAfter (connection place) conn →
        Happens place stopped (at_rest conn)

  -- a history: events, each from where the one before it left the database
  abbrev pub History : Place S → List Event → Place S → Type 0
  History first [] last = last ≡ first
  History first (event ∷ later) last =
      (between : Place S) × Happens first event between × History between later last

  -- a connection that is open has rows in which one of these may be found, and a schema that lists
  -- their tables; a stop leaves only such rows. This holds where the disk gives back what was
  -- written
  pub record HasOne (found : List Found) (conn : Held S) : Type 0 where
    pub rows : WhileOpen g conn (AreOfOne found (database g conn).trees)
    pub lists : WhileOpen g conn (ListsTables (database g conn))
    pub leaves : OnCleanDisk g conn
        ((trees : Trees) → (state g conn).may_leave trees → AreOfOne found trees)

  -- a desk runs by these settings with this registry, which is of their source: its tables hold the
  -- rows of it, and a stop leaves these
  pub record RunsWith (by : SettingsParts) (desk : Desk S) (r : Reg) : Type 0 where
    pub running : desk.stock.stopped ≡ false
    pub settings : desk.settings ≡ by
    pub registry : desk.stock.registry ≡ r
    pub of_source : IsRegistryOf by.source r
    pub keeps : KeepsRows r (desk_state g desk)

  -- a desk by these settings stopped, and its tables have rows in which one of these may be found
  pub record StopsWith (by : SettingsParts) (desk : Desk S) (found : List Found) : Type 0 where
    pub stopped : desk.stock.stopped ≡ true
    pub settings : desk.settings ≡ by
    pub has : HasOne found desk.stock.store

  -- the database stands as this registry by itself does: at a desk that runs or stopped as it, or
  -- at rest
  abbrev pub Stands : Place S → Mode → Type 0
  Stands (at_desk desk) (running by r) = RunsWith by desk r
  Stands (at_desk desk) (halted by found) = StopsWith by desk found
  Stands (at_desk desk) (resting found) = ⊥
  Stands (at_rest conn) (running by r) = ⊥
  Stands (at_rest conn) (halted by found) = ⊥
  Stands (at_rest conn) (resting found) = HasOne found conn

  -- the registry by itself tells the same of the same events, and the database stands as it does
  pub record EndsAs (first : Mode) (events : List Event) (last : Place S) : Type 0 where
    pub mode : Mode
    pub runs : RunsAs first events mode
    pub stands : Stands last mode

  -- each history of a database is one of the registry by itself as which it stood at first, over a
  -- disk that gives back what was written
  abbrev pub HistoriesAreRuns : Type 0
  HistoriesAreRuns =
      (first last : Place S) (mode : Mode) (events : List Event)
      → Stands first mode → History first events last
      → HasCleanDisk (state g (connection last)) → EndsAs mode events last

  -- a desk that runs stands as its registry by itself
  abbrev pub DesksStand : Type 0
  DesksStand =
      (by : SettingsParts) (desk : Desk S) → IsRunning g by desk
      → Stands (at_desk desk) (running by desk.stock.registry)

  -- where the disk gives back what was written, the first table of the database has no row, as that
  -- of a new one has none: while the connection is open, and in what a stop leaves
  pub record HasEmptyMeta (conn : Held S) : Type 0 where
    pub rows : WhileOpen g conn ((database g conn).trees meta_tree ≡ [])
    pub leaves : OnCleanDisk g conn
        ((trees : Trees) → (state g conn).may_leave trees → trees meta_tree ≡ [])

  -- a connection to such a database (`HasEmptyMeta`) stands as no registry
  abbrev pub BlanksStand : Type 0
  BlanksStand = (conn : Held S) → HasEmptyMeta conn → Stands (at_rest conn)
      (resting (no_registry ∷ []))

  -- what making a registry did, by its answer
  abbrev pub MakesEvent : {E : Type 0} → SettingsParts → Making → Held S
      → Result (Desk S) (E × Held S) → Type 0
  MakesEvent by how conn (Ok desk) = Happens (at_rest conn) (made by how) (at_desk desk)
  MakesEvent by how conn (Err unmade_for) =
      Happens (at_rest conn) (unmade how) (at_rest unmade_for.1)

  -- what opening tables did, by its answer
  abbrev pub OpensEvent : SettingsParts → Held S → Result (Desk S) (OpenFault × Held S) → Type 0
  OpensEvent by conn (Ok desk) = Happens (at_rest conn) (opened by) (at_desk desk)
  OpensEvent by conn (Err refused) =
      Happens (at_rest conn) (unopened by refused.0) (at_rest refused.1)

  -- what migrating tables did, by its answer
  abbrev pub MigratesEvent : SettingsParts → Held S → Result (Desk S) (MigrateFault × Held S)
      → Type 0
  MigratesEvent by conn (Ok desk) = Happens (at_rest conn) (migrated by) (at_desk desk)
  MigratesEvent by conn (Err refused) =
      Happens (at_rest conn) (unmigrated by refused.0) (at_rest refused.1)

  -- a query was answered, which is the event with the whole answer; its bytes were written, or
  -- where a write failed the beginning of them and not all
  pub record AsksEvent {X E : Type 0} (desk : Desk S) (text : List ℕ)
      (writer_old writer_new : Told) (result : Result X E) : Type 0 where
    pub bytes : List ℕ
    pub happens : Happens (at_desk desk) (asked text bytes) (at_desk desk)
    pub writes : Writes writer_old writer_new bytes result
