-- What is true of histories of a registry: for `src/laws.rt`.
use Rattle.std.specs.Prelude.{◌≡◌, ◌⊎◌, ℕ, ◌+◌, ◌≤◌, false, List, [], ◌∷◌, ◌++◌}
use Rattle.std.specs.Prelude.{Result, Err, Some, length, map}
use Rattle.sqlite_trees.specs.Tree.{Trees}
use Rattle.sqlite.specs.Effect.{Database}
use Rattle.rr_io.specs.Told.{Told}
use Rattle.rr_text.specs.Entries as texts
use Rattle.rr_text.specs.Fields.{Field}
use Rattle.rr_text.specs.WholePart.{whole_entries}
use Rattle.rr_text.specs.declared.text_fault.TextFault.{TextFault}
use Rattle.rr_auth.specs.Registries.{Reg, Sound}
use Rattle.rr_registry.specs.Confined.{Confines}
use Rattle.rr_registry.specs.Runs.{Run, Submitted}
use Rattle.rr_registry.specs.declared.outcome.Outcome.{Outcome}
use Rattle.rr_answer.specs.Answers.{answer_bytes}
use Rattle.rr_answer.specs.Secrecy.{IsRead, LookAlike}
use Rattle.rr_answer.specs.declared.query_fault.QueryFault.TheVariants as query_fault
use Rattle.rr_store.specs.Entries.{TreesOf}
use Rattle.rr_store.specs.Maps.{HasRows}
use Rattle.rr_store.specs.Tables.{meta_tree}
use Rattle.rr_submission.specs.declared.submission.SubmissionFault.{SubmissionFault}
use Rattle.rr_submission.specs.declared.submission.Done.{Done}
use Rattle.rr_submission.specs.SubmissionItems.{AreItems, ItemRequest, submitted_item}
use Rattle.rr_desk.specs.Events.{Event, asked, closed, counted, dumped, made, migrated}
use Rattle.rr_desk.specs.Events.{opened, stopped, submitted, unmade, unmigrated, unopened}
use Rattle.rr_desk.specs.Histories.{AreOfNone}
use Rattle.rr_desk.specs.Modes.{MayOpen, Mode, Moves, RunsAs, running}
use Rattle.rr_desk.specs.Settings.{SettingsParts}

-- tables hold the rows of one registry at most
abbrev pub RowsTellTheRegistry : Type 0
RowsTellTheRegistry =
    (r s : Reg) (db : Database) → HasRows r db → HasRows s db → r ≡ s

-- let the trees of a database be those of the rows of a registry, as a stop may leave them. A
-- registry whose rows the database then holds, as it is opened, is that one
abbrev pub TreesTellTheRegistry : Type 0
TreesTellTheRegistry =
    (r opening : Reg) (db : Database) → TreesOf (HasRows r) db.trees → HasRows opening db
    → opening ≡ r

-- trees whose first table has no row are those of no registry, nor of tables of version 1
abbrev pub BareTreesAreOfNone : Type 0
BareTreesAreOfNone = (trees : Trees) → trees meta_tree ≡ [] → AreOfNone trees

-- these are the first items of a beginning of what a reader has, where that is told, as they are
-- read in a source: all that an answer counts, and one more at most
pub record AreFirstItems (source : List ℕ) (start : Told) (count : ℕ) (items : List ItemRequest)
    : Type 0 where
  pub text : List ℕ
  pub begins : (xs : List ℕ) → start.bytes ≡ Some xs → (rest : List ℕ) × (xs ≡ text ++ rest)
  pub entries : List (Result (List Field) TextFault)
  pub later : List ItemRequest
  pub are_entries : (entries ≡ texts.entries text) ⊎ (entries ≡ whole_entries text)
  pub are_items : AreItems source [] entries (items ++ later)
  pub at_least : count ≤ length items
  pub at_most : length items ≤ count + 1

-- a registry is another after the first items of what a reader gave: all that an answer counts, and
-- one more at most; or it is the same, and the answer counts none
pub record KeepsReported (source : List ℕ) (start : Told) (count : ℕ) (r s : Reg) : Type 0 where
  pub items : List ItemRequest
  pub outcomes : List Outcome
  pub runs : Run r (map submitted_item items) outcomes s
  pub are_first : (AreFirstItems source start count items) ⊎ ((items ≡ []) × (count ≡ 0))

-- whatever becomes of a submission to a registry that runs, the next opening has the registry after
-- its first items: all that were reported, and one more at most
abbrev pub ReportedIsKept : Type 0
ReportedIsKept =
    (by : SettingsParts) (r s : Reg) (next : Mode)
    (reader_old reader_new writer_old writer_new : Told) (result : Result Done SubmissionFault)
    → Moves (running by r) (submitted reader_old reader_new writer_old writer_new result) next
    → MayOpen next s → KeepsReported by.source reader_old (counted result) r s

-- what was submitted in these events, one submission after the other: of each the first items, all
-- that its answer counts and one more at most
abbrev pub AreSubmittedIn : List Event → List Submitted → Type 0
AreSubmittedIn [] all = all ≡ []
AreSubmittedIn (submitted start now old new result ∷ later) all =
    (source : List ℕ) × (items : List ItemRequest) × (others : List Submitted)
    × (all ≡ map submitted_item items ++ others)
    × ((AreFirstItems source start (counted result) items)
    ⊎ ((items ≡ []) × (counted result ≡ 0)))
    × AreSubmittedIn later others
AreSubmittedIn (asked text bytes ∷ later) all = AreSubmittedIn later all
AreSubmittedIn (dumped full bytes ∷ later) all = AreSubmittedIn later all
AreSubmittedIn (closed ∷ later) all = AreSubmittedIn later all
AreSubmittedIn (opened by ∷ later) all = AreSubmittedIn later all
AreSubmittedIn (unopened by fault ∷ later) all = AreSubmittedIn later all
AreSubmittedIn (made by making ∷ later) all = AreSubmittedIn later all
AreSubmittedIn (unmade making ∷ later) all = AreSubmittedIn later all
AreSubmittedIn (migrated by ∷ later) all = AreSubmittedIn later all
AreSubmittedIn (unmigrated by fault ∷ later) all = AreSubmittedIn later all
AreSubmittedIn (stopped ∷ later) all = AreSubmittedIn later all

-- all that was submitted in a history (`AreSubmittedIn`) is one run from its first registry to its
-- last. Let a prefix be held, and each of this be foreign to its holders or their own. Then the run
-- answers those not foreign as if nobody else had submitted anything. What the holders hold ends as
-- it then would, and the prefix stays held
pub record IsOneRun (r : Reg) (events : List Event) (s : Reg) : Type 0 where
  pub all : List Submitted
  pub outcomes : List Outcome
  pub are_submitted : AreSubmittedIn events all
  pub runs : Run r all outcomes s
  pub confines : Confines r all outcomes s

-- what was submitted in a history that begins with a sound registry that runs is one run
-- (`IsOneRun`), whatever stops it in between
abbrev pub HistoriesAreConfined : Type 0
HistoriesAreConfined =
    (by : SettingsParts) (r s : Reg) (events : List Event) (mode : Mode) → Sound r
    → RunsAs (running by r) events mode → MayOpen mode s → IsOneRun r events s

-- these bytes say that memory ran out
abbrev pub IsKeptBack : List ℕ → Type 0
IsKeptBack bytes = bytes ≡ answer_bytes (Err query_fault.Memory)

-- the same questions were asked, a query or the public dump each, and none was kept back
pub data AreSameQuestions : List Event → List Event → Type 0 where
  no_more : AreSameQuestions [] []
  a_query : (text bytes other_bytes : List ℕ) (events others : List Event) →
      ¬ IsKeptBack bytes → ¬ IsKeptBack other_bytes → AreSameQuestions events others →
      AreSameQuestions (asked text bytes ∷ events) (asked text other_bytes ∷ others)
  a_dump : (bytes other_bytes : List ℕ) (events others : List Event) →
      AreSameQuestions events others →
      AreSameQuestions (dumped false bytes ∷ events) (dumped false other_bytes ∷ others)

-- registries that run and look alike tell the same of the same questions, under the same limit. It
-- is said of registries whose objects stand under their own keys and are what their paragraphs read
-- as
abbrev pub HistoriesKeepSecrets : Type 0
HistoriesKeepSecrets =
    (by other : SettingsParts) (r s : Reg) → by.limit ≡ other.limit
    → IsRead r → IsRead s → LookAlike r s
    → (events others : List Event) (mode end : Mode) → AreSameQuestions events others
    → RunsAs (running by r) events mode → RunsAs (running other s) others end
    → events ≡ others
