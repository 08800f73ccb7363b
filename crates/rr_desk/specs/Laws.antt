-- What is true of dumps that desks load, of what they answer, and of the turns of a listener: for
-- `src/laws.rt`.
use Rattle.std.specs.Prelude.{◌≡◌, ◌≢◌, ℕ, ◌<◌, ◌≤◌, Bool, true, List}
use Rattle.std.specs.Prelude.{Option, Some, Result, Err}
use Rattle.std.specs.Prelude.{length, slice_get}
use Rattle.std.specs.FinMap.{get}
use Rattle.sqlite.specs.Effect.{Database}
use Rattle.rr_io.specs.Told.{Told}
use Rattle.rr_text.specs.CanonicalText.{canonical}
use Rattle.rr_text.specs.Entries.{size_limit}
use Rattle.rr_object.specs.declared.key.Key.{Key}
use Rattle.rr_object.specs.Objects.{Obj}
use Rattle.rr_auth.specs.Registries.{Reg}
use Rattle.rr_auth.specs.Sources.{IsRegistryOf}
use Rattle.rr_registry.specs.declared.load.LoadFault.TheVariants as list_fault
use Rattle.rr_store.specs.Maps.{HasRows}
use Rattle.rr_answer.specs.Dumps.{dump}
use Rattle.rr_answer.specs.Secrecy.{IsRead, LookAlike}
use Rattle.rr_answer.specs.declared.query_fault.QueryFault.{QueryFault}
use Rattle.rr_answer.specs.declared.query_fault.QueryFault.TheVariants as query_fault
use Rattle.rr_desk.specs.DumpLaws.{IsDumpable}
use Rattle.rr_desk.specs.declared.dump_read_fault.DumpReadFault.TheVariants as read_fault
use Rattle.rr_desk.specs.declared.loading.DeskLoadFault.{DeskLoadFault}
use Rattle.rr_desk.specs.declared.loading.DeskLoadFault.TheVariants.{Unread, Untaken, Unmade}
use Rattle.rr_desk.specs.Answering.{IsAnswered}
use Rattle.rr_desk.specs.Loaded.{FailsToLoad, IsLoaded}
use Rattle.rr_desk.specs.Turns.{InOrder, IsGivenAt, Visit}

-- a fault is of the reader, of the tables or of memory, and not of the text (profile)
abbrev pub IsNotOfText : DeskLoadFault → Type 0
IsNotOfText (Unread read_fault.Read) = Unit {0}
IsNotOfText (Unread read_fault.Endless) = Unit {0}
IsNotOfText (Unread (read_fault.Text n)) = ⊥
IsNotOfText (Unread (read_fault.Object n code)) = ⊥
IsNotOfText (Unread read_fault.Memory) = Unit {0}
IsNotOfText (Untaken (list_fault.Duplicate n)) = ⊥
IsNotOfText (Untaken (list_fault.Overlap n)) = ⊥
IsNotOfText (Untaken (list_fault.Unnamed n)) = ⊥
IsNotOfText (Untaken list_fault.Memory) = Unit {0}
IsNotOfText (Unmade fault) = Unit {0}

-- what is loaded from a reader is this registry, and where nothing is, it is for no fault of the
-- text (profile)
pub record LoadsItself (source : List ℕ) (registry : Reg) (start now : Told) : Type 0 where
  pub loaded : (other : Reg) → IsLoaded source start now other → other ≡ registry
  pub fails : (fault : DeskLoadFault) → FailsToLoad source start now fault → IsNotOfText fault

-- where a reader has the full dump of a registry that can be read again (IsDumpable), a load gives
-- that registry, or its fault is not of the text (profile)
abbrev pub FullDumpsAreLoaded : Type 0
FullDumpsAreLoaded =
    (source : List ℕ) (registry : Reg) (start now : Told)
    → IsDumpable source registry → start.bytes ≡ Some (dump true registry)
    → LoadsItself source registry start now

-- the registry of a source whose rows tables hold can be read again, if none of its canonical texts
-- is over the limit of a paragraph (profile)
abbrev pub RowsAreDumpable : Type 0
RowsAreDumpable =
    (source : List ℕ) (registry : Reg) (db : Database)
    → IsRegistryOf source registry → HasRows registry db
    → ((k : Key) (o : Obj) → get registry k ≡ Some o
    → length (canonical o.paragraph) ≤ size_limit)
    → IsDumpable source registry

-- desks that are both stopped or both not, whose registries look alike, answer each query alike
-- under the same limit, unless memory runs out for either answer. It is said of registries whose
-- objects stand under their own keys and are what their paragraphs read as (profile)
abbrev pub DesksKeepSecrets : Type 0
DesksKeepSecrets =
    (r s : Reg) → IsRead r → IsRead s → LookAlike r s
    → (limit : ℕ) (text : List ℕ) (stopped : Bool) (answer other : Result (List ℕ) QueryFault)
    → IsAnswered r limit text stopped answer → IsAnswered s limit text stopped other
    → answer ≢ Err query_fault.Memory → other ≢ Err query_fault.Memory → answer ≡ other

-- connections whose bytes are told are to come, and are accepted in their order: the first turn is
-- of the first of them, the second of the second, and so on, as far as there are turns (profile)
abbrev pub TurnsAreInOrder : Type 0
TurnsAreInOrder =
    (visits : List (Option Visit)) (waiting : List (List ℕ)) (after : Option (List (List ℕ)))
    → InOrder visits (Some waiting) after
    → (place : ℕ) (bytes : List ℕ) → place < length visits
    → slice_get waiting place ≡ Some bytes
    → IsGivenAt visits place bytes
