-- A registry by itself, without tables: what it does at each event (profile). Histories are
-- compared with it.
use Rattle.std.specs.Prelude.{◌≡◌, ◌⊎◌, ℕ, Bool, true, false, if◌then◌else◌, List, [], ◌∷◌}
use Rattle.std.specs.Prelude.{IsPermutation, Result, Err}
use Rattle.std.specs.FinMap.{empty}
use Rattle.rr_io.specs.Told.{Told}
use Rattle.rr_object.specs.Objects.{Obj}
use Rattle.rr_auth.specs.Registries.{Reg}
use Rattle.rr_auth.specs.Sources.{IsRegistryOf}
use Rattle.rr_auth.specs.declared.item.Item.{Item}
use Rattle.rr_registry.specs.declared.outcome.Outcome.{Outcome}
use Rattle.rr_registry.specs.Runs.{IsStep}
use Rattle.rr_answer.specs.Answers.{answer_bytes}
use Rattle.rr_answer.specs.Dumps.{dump}
use Rattle.rr_answer.specs.Queries.{is_too_long}
use Rattle.rr_answer.specs.declared.query_fault.QueryFault.{QueryFault}
use Rattle.rr_answer.specs.declared.query_fault.QueryFault.TheVariants as query_fault
use Rattle.rr_store.specs.declared.store_fault.MigrateFault.{MigrateFault}
use Rattle.rr_store.specs.declared.store_fault.OpenFault.{OpenFault}
use Rattle.rr_submission.specs.declared.ledger.Ledger as ledger
use Rattle.rr_submission.specs.declared.submission.SubmissionFault.{SubmissionFault}
use Rattle.rr_submission.specs.declared.submission.Done.{Done}
use Rattle.rr_submission.specs.Submissions.{RefusesSubmission, SubmitsText, UnlessLedgerStopped}
use Rattle.rr_desk.specs.Answering.{IsAnswered}
use Rattle.rr_desk.specs.Events.{Event, IsMadeBy, Making, asked, closed, dumped, made, migrated}
use Rattle.rr_desk.specs.Events.{opened, stopped, submitted, unmade, unmigrated, unopened}
use Rattle.rr_desk.specs.Migrating.{AreRegistry, HasUpper}
use Rattle.rr_desk.specs.Settings.{SettingsParts}
use Rattle.rr_desk.specs.Stops.{changes}

-- what the next opening may find: no registry; that one; one that was made so; tables of version 1
-- with these objects; or what migration by settings makes of these
pub data Found : Type 0 where
  no_registry : Found
  that_registry : Reg → Found
  one_made : Making → Found
  old_tables : List Obj → Found
  one_grown : SettingsParts → List Obj → Found

-- a registry is what migration by settings makes of these objects, in some order: they are a sound
-- one, and it has the block of the AS numbers of more than 16 bits beside them (RFC 6793)
pub record IsGrownOf (by : SettingsParts) (objects : List Obj) (r : Reg) : Type 0 where
  pub ordered : List Obj
  pub same : IsPermutation objects ordered
  pub sound : AreRegistry ordered
  pub grown : HasUpper by ordered r

-- a registry is what may be found
abbrev pub MayBeFound : Found → Reg → Type 0
MayBeFound no_registry r = ⊥
MayBeFound (that_registry s) r = r ≡ s
MayBeFound (one_made making) r = IsMadeBy making r
MayBeFound (old_tables objects) r = ⊥
MayBeFound (one_grown by objects) r = IsGrownOf by objects r

-- a registry is one of those that may be found
abbrev pub IsOneOf : List Found → Reg → Type 0
IsOneOf [] r = ⊥
IsOneOf (found ∷ others) r = MayBeFound found r ⊎ IsOneOf others r

-- there may be no registry
abbrev pub may_be_none : List Found → Bool
may_be_none [] = false
may_be_none (no_registry ∷ others) = true
may_be_none (that_registry r ∷ others) = may_be_none others
may_be_none (one_made making ∷ others) = may_be_none others
may_be_none (old_tables objects ∷ others) = may_be_none others
may_be_none (one_grown by objects ∷ others) = may_be_none others

-- what may be found once a registry was to be made so: where there may have been none, also that
-- one
abbrev pub with_made : Making → List Found → List Found
with_made making found = if may_be_none found then one_made making ∷ found else found

-- what may be found once tables of version 1 were to be migrated: also what they are migrated to
abbrev pub with_grown : SettingsParts → List Found → List Found
with_grown by [] = []
with_grown by (no_registry ∷ others) = no_registry ∷ with_grown by others
with_grown by (that_registry r ∷ others) = that_registry r ∷ with_grown by others
with_grown by (one_made making ∷ others) = one_made making ∷ with_grown by others
with_grown by (old_tables objects ∷ others) =
    old_tables objects ∷ (one_grown by objects ∷ with_grown by others)
with_grown by (one_grown other objects ∷ others) = one_grown other objects ∷ with_grown by others

-- a registry is what one of the tables of version 1 that may be found is migrated to
abbrev pub IsGrownOfOne : SettingsParts → List Found → Reg → Type 0
IsGrownOfOne by [] r = ⊥
IsGrownOfOne by (no_registry ∷ others) r = IsGrownOfOne by others r
IsGrownOfOne by (that_registry s ∷ others) r = IsGrownOfOne by others r
IsGrownOfOne by (one_made making ∷ others) r = IsGrownOfOne by others r
IsGrownOfOne by (old_tables objects ∷ others) r =
    IsGrownOf by objects r ⊎ IsGrownOfOne by others r
IsGrownOfOne by (one_grown other objects ∷ others) r = IsGrownOfOne by others r

-- a registry by itself: it runs, by settings; it stopped, and is not opened again yet; or nobody
-- runs it. Of the last two, what the next opening may find
pub data Mode : Type 0 where
  running : SettingsParts → Reg → Mode
  halted : SettingsParts → List Found → Mode
  resting : List Found → Mode

-- the registries that the next opening may have
abbrev pub MayOpen : Mode → Reg → Type 0
MayOpen (running by r) s = s ≡ r
MayOpen (halted by found) s = IsOneOf found s
MayOpen (resting found) s = IsOneOf found s

-- the registry that runs; an empty one where none does
abbrev pub registry_in : Mode → Reg
registry_in (running by r) = r
registry_in (halted by found) = empty
registry_in (resting found) = empty

-- no registry runs: it stopped, or nobody runs it
abbrev pub is_halted : Mode → Bool
is_halted (running by r) = false
is_halted (halted by found) = true
is_halted (resting found) = true

-- it stopped at an item that changes it: the next opening finds the registry before the item or the
-- one after it
pub record HaltsAt (by : SettingsParts) (old : Mode) (secrets : List (List ℕ)) (item : Item)
    (new : Mode) : Type 0 where
  pub outcome : Outcome
  pub after : Reg
  pub step : IsStep (registry_in old) secrets item outcome after
  pub changing : changes outcome ≡ true
  pub halts : new ≡ halted by (that_registry (registry_in old) ∷ (that_registry after ∷ []))

-- a registry by itself, as a ledger
abbrev pub plain_ledger : SettingsParts → ledger.Ghosts Mode
plain_ledger by = record {
  registry = registry_in;
  is_stopped = is_halted;
  Stops = HaltsAt by;
  Lasts = λ old new. Unit {0};
  Kept = λ mode. Unit {0};
}

-- the answer of a registry that stopped, by whether the text of a query is too long
abbrev pub halted_reply : Bool → Result (List ℕ) QueryFault
halted_reply true = Err query_fault.TooLong
halted_reply false = Err query_fault.Stopped

-- what one event does to a registry by itself
pub data Moves : Mode → Event → Mode → Type 0 where
  -- it decides the items of a submission in order, until it stops; once stopped it takes none
  decides : (by : SettingsParts) (r : Reg) (new : Mode)
      (reader_old reader_new writer_old writer_new : Told) (result : Result Done SubmissionFault) →
      SubmitsText (plain_ledger by) (running by r) new by.source reader_old reader_new writer_old
      writer_new result
      → UnlessLedgerStopped result (new ≡ running by (registry_in new)) →
      Moves (running by r) (submitted reader_old reader_new writer_old writer_new result) new
  refuses : (by : SettingsParts) (found : List Found)
      (reader_old reader_new writer_old writer_new : Told) (result : Result Done SubmissionFault) →
      RefusesSubmission (halted by found) (halted by found) reader_old reader_new
      writer_old writer_new result →
      Moves (halted by found)
      (submitted reader_old reader_new writer_old writer_new result) (halted by found)
  -- it answers a query, or tells that it stopped
  answers : (by : SettingsParts) (r : Reg) (text : List ℕ) (answer : Result (List ℕ) QueryFault) →
      IsAnswered r by.limit text false answer →
      Moves (running by r) (asked text (answer_bytes answer)) (running by r)
  answers_halted : (by : SettingsParts) (found : List Found) (text : List ℕ) →
      Moves (halted by found) (asked text (answer_bytes (halted_reply (is_too_long text))))
      (halted by found)
  -- it is dumped while it runs
  prints : (by : SettingsParts) (r : Reg) (full : Bool) →
      Moves (running by r) (dumped full (dump full r)) (running by r)
  -- closed, or after a stop, it is what it was
  closes : (by : SettingsParts) (r : Reg) →
      Moves (running by r) closed (resting (that_registry r ∷ []))
  closes_halted : (by : SettingsParts) (found : List Found) →
      Moves (halted by found) closed (resting found)
  breaks : (by : SettingsParts) (r : Reg) →
      Moves (running by r) stopped (resting (that_registry r ∷ []))
  breaks_halted : (by : SettingsParts) (found : List Found) →
      Moves (halted by found) stopped (resting found)
  breaks_resting : (found : List Found) → Moves (resting found) stopped (resting found)
  -- it is opened as one that may be found, which is of the settings' source; or it is not
  opens : (by : SettingsParts) (found : List Found) (r : Reg) → IsOneOf found r
      → IsRegistryOf by.source r →
      Moves (resting found) (opened by) (running by r)
  opens_none : (by : SettingsParts) (found : List Found) (fault : OpenFault) →
      Moves (resting found) (unopened by fault) (resting found)
  -- one is made where there may be none; or none is
  makes : (by : SettingsParts) (making : Making) (found : List Found) (r : Reg) →
      may_be_none found ≡ true → IsMadeBy making r →
      Moves (resting found) (made by making) (running by r)
  makes_none : (making : Making) (found : List Found) →
      Moves (resting found) (unmade making) (resting (with_made making found))
  -- tables of version 1 are migrated; or they are not
  migrates : (by : SettingsParts) (found : List Found) (r : Reg) → IsGrownOfOne by found r →
      Moves (resting found) (migrated by) (running by r)
  migrates_none : (by : SettingsParts) (found : List Found) (fault : MigrateFault) →
      Moves (resting found) (unmigrated by fault) (resting (with_grown by found))

-- what events do to it, one after the other
abbrev pub RunsAs : Mode → List Event → Mode → Type 0
RunsAs mode [] last = last ≡ mode
RunsAs mode (event ∷ later) last =
    (between : Mode) × Moves mode event between × RunsAs between later last
