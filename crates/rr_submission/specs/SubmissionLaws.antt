-- Laws of the items of a submission: they keep the source of a registry, and confine what is
-- foreign.
use Rattle.std.specs.Prelude.{ℕ, List, [], ◌++◌, map, Result}
use Rattle.rr_text.specs.Fields.{Field}
use Rattle.rr_text.specs.declared.text_fault.TextFault.{TextFault}
use Rattle.rr_auth.specs.Registries.{Reg, Sound}
use Rattle.rr_auth.specs.Sources.{IsRegistryOf}
use Rattle.rr_registry.specs.Confined.{Confines}
use Rattle.rr_registry.specs.Runs.{Run}
use Rattle.rr_registry.specs.declared.outcome.Outcome.{Outcome}
use Rattle.rr_submission.specs.SubmissionItems.{AreItems, ItemRequest, submitted_item}

-- a run of the items of a text, read in the source of a registry, leaves a registry of that source
abbrev pub ItemsKeepTheSource : Type 0
ItemsKeepTheSource =
    (source : List ℕ) (entries : List (Result (List Field) TextFault)) (items : List ItemRequest)
    (r s : Reg) (outcomes : List Outcome)
    → IsRegistryOf source r → AreItems source [] entries items
    → Run r (map submitted_item items) outcomes s → IsRegistryOf source s

-- this run of items is confined. Where a prefix is held and each item is foreign to its holders or
-- their own, those not foreign are answered as if nobody else had submitted anything. What the
-- holders hold ends as it then would, and the prefix stays held
pub record ConfinesItems (before : Reg) (items : List ItemRequest) (outcomes : List Outcome)
    (after : Reg) : Type 0 where
  pub confines : Confines before (map submitted_item items) outcomes after

-- each run of the first items of a text from this registry is confined. Where a prefix is held and
-- each item is foreign to its holders or their own, those not foreign are answered as if nobody
-- else had submitted anything. What the holders hold ends as it then would, and the prefix stays
-- held
abbrev pub ConfinesTexts : List ℕ → Reg → Type 0
ConfinesTexts source r =
    (entries : List (Result (List Field) TextFault)) (items later : List ItemRequest) (s : Reg)
    (outcomes : List Outcome)
    → AreItems source [] entries (items ++ later) → Run r (map submitted_item items) outcomes s
    → Confines r (map submitted_item items) outcomes s

-- from each sound registry each text is confined. A run of its first items, each foreign to the
-- holders of a held prefix or their own, answers those not foreign as if nobody else had submitted
-- anything
abbrev pub ItemsAreConfined : Type 0
ItemsAreConfined = (source : List ℕ) (r : Reg) → Sound r → ConfinesTexts source r
