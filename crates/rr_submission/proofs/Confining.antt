-- The items of a text are well formed, so that a run of them confines what is foreign.
use Rattle.std.proofs.Common.{ℕ, List, [], ◌∷◌, ◌++◌, Ok, Err, subst, sym}
use Rattle.std.proofs.lemmas.List.{append-nil}
use Rattle.std.specs.Prelude.{Result, IfOk, map}
use Rattle.rr_text.specs.Fields.{Field}
use Rattle.rr_text.specs.declared.text_fault.TextFault.{TextFault}
use Rattle.rr_object.specs.declared.code.Code.{Code}
use Rattle.rr_auth.specs.declared.item.Item.{Item}
use Rattle.rr_auth.specs.Laws.{IsItem}
use Rattle.rr_auth.specs.Registries.{Reg, Sound}
use Rattle.rr_auth.specs.Sources.{IsReadIn}
use Rattle.rr_auth.proofs.Steps.{read_item}
use Rattle.rr_registry.specs.RunLaws.{AreFormed, AreReadIn}
use Rattle.rr_registry.specs.Runs.{Run}
use Rattle.rr_registry.specs.declared.outcome.Outcome.{Outcome}
use Rattle.rr_registry.proofs.Confined.{runs_confine}
use Rattle.rr_submission.proofs.Asking.{AreItems-read}
use Rattle.rr_submission.specs.SubmissionItems.{AreItems, ItemRequest, submitted_item}
use Rattle.rr_submission.specs.SubmissionLaws.{ConfinesItems, ConfinesTexts}

-- an item that is read is well formed
formed_action : (source : List ℕ) (action : Result Item Code) → IfOk action (IsReadIn source) →
    IfOk action IsItem
formed_action source (Ok item) read = read_item source item read
formed_action source (Err code) read = tt

-- so are the first ones of a list that is read
formed_items : (source : List ℕ) (items later : List ItemRequest) →
    AreReadIn source (map submitted_item (items ++ later)) → AreFormed (map submitted_item items)
formed_items source [] later read = tt
formed_items source (i ∷ is) later read = (
  formed_action source i.request.action read.0,
  formed_items source is later read.1,
)

-- from a sound registry a run of the first items of a text confines what is foreign
pub items_are_confined : (source : List ℕ) (r : Reg) → Sound r → ConfinesTexts source r
items_are_confined source r sound entries items later s outcomes are run =
    λ h held listed. runs_confine r s (map submitted_item items) outcomes sound
    (formed_items source items later (AreItems-read source are)) run h held listed

-- which is said of the run alone
pub items_confined : (source : List ℕ) (entries : List (Result (List Field) TextFault))
    (items later : List ItemRequest) (r s : Reg) (outcomes : List Outcome)
    → Sound r → AreItems source [] entries (items ++ later) → Run r (map submitted_item items)
    outcomes
    s → ConfinesItems r items outcomes s
items_confined source entries items later r s outcomes sound are run =
    record { confines = items_are_confined source r sound entries items later s outcomes are run }

-- and of a run of all items
pub all_items_confined : (source : List ℕ) (entries : List (Result (List Field) TextFault))
    (items : List ItemRequest) (r s : Reg) (outcomes : List Outcome)
    → Sound r → AreItems source [] entries items → Run r (map submitted_item items) outcomes s →
    ConfinesItems r items outcomes s
all_items_confined source entries items r s outcomes sound are run =
    items_confined source entries items [] r s outcomes sound
    (subst (λ is. AreItems source [] entries is) (sym (append-nil items)) are) run
