-- What a run of a text's items keeps.
use Rattle.std.proofs.Common.{ℕ, List, []}
use Rattle.std.specs.Prelude.{Result, map}
use Rattle.rr_text.specs.Fields.{Field}
use Rattle.rr_text.specs.declared.text_fault.TextFault.{TextFault}
use Rattle.rr_auth.specs.Registries.{Reg}
use Rattle.rr_auth.specs.Sources.{IsRegistryOf}
use Rattle.rr_registry.specs.Runs.{Run}
use Rattle.rr_registry.specs.declared.outcome.Outcome.{Outcome}
use Rattle.rr_registry.proofs.Running.{run_stays_of_source}
use Rattle.rr_submission.proofs.Asking.{AreItems-read}
use Rattle.rr_submission.specs.SubmissionItems.{AreItems, ItemRequest, submitted_item}

pub items_keep_the_source : (source : List ℕ) (entries : List (Result (List Field) TextFault))
    (items : List ItemRequest) (r s : Reg) (outcomes : List Outcome)
    → IsRegistryOf source r → AreItems source [] entries items → Run r (map submitted_item items)
    outcomes s → IsRegistryOf source s
items_keep_the_source source entries items r s outcomes of are run =
    run_stays_of_source source r s (map submitted_item items) outcomes of
    (AreItems-read source are) run
