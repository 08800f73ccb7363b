-- Lemmas on a desk as a registrar.
use Rattle.std.proofs.Common.{◌≡◌, ℕ, List, Ok, Err, ap, ◌∙◌}
use Rattle.std.specs.Prelude.{Result}
use Rattle.sqlite_trees.specs.declared.store.Store as store
use Rattle.rr_text.specs.Fields.{Field}
use Rattle.rr_text.specs.declared.text_fault.TextFault.{TextFault}
use Rattle.rr_io.specs.Told.{Told}
use Rattle.rr_object.specs.declared.code.Code.{Code}
use Rattle.rr_auth.specs.declared.item.Item.{Item}
use Rattle.rr_submission.specs.declared.submission.Done.{Done}
use Rattle.rr_submission.specs.declared.submission.SubmissionFault.{SubmissionFault}
use Rattle.rr_submission.specs.declared.submission.SubmissionFault.TheVariants as fault
use Rattle.rr_submission.specs.Handled.{StopsAt, HandlesThenStops}
use Rattle.rr_submission.specs.Submissions.{Sides, Submits, UnlessLedgerStopped}
use Rattle.rr_desk.specs.declared.desk.Desk.{Desk}
use Rattle.rr_desk.specs.declared.desk_dumping.DeskDumpFault.{DeskDumpFault}
use Rattle.rr_desk.specs.declared.desk_dumping.DeskDumpFault.TheVariants.{Stopped}
use Rattle.rr_desk.specs.Dumping.{RefusesDump}
use Rattle.rr_desk.specs.Stocks.{stock_ledger}
use Rattle.rr_http.specs.DeskRegistrars.{desk_ledger}

stops_whole : {S : Type 0} (g : store.Ghosts S) (middle new : Desk S) (secrets : List (List ℕ))
    (action : Result Item Code) →
    StopsAt (stock_ledger g) middle.stock secrets action new.stock → StopsAt (desk_ledger g)
    middle secrets action new
stops_whole g middle new secrets (Ok item) stops = stops
stops_whole g middle new secrets (Err code) stops = stops

stopped_whole : {S : Type 0} (g : store.Ghosts S) (source : List ℕ)
    (entries : List (Result (List Field) TextFault)) (old new : Desk S) (before after : Told)
    (count : ℕ) →
    HandlesThenStops (stock_ledger g) source entries old.stock new.stock before after count →
    HandlesThenStops (desk_ledger g) source entries old new before after count
stopped_whole {S} g source entries old new before after count stopped =
    let middle : Desk S = record { settings = old.settings; stock = stopped.middle } in record {
      told = stopped.told;
      last = stopped.last;
      outcomes = stopped.outcomes;
      middle = middle;
      between = stopped.between;
      are_items = stopped.are_items;
      runs = stopped.runs;
      confined = stopped.confined;
      running = stopped.running;
      stops = stops_whole g middle new stopped.last.secrets stopped.last.request.action
          stopped.stops;
      writes = stopped.writes;
      ends = stopped.ends;
      counted = stopped.counted;
    }

-- what a submission does to the registry and the store of a desk, it does to the desk
pub submits_whole : {S : Type 0} (g : store.Ghosts S) (old new : Desk S) (source : List ℕ)
    (sides : Sides) (result : Result Done SubmissionFault) →
    Submits (stock_ledger g) old.stock new.stock source sides result → Submits (desk_ledger g)
    old new source sides result
submits_whole g old new source sides (Ok done) submits = submits
submits_whole g old new source sides (Err (fault.ReadFault items)) submits = submits
submits_whole g old new source sides (Err (fault.WriteFault items)) submits = submits
submits_whole g old new source sides (Err (fault.LedgerStopped items)) submits = record {
  prefix = submits.prefix;
  reads = submits.reads;
  handles = stopped_whole g source _ old new _ _ items submits.handles;
}
submits_whole g old new source sides (Err fault.Memory) submits = submits
submits_whole g old new source sides (Err fault.Stopped) submits = submits

-- a fact that always holds does so after any end of a submission
pub unless_always : (result : Result Done SubmissionFault) (fact : Type 0) → fact →
    UnlessLedgerStopped result fact
unless_always (Ok done) fact holds = holds
unless_always (Err (fault.ReadFault items)) fact holds = holds
unless_always (Err (fault.WriteFault items)) fact holds = holds
unless_always (Err (fault.LedgerStopped items)) fact holds = tt
unless_always (Err fault.Memory) fact holds = holds
unless_always (Err fault.Stopped) fact holds = holds

-- a dump that is refused answers no count
pub no_count : {W P : Type 0} (old new : W) (count : ℕ) → RefusesDump old new (Ok count) → P
no_count old new count refused = let wrong = refused.0 in absurd (cc)

-- a dump that is refused is refused also where no count is to be answered
pub refused_whole : {W : Type 0} (old new : W) (fault : DeskDumpFault)
    (counted : Result ℕ DeskDumpFault) (done : Result (Unit {0}) DeskDumpFault) →
    counted ≡ Err fault → done ≡ Err fault →
    RefusesDump old new counted → RefusesDump old new done
refused_whole old new fault counted done first second refused =
    let same : fault ≡ Stopped = (let is = refused.0 in cc) in
    (second ∙ ap Err same, refused.1)
