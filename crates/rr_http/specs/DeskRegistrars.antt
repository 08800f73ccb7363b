-- A desk over tables as a registrar: what the trait `Registrar` means for it, and `Both` does.
use Rattle.std.specs.Prelude.{◌≡◌, ℕ, false, List, Result}
use Rattle.sqlite_trees.specs.declared.store.Store as store
use Rattle.rr_answer.specs.declared.query_fault.QueryFault.{QueryFault}
use Rattle.rr_answer.specs.Answers.{answer_bytes}
use Rattle.rr_answer.specs.Dumps.{dump}
use Rattle.rr_submission.specs.declared.ledger.Ledger as ledger
use Rattle.rr_desk.specs.declared.desk.Desk.{Desk}
use Rattle.rr_desk.specs.Desks.{GivesAnswer, desk_state}
use Rattle.rr_desk.specs.Rows.{KeepsRows}
use Rattle.rr_desk.specs.Stocks.{stock_ledger}
use Rattle.rr_desk.specs.Turns.{Serving}
use Rattle.rr_http.specs.declared.registrar.Registrar as registrar
use Rattle.rr_http.specs.Serving.{Serves}

-- a desk as a ledger: its registry and its store, which keeps the rows of it until the desk is
-- stopped, and whose connection lasts
abbrev pub desk_ledger : {S : Type 0} → store.Ghosts S → ledger.Ghosts (Desk S)
desk_ledger g = record {
  registry = λ desk. desk.stock.registry;
  is_stopped = λ desk. desk.stock.stopped;
  Stops = λ old secrets item new. (stock_ledger g).Stops old.stock secrets item new.stock;
  Lasts = λ old new. (stock_ledger g).Lasts old.stock new.stock;
  Kept = λ desk. (stock_ledger g).Kept desk.stock;
}

-- the text in which a desk answers a query, which changes nothing of it; until it is stopped it
-- keeps the rows of its registry
pub record IsDeskAnswer {S : Type 0} (g : store.Ghosts S) (before : Desk S) (query text : List ℕ)
    (after : Desk S) : Type 0 where
  pub answer : Result (List ℕ) QueryFault
  pub answered : GivesAnswer before query answer
  pub is : text ≡ answer_bytes answer
  pub same : after ≡ before
  pub keeps : before.stock.stopped ≡ false → KeepsRows before.stock.registry (desk_state g after)

-- a desk answers queries, gives the public dump of its registry, and takes submissions until it is
-- stopped
abbrev pub desk_registrar : {S : Type 0} → store.Ghosts S → registrar.Ghosts (Desk S)
desk_registrar g = record {
  ledger = desk_ledger g;
  settings = λ desk. desk.settings;
  Answers = λ before query text after. IsDeskAnswer g before query text after;
  dumped = λ desk. dump false desk.stock.registry;
}

-- what serving a connection of a desk does
abbrev pub serves_desk : Serving
serves_desk S g before after visit = Serves (desk_registrar g) before after visit
