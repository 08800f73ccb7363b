-- The items of the entries of a text decided one by one, each with its line (profile): for
-- `Submissions`.
use Rattle.std.specs.Prelude.{◌≡◌, ℕ, ◌+◌, ◌≤◌, ◌⊎◌, false, List, []}
use Rattle.std.specs.Prelude.{◌∷◌, ◌++◌, length, map, Result, Ok, Err}
use Rattle.rr_io.specs.Told.{Told}
use Rattle.rr_io.specs.Receiving.{Gives, IsSpent, read_limit, read_size}
use Rattle.rr_io.specs.Sending.{Takes, TakesPrefix, TakesSome}
use Rattle.rr_text.specs.Entries.{entries}
use Rattle.rr_text.specs.WholePart.{whole_part}
use Rattle.rr_text.specs.Fields.{Field}
use Rattle.rr_text.specs.declared.text_fault.TextFault.{TextFault}
use Rattle.rr_object.specs.declared.code.Code.{Code}
use Rattle.rr_auth.specs.declared.item.Item.{Item}
use Rattle.rr_auth.specs.Registries.{Reg}
use Rattle.rr_registry.specs.declared.outcome.Outcome.{Outcome}
use Rattle.rr_registry.specs.Runs.{Run}
use Rattle.rr_submission.specs.declared.ledger.Ledger.{Ghosts}
use Rattle.rr_submission.specs.SubmissionItems.{AreItems, ItemRequest, submitted_item}
use Rattle.rr_submission.specs.SubmissionLaws.{ConfinesItems}
use Rattle.rr_submission.specs.Reports.{item_line, lines_from, stop_lines}

-- the last item was decided, and its line could not be written whole: the items before it had been
-- decided and their lines written whole. The count is of all of them, and their run is confined
pub record HandlesSome (source : List ℕ) (entries : List (Result (List Field) TextFault))
    (old new : Reg) (writer_old writer_new : Told) (count : ℕ) : Type 0 where
  pub told : List ItemRequest
  pub last : ItemRequest
  pub outcomes : List Outcome
  pub outcome : Outcome
  pub between : Told
  pub are_items : AreItems source [] entries (told ++ last ∷ [])
  pub runs : Run old (map submitted_item (told ++ last ∷ [])) (outcomes ++ outcome ∷ []) new
  pub confined : ConfinesItems old (told ++ last ∷ []) (outcomes ++ outcome ∷ []) new
  pub writes : Takes writer_old between (lines_from 1 told outcomes)
  pub cut : TakesPrefix between writer_new (item_line count last.request.key outcome)
  pub counted : count ≡ length told + 1

-- the ledger stopped at this action, which is an item: it cannot stop at a refusal
abbrev pub StopsAt : {L : Type 0} → Ghosts L → L → List (List ℕ) → Result Item Code → L
    → Type 0
StopsAt g old secrets (Ok item) new = g.Stops old secrets item new
StopsAt g old secrets (Err code) new = ⊥

-- the ledger ran until it stopped at the last item: the items before it, which are counted, had
-- been decided and their lines written whole. Their run is confined. The line of the last item,
-- with the code E91, and the last line after that were written as far as they could be
pub record HandlesThenStops {L : Type 0} (g : Ghosts L) (source : List ℕ)
    (entries : List (Result (List Field) TextFault)) (old new : L) (writer_old writer_new : Told)
    (count : ℕ) : Type 0 where
  pub told : List ItemRequest
  pub last : ItemRequest
  pub outcomes : List Outcome
  pub middle : L
  pub between : Told
  pub are_items : AreItems source [] entries (told ++ last ∷ [])
  pub runs : Run (g.registry old) (map submitted_item told) outcomes (g.registry middle)
  pub confined : ConfinesItems (g.registry old) told outcomes (g.registry middle)
  pub running : g.is_stopped middle ≡ false
  pub stops : StopsAt g middle last.secrets last.request.action new
  pub writes : Takes writer_old between (lines_from 1 told outcomes)
  pub ends : TakesSome between writer_new (stop_lines count last.request.key)
  pub counted : count ≡ length told

-- a prefix of the text was read and used, and at most 4,096 bytes after it were read and not used,
-- by at most 16,777,216 reads. The prefix is empty or ends with a blank line, so that its entries
-- are the first of the text whatever follows; or it ends with the text (profile)
pub record ReadsItems (start now : Told) (prefix : List ℕ) : Type 0 where
  pub left : List ℕ
  pub gives : Gives start now (prefix ++ left)
  pub short : length left ≤ read_size
  pub apart : (whole_part prefix ≡ prefix) ⊎ ((left ≡ []) × IsSpent now)
  pub few : now.reads ≤ start.reads + read_limit

-- a prefix of the text was used, up to the item whose line could not be written
pub record HandlesUnwritten (source : List ℕ) (start now : Told) (old new : Reg)
    (writer_old writer_new : Told) (count : ℕ) : Type 0 where
  pub prefix : List ℕ
  pub reads : ReadsItems start now prefix
  pub handles : HandlesSome source (entries prefix) old new writer_old writer_new count

-- a prefix of the text was used, up to the item at which the ledger stopped
pub record HandlesStopped {L : Type 0} (g : Ghosts L) (source : List ℕ) (start now : Told)
    (old new : L) (writer_old writer_new : Told) (count : ℕ) : Type 0 where
  pub prefix : List ℕ
  pub reads : ReadsItems start now prefix
  pub handles : HandlesThenStops g source (entries prefix) old new writer_old writer_new count
