-- What calls of a registrar do: how it answers a query, and what is left of it (profile). The trait
-- `Registrar` and `serve_one` promise it.
use Rattle.std.specs.Prelude.{◌≡◌, ℕ, false, List, Result}
use Rattle.rr_io.specs.Told.{Told}
use Rattle.rr_io.specs.Sending.{Writes}
use Rattle.rr_auth.specs.Sources.{IsRegistryOf}
use Rattle.rr_submission.specs.declared.ledger.Ledger as ledger
use Rattle.rr_submission.specs.declared.submission.Done.{Done}
use Rattle.rr_submission.specs.declared.submission.SubmissionFault.{SubmissionFault}
use Rattle.rr_submission.specs.Submissions.{UnlessLedgerStopped}
use Rattle.rr_desk.specs.declared.desk_answering.WriteFault.{WriteFault}
use Rattle.rr_desk.specs.Settings.{SettingsParts}

-- a registrar answered a query in some text, and the text was written: whole, or where a write
-- failed its beginning and not all (profile)
pub record AnswersInWriting {D : Type 0} (Answers : D → List ℕ → List ℕ → D → Type 0)
    (query : List ℕ) (before after : D) (old new : Told) (result : Result (Unit {0}) WriteFault)
    : Type 0 where
  pub text : List ℕ
  pub answers : Answers before query text after
  pub writes : Writes old new text result

-- what an answer to a query, or serving a connection, leaves of a registrar: what is to last of it
-- lasts, and its settings stay (profile)
pub record Leaves {D : Type 0} (g : ledger.Ghosts D) (settings : D → SettingsParts)
    (before after : D) : Type 0 where
  pub lasts : g.Lasts before after
  pub same_settings : settings after ≡ settings before

-- what a submission leaves of a registrar that runs. Only a fault of the store stops it, and after
-- any other end it keeps what it is to keep, as a desk keeps the rows of its registry. What is to
-- last of it lasts, its settings stay, and a registry of its source stays one (profile)
pub record LeavesSubmitted {D : Type 0} (g : ledger.Ghosts D) (settings : D → SettingsParts)
    (before after : D) (result : Result Done SubmissionFault) : Type 0 where
  pub running : UnlessLedgerStopped result (g.is_stopped after ≡ false)
  pub kept : UnlessLedgerStopped result (g.Kept after)
  pub leaves : Leaves g settings before after
  pub of_source : IsRegistryOf (settings before).source (g.registry before)
      → IsRegistryOf (settings after).source (g.registry after)
