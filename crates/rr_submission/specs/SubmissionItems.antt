-- The items of a submission (profile): for `submit`, and for laws of `src/laws.rt`.
use Rattle.std.specs.Prelude.{◌≡◌, ℕ, true, false, List, [], ◌∷◌, ◌++◌, Result}
use Rattle.std.specs.Prelude.{Ok, Err}
use Rattle.rr_text.specs.Fields.{Field}
use Rattle.rr_text.specs.declared.text_fault.TextFault.{TextFault}
use Rattle.rr_object.specs.declared.code.Code.{Code}
use Rattle.rr_object.specs.declared.code.Code.TheVariants.{E90}
use Rattle.rr_registry.specs.Runs.{Submitted}
use Rattle.rr_submission.specs.SubmissionTexts.{secrets_of, is_secrets_alone}
use Rattle.rr_submission.specs.Requests.{Asked, IsRequest, unread, text_code}

-- an item: what its paragraph asks, and the secrets of it and of those before it
pub record ItemRequest : Type 0 where
  pub secrets : List (List ℕ)
  pub request : Asked

-- what is submitted to the registry of an item: its secrets, and what it asks; its key is for the
-- report alone
abbrev pub submitted_item : ItemRequest → Submitted
submitted_item item = record { secrets = item.secrets; action = item.request.action }

-- the items that the entries of a text give, after paragraphs that gave these secrets
pub data AreItems (source : List ℕ) : List (List ℕ) → List (Result (List Field) TextFault)
    → List ItemRequest → Type 0 where
  -- the text is at its end
  at_end : {secrets : List (List ℕ)} → AreItems source secrets [] []
  -- a paragraph of passwords alone is not an item, and its secrets count from there on
  secrets_alone : {secrets : List (List ℕ)} {fields : List Field}
      {entries : List (Result (List Field) TextFault)} {items : List ItemRequest} →
      is_secrets_alone fields ≡ true
      → AreItems source (secrets ++ secrets_of fields) entries items →
      AreItems source secrets (Ok fields ∷ entries) items
  -- any other paragraph is one item, for which its own secrets count too
  requested : {secrets : List (List ℕ)} {fields : List Field}
      {entries : List (Result (List Field) TextFault)} {items : List ItemRequest} →
      (request : Asked) → is_secrets_alone fields ≡ false → IsRequest source fields request
      →
      AreItems source (secrets ++ secrets_of fields) entries items →
      AreItems source secrets (Ok fields ∷ entries)
      (record { secrets = secrets ++ secrets_of fields; request = request } ∷ items)
  -- a paragraph that could not be read as text is an item refused, and gives no secrets
  faulty : {secrets : List (List ℕ)} {entries : List (Result (List Field) TextFault)}
      {items : List ItemRequest} →
      (fault : TextFault) (code : Code) → text_code fault ≡ Ok code
      → AreItems source secrets entries items →
      AreItems source secrets (Err fault ∷ entries)
      (record { secrets = secrets; request = unread code } ∷ items)
  -- where memory ran out for an entry or its passwords, it is an item refused with E90, and gives
  -- no secrets
  unread_for_memory : {secrets : List (List ℕ)} {entries : List (Result (List Field) TextFault)}
      {items : List ItemRequest} →
      (entry : Result (List Field) TextFault) → AreItems source secrets entries items →
      AreItems source secrets (entry ∷ entries)
      (record { secrets = secrets; request = unread E90 } ∷ items)
