-- What private functions that read the items of a text promise each other. No public clause cites
-- these.
use Rattle.std.specs.Prelude.{◌≡◌, ◌≢◌, ℕ, ◌<◌, List, [], ◌∷◌, ◌++◌, length, Option, Some, None}
use Rattle.std.specs.Prelude.{Result, Ok, Err}
use Rattle.rr_io.specs.Told.{Told}
use Rattle.rr_io.specs.declared.receiving.ReadEnd.{ReadEnd}
use Rattle.rr_io.specs.declared.receiving.ReadEnd.TheVariants.{Whole}
use Rattle.rr_text.specs.declared.paragraphs.Paragraphs.{Paragraphs}
use Rattle.rr_text.specs.ParagraphReaders.{Entry, HasEnded, HasGiven}
use Rattle.rr_object.specs.declared.key.Key.{Key}
use Rattle.rr_auth.specs.declared.item.Item.{Item}
use Rattle.rr_auth.specs.Laws.{key_about}
use Rattle.rr_submission.specs.Requests.{Asked}
use Rattle.rr_submission.specs.SubmissionItems.{AreItems, ItemRequest}

-- these entries more were given, of which the last is an item, and the secrets of those before it
-- count for it
pub record FindsItem (source : List ℕ) (start now : Told) (p : Paragraphs) (given : List Entry)
    (secrets_old secrets_new : List (List ℕ)) (request : Asked) : Type 0 where
  pub added : List Entry
  pub has : HasGiven start now p (given ++ added)
  pub some : 0 < length added
  pub item : (more : List Entry) (items : List ItemRequest) → AreItems source secrets_new more items
      → AreItems source secrets_old (added ++ more)
      (record { secrets = secrets_new; request = request } ∷ items)

-- these entries more were given, no item among them, and then the reading ended
pub record FindsNone (source : List ℕ) (start now : Told) (given : List Entry)
    (secrets_old : List (List ℕ)) (ended : ReadEnd) : Type 0 where
  pub added : List Entry
  pub all : HasEnded start now ended (given ++ added)
  pub none : AreItems source secrets_old added []

-- the next item; none where the text was read to its end; or how the reading broke off before that
abbrev pub FindsNextItem : List ℕ → Told → Told → Paragraphs → List Entry → List (List ℕ)
    → List (List ℕ) → Result (Option Asked) ReadEnd → Type 0
FindsNextItem source start now p given secrets_old secrets_new (Ok (Some request)) =
    FindsItem source start now p given secrets_old secrets_new request
FindsNextItem source start now p given secrets_old secrets_new (Ok None) =
    FindsNone source start now given secrets_old Whole
FindsNextItem source start now p given secrets_old secrets_new (Err ended) =
    (ended ≢ Whole) × FindsNone source start now given secrets_old ended

-- the key that is shown is the one of the item
abbrev pub ShowsKeyOf : Option Key → Item → Type 0
ShowsKeyOf key item = key ≡ Some (key_about item)
