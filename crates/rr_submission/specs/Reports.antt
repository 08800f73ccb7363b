-- The report on a submission (profile): for `submit`. `tools/irr` and `web` read it.
use Rattle.std.specs.Prelude.{ℕ, ◌+◌, List, [], ◌∷◌, ◌++◌, length, Option, Some}
use Rattle.std.specs.Prelude.{None, codes, decimal}
use Rattle.rr_object.specs.declared.class.Class.{Class}
use Rattle.rr_object.specs.declared.key.Key.{Key}
use Rattle.rr_object.specs.Classes.{class_name}
use Rattle.rr_object.specs.Codes.{code_name}
use Rattle.rr_object.specs.declared.code.Code.TheVariants.{E91}
use Rattle.rr_object.specs.Keys.{class_of}
use Rattle.rr_object.specs.KeyTexts.{key_text}
use Rattle.rr_registry.specs.declared.outcome.Outcome.{Outcome}
use Rattle.rr_registry.specs.declared.outcome.Outcome.TheVariants.{Added, Changed, Unchanged}
use Rattle.rr_registry.specs.declared.outcome.Outcome.TheVariants.{Deleted, Refused}
use Rattle.rr_submission.specs.declared.ending.Ending.{Ending}
use Rattle.rr_submission.specs.declared.ending.Ending.TheVariants.{Stopped}
use Rattle.rr_submission.specs.Endings.{last_line}
use Rattle.rr_submission.specs.SubmissionItems.{ItemRequest}

-- the word of an outcome, for a refusal with a space after it
abbrev pub outcome_word : Outcome → List ℕ
outcome_word Added = codes "added"
outcome_word Changed = codes "changed"
outcome_word Unchanged = codes "unchanged"
outcome_word Deleted = codes "deleted"
outcome_word (Refused code) = codes "refused "

-- a refusal has its code after the word
abbrev pub refusal_code : Outcome → List ℕ
refusal_code Added = []
refusal_code Changed = []
refusal_code Unchanged = []
refusal_code Deleted = []
refusal_code (Refused code) = code_name code

-- a class before a key, and the space between them
abbrev pub class_part : Class → List ℕ
class_part class = class_name class ++ codes " "

-- the class and the key of an item, or `-` where they could not be read
abbrev pub subject : Option Key → List ℕ
subject None = codes "-"
subject (Some key) = class_part (class_of key) ++ key_text key

-- the number of an item in decimal digits, and a space
abbrev pub number_part : ℕ → List ℕ
number_part number = decimal number ++ codes " "

-- a colon, a space, the outcome and an LF
abbrev pub outcome_part : Outcome → List ℕ
outcome_part outcome = codes ": " ++ outcome_word outcome ++ refusal_code outcome ++ codes "\n"

-- the line of an item: its number, its class and key, and its outcome
abbrev pub item_line : ℕ → Option Key → Outcome → List ℕ
item_line number key outcome = number_part number ++ subject key ++ outcome_part outcome

-- the lines of items, numbered from here on
unfoldable pub lines_from : ℕ → List ItemRequest → List Outcome → List ℕ
lines_from number [] outcomes = []
lines_from number (item ∷ items) [] = []
lines_from number (item ∷ items) (outcome ∷ outcomes) =
    item_line number item.request.key outcome ++ lines_from (number + 1) items outcomes

-- what ends a report where the ledger stops at an item after so many: the line of the item, with
-- the code E91, and the last line
unfoldable pub stop_lines : ℕ → Option Key → List ℕ
stop_lines count key = item_line (count + 1) key (Refused E91) ++ last_line Stopped count

-- a report has a line for each item, and a last line
unfoldable pub report : Ending → List ItemRequest → List Outcome → List ℕ
report ending items outcomes = lines_from 1 items outcomes ++ last_line ending (length items)
