-- The text that a paragraph is kept as, which is its canonical text, and what stands in it: for
-- `Paragraph` and what reads its text.
use Rattle.std.specs.Prelude.{ℕ, Bool, false, ◌&&◌, ◌≡◌, List, [], ◌∷◌}
use Rattle.std.specs.List.{flat_map}
use Rattle.std.specs.Str.{bytes_eq}
use Rattle.rr_bytes.specs.LetterCase.{lowered}
use Rattle.rr_text.specs.declared.line.LineKind.{LineKind}
use Rattle.rr_text.specs.declared.line.LineKind.TheVariants.{Blank, Skipped, Continuation, Opening}
use Rattle.rr_text.specs.Lines.{text_lines, line_kind}
use Rattle.rr_text.specs.Faults.{written_name}
use Rattle.rr_text.specs.Fields.{Field, AreFields}
use Rattle.rr_text.specs.Entries.{opened_value, added_value, continued}
use Rattle.rr_text.specs.CanonicalText.{ended, opening_line, further_line, canonical}

-- the attribute that a line opens, its name as it is written, with the lines that continue its
-- value
abbrev pub kept_field : List ℕ → List (List ℕ) → Field
kept_field line more = record { name = written_name line; lines = opened_value line ∷ more }

-- the attributes from a line on, by its kind, with their names as they are written
abbrev pub kept_by : List ℕ → LineKind → List (List ℕ) → List Field → List Field
kept_by line Blank more fields = fields
kept_by line Skipped more fields = fields
kept_by line Continuation more fields = fields
kept_by line Opening more fields = kept_field line more ∷ fields

-- the attributes of lines, with their names as they are written
unfoldable pub kept_fields : List (List ℕ) → List Field
kept_fields [] = []
kept_fields (line ∷ others) =
    kept_by line (line_kind line) (continued others) (kept_fields others)

-- the attributes of a text, with their names as they are written
unfoldable pub fields_in : List ℕ → List Field
fields_in text = kept_fields (text_lines text)

-- a text that a paragraph may be kept as: the canonical text of its own attributes, which are well
-- formed
pub record IsKeptText (text : List ℕ) : Type 0 where
  pub good : AreFields (fields_in text)
  pub printed : canonical (fields_in text) ≡ text

-- what a line of a block adds to the canonical text, by its kind
abbrev pub printed_by : List ℕ → LineKind → List ℕ
printed_by line Blank = []
printed_by line Skipped = []
printed_by line Continuation = ended (further_line (added_value line))
printed_by line Opening = ended (opening_line (lowered (written_name line)) (opened_value line))

-- the canonical text of the lines of a block
unfoldable pub printed_lines : List (List ℕ) → List ℕ
printed_lines lines = flat_map (λ line. printed_by line (line_kind line)) lines

-- whether a line is as it is printed, by its kind
abbrev pub is_printed_by : List ℕ → LineKind → Bool
is_printed_by line Blank = false
is_printed_by line Skipped = false
is_printed_by line Continuation = bytes_eq (ended (further_line (added_value line))) line
is_printed_by line Opening =
    bytes_eq (lowered (written_name line)) (written_name line)
    && bytes_eq (ended (opening_line (written_name line) (opened_value line))) line

-- whether a line is as it is printed
unfoldable pub is_printed : List ℕ → Bool
is_printed line = is_printed_by line (line_kind line)
