-- What a text spells, one entry for each block, a paragraph or a fault (RFC 2622, 2): for all that
-- reads paragraphs.
use Rattle.std.specs.Prelude.{◌≡◌, ℕ, ◌<◌, ◌≤◌, length, drop, nat_lt, List, [], ◌∷◌}
use Rattle.std.specs.Prelude.{Option, Some, None, Result, Ok, Err, map, if◌then◌else◌}
use Rattle.std.specs.List.{after_first, concat}
use Rattle.rr_text.specs.declared.text_fault.TextFault.{TextFault}
use Rattle.rr_text.specs.declared.text_fault.TextFault.TheVariants.{TooLarge}
use Rattle.rr_text.specs.declared.line.LineKind.{LineKind}
use Rattle.rr_text.specs.declared.line.LineKind.TheVariants.{Blank, Skipped, Continuation, Opening}
use Rattle.rr_bytes.specs.Blanks.{is_blank_or_line_feed}
use Rattle.rr_bytes.specs.LetterCase.{lowered}
use Rattle.rr_bytes.specs.Trims.{trim}
use Rattle.rr_text.specs.Bytes.{is_colon}
use Rattle.rr_text.specs.Lines.{text_lines, line_kind}
use Rattle.rr_text.specs.Blocks.{blocks, place_after}
use Rattle.rr_text.specs.Faults.{written_name, block_fault}
use Rattle.rr_text.specs.Fields.{Field, AreFields}

-- the line of a value that a line opens with: what stands after its first colon, less the blanks
-- round it (RFC 2622, 2)
abbrev pub opened_value : List ℕ → List ℕ
opened_value line = trim is_blank_or_line_feed (after_first is_colon line)

-- the line that a continuation adds to a value: all but its first byte, less the blanks round it
-- (RFC 2622, 2)
abbrev pub added_value : List ℕ → List ℕ
added_value line = trim is_blank_or_line_feed (drop 1 line)

-- the lines that continue a value, by the kind of the first line after it
abbrev pub continued_by : List ℕ → LineKind → List (List ℕ) → List (List ℕ)
continued_by line Blank more = more
continued_by line Skipped more = more
continued_by line Continuation more = added_value line ∷ more
continued_by line Opening more = []

-- the lines that continue a value: of the continuations up to the next line that opens an attribute
-- (RFC 2622, 2)
unfoldable pub continued : List (List ℕ) → List (List ℕ)
continued [] = []
continued (line ∷ others) = continued_by line (line_kind line) (continued others)

-- the attribute that a line opens, its name in lower case, with the lines that continue its value
-- (RFC 2622, 2)
abbrev pub opened_field : List ℕ → List (List ℕ) → Field
opened_field line more =
    record { name = lowered (written_name line); lines = opened_value line ∷ more }

-- the attributes from a line on, by its kind
abbrev pub opened_by : List ℕ → LineKind → List (List ℕ) → List Field → List Field
opened_by line Blank more fields = fields
opened_by line Skipped more fields = fields
opened_by line Continuation more fields = fields
opened_by line Opening more fields = opened_field line more ∷ fields

-- each line that opens an attribute gives one, with the lines that continue its value (RFC 2622, 2)
unfoldable pub block_fields : List (List ℕ) → List Field
block_fields [] = []
block_fields (line ∷ others) =
    opened_by line (line_kind line) (continued others) (block_fields others)

-- a paragraph has at most 65,536 bytes, the ends of its lines and skipped lines included (profile)
abbrev pub size_limit : ℕ
size_limit = 65536

-- the entry of a fault if there is one, and else of these attributes
abbrev pub unless_fault : Option TextFault → List Field → Result (List Field) TextFault
unless_fault None fields = Ok fields
unless_fault (Some fault) fields = Err fault

-- the entry of a block: its size decides first, then its first faulty line (profile)
unfoldable pub block_entry : List (List ℕ) → Result (List Field) TextFault
block_entry lines =
    if nat_lt size_limit (length (concat lines)) then Err TooLarge
    else unless_fault (block_fault lines) (block_fields lines)

-- the entries of a text, one for each block in order
unfoldable pub entries : List ℕ → List (Result (List Field) TextFault)
entries text = map block_entry (blocks (text_lines text))

-- the first entry of a text from a place on is this paragraph, which has at least one attribute,
-- all well formed. The other entries are those from this later place on, which is the one after the
-- paragraph and not past the end (RFC 2622, 2)
pub record IsNext (text : List ℕ) (from : ℕ) (found : List Field × ℕ) : Type 0 where
  pub first : entries (drop from text) ≡ Ok found.0 ∷ entries (drop found.1 text)
  pub place : found.1 ≡ place_after from text
  pub later : from < found.1
  pub within : found.1 ≤ length text
  pub filled : 0 < length found.0
  pub fields : AreFields found.0
