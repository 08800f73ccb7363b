-- What a paragraph that is being read has of the text so far: parts of the reader of paragraphs.
use Rattle.std.specs.Prelude.{◌≡◌, ℕ, Bool, true, false, ◌+◌, ◌<◌, ◌≤◌, List}
use Rattle.std.specs.Prelude.{[], ◌∷◌, ◌++◌, ◌⊎◌, length, take, Option, Some, None}
use Rattle.std.specs.Prelude.{Result, Ok, Err, if◌then◌else◌}
use Rattle.std.specs.List.{list_any}
use Rattle.rr_text.specs.declared.text_fault.TextFault.{TextFault}
use Rattle.rr_text.specs.declared.text_fault.TextFault.TheVariants.{TooLarge, BadByte}
use Rattle.rr_text.specs.declared.text_fault.TextFault.TheVariants.{FirstContinues, NoColon}
use Rattle.rr_text.specs.declared.text_fault.TextFault.TheVariants.{BadName, Memory, Read, Endless}
use Rattle.rr_text.specs.declared.draft.Draft.{Draft}
use Rattle.rr_text.specs.declared.line_so_far.LineSoFar.TheVariants.{Nothing}
use Rattle.rr_text.specs.declared.line_so_far.LineEnd.{LineEnd}
use Rattle.rr_text.specs.declared.line_so_far.LineEnd.TheVariants.{Passed, Taken, Closed}
use Rattle.rr_text.specs.LineParts.{line_so_far, line_with}
use Rattle.rr_bytes.specs.Blanks.{is_line_feed}
use Rattle.rr_text.specs.Lines.{text_lines, are_whole_lines, is_blank_line, is_paragraph_line}
use Rattle.rr_text.specs.PrivateParts.{starts_block}
use Rattle.rr_text.specs.Fields.{Field, AreFields}
use Rattle.rr_text.specs.Entries.{entries, block_entry, size_limit}
use Rattle.rr_text.specs.WholePart.{whole_part}

-- the lines of a text, whatever follows it: those that no block has, the block so far, and the line
-- that has begun
pub record IsCutSo (text : List ℕ) (started : Bool) (block line : List ℕ) : Type 0 where
  pub passed : List (List ℕ)
  pub lines : (more : List ℕ)
      → text_lines (text ++ more) ≡ passed ++ (text_lines block ++ text_lines (line ++ more))
  pub idle : list_any is_paragraph_line passed ≡ false
  pub starts : starts_block (text_lines block) ≡ started
  pub none : started ≡ false → block ≡ []
  pub unbroken : list_any is_blank_line (text_lines block) ≡ false
  pub whole : are_whole_lines block ≡ true
  pub unfinished : list_any is_line_feed line ≡ false

-- what is kept of a block and of the line after it, and how many bytes of it are the block's
pub record KeepsBlock (block line kept : List ℕ) (over : Bool) (whole : ℕ) : Type 0 where
  pub all : over ≡ false → kept ≡ block ++ line
  pub large : over ≡ true → size_limit < length (block ++ line)
  pub kept_whole : whole ≤ size_limit → (whole ≤ length kept) × (take whole kept ≡ block)
  pub too_large : size_limit < whole → size_limit < length block

-- the draft of a text whose last block may go on
pub record IsUnclosed (text : List ℕ) (draft : Draft) : Type 0 where
  pub block : List ℕ
  pub line : List ℕ
  pub cut : IsCutSo text draft.started block line
  pub kept : KeepsBlock block line draft.kept.items draft.over draft.whole
  pub known : draft.line ≡ line_so_far line

-- the draft of a text with one block, which is whole
pub record HasEntry (text : List ℕ) (draft : Draft) : Type 0 where
  pub block : List ℕ
  pub starts : starts_block (text_lines block) ≡ true
  pub kept_whole : draft.whole ≤ size_limit
      → (draft.whole ≤ length draft.kept.items) × (take draft.whole draft.kept.items ≡ block)
  pub too_large : size_limit < draft.whole → size_limit < length block
  pub one : entries text ≡ block_entry (text_lines block) ∷ []

-- the draft of a text with one block, which ends with the blank line after that block
pub record IsClosed (text : List ℕ) (draft : Draft) : Type 0 where
  pub entry : HasEntry text draft
  pub apart : whole_part text ≡ text

-- the draft of a text, by whether a line closed its block
abbrev pub GathersLines : Bool → List ℕ → Draft → Type 0
GathersLines true text draft = IsClosed text draft
GathersLines false text draft = IsUnclosed text draft

-- the lines of a text are added up to the one that closes: so many bytes, or all of them
abbrev pub AddsLines : List ℕ → List ℕ → Option ℕ → Draft → Type 0
AddsLines past text None draft = IsUnclosed (past ++ text) draft
AddsLines past text (Some taken) draft = IsClosed (past ++ take taken text) draft

-- whether a text has a block where nothing follows it
abbrev pub Finishes : Bool → List ℕ → Draft → Type 0
Finishes true text draft = HasEntry text draft
Finishes false text draft = entries text ≡ []

-- the draft of no text
pub record HasNoText (draft : Draft) : Type 0 where
  pub kept : draft.kept.items ≡ []
  pub over : draft.over ≡ false
  pub whole : draft.whole ≡ 0
  pub started : draft.started ≡ false
  pub line : draft.line ≡ Nothing

-- a piece is kept where it fits, and is of the line that has begun
pub record KeepsPiece (old new : Draft) (piece : List ℕ) : Type 0 where
  pub fits : new.over ≡ false
      → (old.over ≡ false) × (new.kept.items ≡ old.kept.items ++ piece)
  pub over : new.over ≡ true → (new.kept.items ≡ old.kept.items)
      × ((old.over ≡ true) ⊎ (size_limit < length old.kept.items + length piece))
  pub whole : new.whole ≡ old.whole
  pub started : new.started ≡ old.started
  pub line : new.line ≡ line_with old.line piece

-- the line that has begun is one of the block
pub record TakesLine (old new : Draft) : Type 0 where
  pub kept : new.kept.items ≡ old.kept.items
  pub over : new.over ≡ old.over
  pub whole : new.whole ≡ (if old.over then size_limit + 1 else length old.kept.items)
  pub started : new.started ≡ true
  pub line : new.line ≡ Nothing

-- what the end of a line does to a draft, and whether it closes the block
abbrev pub EndsLine : LineEnd → Draft → Draft → Bool → Type 0
EndsLine Passed old new closes = HasNoText new × (closes ≡ false)
EndsLine Taken old new closes = TakesLine old new × (closes ≡ false)
EndsLine Closed old new closes = (new ≡ old) × (closes ≡ true)

-- the one entry of a text, by the answer: if memory ran out it is not told
abbrev pub GivesOne : List ℕ → Result (List Field) TextFault → Type 0
GivesOne text (Ok fields) =
    (entries text ≡ Ok fields ∷ []) × (0 < length fields) × AreFields fields
GivesOne text (Err TooLarge) = entries text ≡ Err TooLarge ∷ []
GivesOne text (Err BadByte) = entries text ≡ Err BadByte ∷ []
GivesOne text (Err FirstContinues) = entries text ≡ Err FirstContinues ∷ []
GivesOne text (Err NoColon) = entries text ≡ Err NoColon ∷ []
GivesOne text (Err BadName) = entries text ≡ Err BadName ∷ []
GivesOne text (Err Memory) =
    (entry : Result (List Field) TextFault) × (entries text ≡ entry ∷ [])
GivesOne text (Err Read) = ⊥
GivesOne text (Err Endless) = ⊥
