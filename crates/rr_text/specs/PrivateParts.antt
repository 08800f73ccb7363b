-- What private functions alone speak of: no rule of RPSL stands here.
use Rattle.std.specs.Prelude.{◌≡◌, ◌<◌, ◌+◌, ◌-◌, ℕ, Bool, true, false, ◌==◌, length, max, List}
use Rattle.std.specs.Prelude.{[], ◌∷◌, Option, Some, None, if◌then◌else◌}
use Rattle.rr_text.specs.declared.line.LineKind.{LineKind}
use Rattle.rr_text.specs.declared.line.LineKind.TheVariants.{Blank, Skipped, Continuation, Opening}
use Rattle.rr_text.specs.Lines.{is_blank_line, is_paragraph_line, line_kind}
use Rattle.rr_text.specs.CanonicalText.{after_blanks, ended, value_column}
use Rattle.rr_text.specs.Entries.{added_value}

-- a line of the last kind alone opens an attribute
abbrev pub opens_attribute : LineKind → Bool
opens_attribute Blank = false
opens_attribute Skipped = false
opens_attribute Continuation = false
opens_attribute Opening = true

-- a line that opens an attribute and the text after it, or nothing at the end of a text
pub record OpensOrEnds (line after : List ℕ) : Type 0 where
  pub opens : 0 < length line → opens_attribute (line_kind line) ≡ true
  pub ends : length line ≡ 0 → after ≡ []

-- the first line is neither blank nor skipped
abbrev pub starts_block : List (List ℕ) → Bool
starts_block [] = false
starts_block (line ∷ others) = is_paragraph_line line

-- the first line opens an attribute
abbrev pub opens_first : List (List ℕ) → Bool
opens_first [] = false
opens_first (line ∷ others) = opens_attribute (line_kind line)

-- the lines before the first blank one
unfoldable pub until_blank : List (List ℕ) → List (List ℕ)
until_blank [] = []
until_blank (line ∷ others) = if is_blank_line line then [] else line ∷ until_blank others

-- the lines that one line adds to the value before it
abbrev pub added_lines : List ℕ → LineKind → List (List ℕ)
added_lines line Blank = []
added_lines line Skipped = []
added_lines line Continuation = added_value line ∷ []
added_lines line Opening = []

-- what is printed after a name: the colon, and the first line of the value with the LF that ends it
abbrev pub value_after : List ℕ → List ℕ → List ℕ
value_after name line =
    ended (58 ∷ after_blanks (max 1 (value_column - (length name + 1))) line)

-- what stands in a text after a prefix, where the text begins with it
unfoldable pub left_after : List ℕ → List ℕ → Option (List ℕ)
left_after [] text = Some text
left_after (b ∷ prefix) [] = None
left_after (b ∷ prefix) (c ∷ text) = if b == c then left_after prefix text else None
