-- What counts of a text that broke off (profile): for `Paragraphs` after a failed read.
use Rattle.std.specs.Prelude.{ℕ, Bool, true, false, ◌&&◌, List, [], ◌∷◌, Result}
use Rattle.std.specs.List.{list_any, concat}
use Rattle.rr_text.specs.declared.text_fault.TextFault.{TextFault}
use Rattle.rr_bytes.specs.Blanks.{is_line_feed}
use Rattle.rr_text.specs.Lines.{text_lines, is_blank_line}
use Rattle.rr_text.specs.Fields.{Field}
use Rattle.rr_text.specs.Entries.{entries}

-- a blank line whose LF was read ends the paragraph before it for good (profile)
abbrev pub closes : List ℕ → Bool
closes line = is_blank_line line && list_any is_line_feed line

-- a line is kept where it is a blank one whose LF was read, or where a later line is
abbrev pub kept_before : Bool → List ℕ → List (List ℕ) → List (List ℕ)
kept_before true line kept = line ∷ kept
kept_before false line [] = []
kept_before false line (next ∷ kept) = line ∷ (next ∷ kept)

-- the lines up to the last blank one whose LF was read, itself included
unfoldable pub closed_lines : List (List ℕ) → List (List ℕ)
closed_lines [] = []
closed_lines (line ∷ others) = kept_before (closes line) line (closed_lines others)

-- the prefix of a text up to its last blank line whose LF was read, this line included; nothing
-- where there is none (profile)
unfoldable pub whole_part : List ℕ → List ℕ
whole_part text = concat (closed_lines (text_lines text))

-- the entries that count of a text after a read fault: those of its blocks that a blank line
-- follows whose LF was read (profile)
abbrev pub whole_entries : List ℕ → List (Result (List Field) TextFault)
whole_entries text = entries (whole_part text)
