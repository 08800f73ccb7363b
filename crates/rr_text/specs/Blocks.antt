-- The blocks of a text, its runs of lines between blank ones (RFC 2622, 2): for its entries, and
-- for the place after the first of them.
use Rattle.std.specs.Prelude.{ℕ, Bool, true, false, ◌-◌, List, [], ◌∷◌, length, drop}
use Rattle.std.specs.Prelude.{filter, map, if◌then◌else◌}
use Rattle.std.specs.List.{concat, slice_split}
use Rattle.rr_text.specs.Lines.{text_lines, is_blank_line, is_skipped_line, is_paragraph_line}

-- a run of lines less the skipped ones before its first other line (profile)
unfoldable pub from_unskipped : List (List ℕ) → List (List ℕ)
from_unskipped [] = []
from_unskipped (line ∷ others) =
    if is_skipped_line line then from_unskipped others else line ∷ others

-- a run of lines that is not empty
abbrev pub has_line : List (List ℕ) → Bool
has_line [] = false
has_line (line ∷ others) = true

-- a block is a run of lines with no blank one, from its first line that is not skipped on. A run of
-- skipped lines alone is none (RFC 2622, 2; skipped lines: profile)
unfoldable pub blocks : List (List ℕ) → List (List (List ℕ))
blocks lines = filter has_line (map from_unskipped (slice_split is_blank_line lines))

-- the lines of a text from its first blank one on
unfoldable pub from_blank : List (List ℕ) → List (List ℕ)
from_blank [] = []
from_blank (line ∷ others) = if is_blank_line line then line ∷ others else from_blank others

-- the lines of a text from the first one on that is neither blank nor skipped
unfoldable pub from_block : List (List ℕ) → List (List ℕ)
from_block [] = []
from_block (line ∷ others) = if is_paragraph_line line then line ∷ others else from_block others

-- the place after the first block from a place on: that of the blank line that ends it, and else
-- the end of the text (RFC 2622, 2)
unfoldable pub place_after : ℕ → List ℕ → ℕ
place_after from text =
    length text - length (concat (from_blank (from_block (text_lines (drop from text)))))
