-- Texts in parts, and parts as one text: for `src/parts.rt`, and for lists and values.
use Rattle.std.specs.Prelude.{ℕ, Bool, not, ◌==◌, length, List, filter}
use Rattle.std.specs.List.{join_with_byte, slice_split}
use Rattle.rr_bytes.specs.Blanks.{is_blank}

-- A list that has something in it (profile).
abbrev pub is_filled : {X : Type 0} → List X → Bool
is_filled xs = not (length xs == 0)

-- The parts into which bytes that pass a test cut a text, without the empty ones (profile).
abbrev pub parts_at : (ℕ → Bool) → List ℕ → List (List ℕ)
parts_at test text = filter is_filled (slice_split test text)

-- The words of a text, which spaces, tabs and CRs separate (profile).
unfoldable pub words : List ℕ → List (List ℕ)
words text = parts_at is_blank text

-- Texts as one, with a space between each two (profile).
abbrev pub joined_by_space : List (List ℕ) → List ℕ
joined_by_space texts = join_with_byte 32 texts
