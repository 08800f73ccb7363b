-- The lines of a text, and what kind of line each is (RFC 2622, 2): for all that reads text.
use Rattle.std.specs.Prelude.{ℕ, Bool, true, not, ◌==◌, ◌≡◌, ◌||◌, ◌&&◌, List}
use Rattle.std.specs.Prelude.{[], ◌∷◌, if◌then◌else◌}
use Rattle.std.specs.List.{list_all, onto_first}
use Rattle.rr_text.specs.declared.line.LineKind.{LineKind}
use Rattle.rr_text.specs.declared.line.LineKind.TheVariants.{Blank, Skipped, Continuation, Opening}
use Rattle.rr_bytes.specs.Blanks.{is_blank_or_line_feed, is_line_feed}
use Rattle.rr_bytes.specs.NameBytes.{begins}

-- a line runs to the next LF and keeps it; the last line may have none (RFC 2622, 2)
unfoldable pub text_lines : List ℕ → List (List ℕ)
text_lines [] = []
text_lines (b ∷ bs) =
    if is_line_feed b then (b ∷ []) ∷ text_lines bs else onto_first b (text_lines bs)

-- a line of blanks alone, with its LF or without, or of nothing (RFC 2622, 2)
abbrev pub is_blank_line : List ℕ → Bool
is_blank_line line = list_all is_blank_or_line_feed line

-- the bytes that begin a remark, `#` and `%` (profile)
abbrev pub is_remark_sign : ℕ → Bool
is_remark_sign b = (b == 35) || (b == 37)

-- a line whose first byte is `#` or `%` is skipped (profile)
abbrev pub is_skipped_line : List ℕ → Bool
is_skipped_line line = begins is_remark_sign line

-- a further line of a value begins with a blank or `+` (RFC 2622, 2)
abbrev pub is_continuation_sign : ℕ → Bool
is_continuation_sign b = is_blank_or_line_feed b || (b == 43)

-- the first kind that fits: blank, skipped, continuation, and else a line that opens an attribute
-- (RFC 2622, 2)
unfoldable pub line_kind : List ℕ → LineKind
line_kind line =
    if is_blank_line line then Blank
    else (if is_skipped_line line then Skipped
    else (if begins is_continuation_sign line then Continuation else Opening))

-- every line of the text ends in its LF
unfoldable pub are_whole_lines : List ℕ → Bool
are_whole_lines [] = true
are_whole_lines (b ∷ []) = is_line_feed b
are_whole_lines (b ∷ c ∷ cs) = are_whole_lines (c ∷ cs)

-- a line of a paragraph: neither blank nor skipped
abbrev pub is_paragraph_line : List ℕ → Bool
is_paragraph_line line = not (is_blank_line line) && not (is_skipped_line line)

-- one line with the LF that ends it
pub record IsWholeLine (line : List ℕ) : Type 0 where
  pub single : text_lines line ≡ line ∷ []
  pub ended : are_whole_lines line ≡ true
