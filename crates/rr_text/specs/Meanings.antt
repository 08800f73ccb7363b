-- What a value says (RFC 2622, 2): for `meaning`, and for all that reads values.
use Rattle.std.specs.Prelude.{ℕ, List, map}
use Rattle.std.specs.List.{before_first}
use Rattle.rr_bytes.specs.Blanks.{is_blank_or_line_feed}
use Rattle.rr_bytes.specs.Parts.{joined_by_space}
use Rattle.rr_bytes.specs.Trims.{trim}
use Rattle.rr_text.specs.Bytes.{is_hash}

-- a line less the comment that its first `#` begins, and less the blanks round it (RFC 2622, 2)
abbrev pub uncommented : List ℕ → List ℕ
uncommented line = trim is_blank_or_line_feed (before_first is_hash line)

-- a value means its lines less their comments and blanks, with one space between each two, and less
-- the blanks round the whole (RFC 2622, 2; the space: profile)
unfoldable pub value_meaning : List (List ℕ) → List ℕ
value_meaning lines = trim is_blank_or_line_feed (joined_by_space (map uncommented lines))
