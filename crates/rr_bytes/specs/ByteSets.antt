-- Sets of bytes, as code names them: for `ByteSet`.
use Rattle.std.specs.Prelude.{ℕ, Bool}
use Rattle.rr_bytes.specs.declared.byte_set.ByteSet.{ByteSet}
use Rattle.rr_bytes.specs.declared.byte_set.ByteSet.TheVariants.{Blanks, BlanksAndLineFeeds}
use Rattle.rr_bytes.specs.declared.byte_set.ByteSet.TheVariants.{BlanksAndCommas}
use Rattle.rr_bytes.specs.Blanks.{is_blank, is_blank_or_comma, is_blank_or_line_feed}

-- A byte is one of a set where it passes the set's test (profile).
abbrev pub is_in : ByteSet → ℕ → Bool
is_in Blanks = is_blank
is_in BlanksAndLineFeeds = is_blank_or_line_feed
is_in BlanksAndCommas = is_blank_or_comma
