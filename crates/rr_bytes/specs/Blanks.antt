-- Blanks, and the line feed, which is a blank round a line alone: for all that reads text.
use Rattle.std.specs.Prelude.{ℕ, Bool, ◌==◌, ◌||◌}

-- The LF that ends a line (RFC 2622, 2).
abbrev pub is_line_feed : ℕ → Bool
is_line_feed b = b == 10

-- A blank inside a line is a space, a tab or a CR (RFC 2622, 2; CR: profile).
abbrev pub is_blank : ℕ → Bool
is_blank b = (b == 32) || ((b == 9) || (b == 13))

-- Round a line the LF that ends it is blank as well (RFC 2622, 2).
abbrev pub is_blank_or_line_feed : ℕ → Bool
is_blank_or_line_feed b = is_blank b || is_line_feed b

-- Commas or blanks stand between the items of a list: an LF ends a line and stands in no value
-- (RFC 2622, 2).
abbrev pub is_blank_or_comma : ℕ → Bool
is_blank_or_comma b = (b == 44) || is_blank b
