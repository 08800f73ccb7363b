-- The bytes of RPSL text that have a meaning of their own: for lines, faults and values.
use Rattle.std.specs.Prelude.{ℕ, Bool, ◌==◌, ◌&&◌, not}
use Rattle.std.specs.Char.{is_ascii_control}
use Rattle.rr_bytes.specs.Blanks.{is_blank_or_line_feed}

-- a refused byte, which only skipped lines may have, is a control byte of ASCII other than tab, LF
-- and CR (profile)
abbrev pub is_refused : ℕ → Bool
is_refused b = is_ascii_control b && not (is_blank_or_line_feed b)

-- the colon between a name and its value (RFC 2622, 2)
abbrev pub is_colon : ℕ → Bool
is_colon b = b == 58

-- the sign that begins a comment inside a value (RFC 2622, 2)
abbrev pub is_hash : ℕ → Bool
is_hash b = b == 35
