-- The first line of a connection: which protocol it speaks, and what it wants by whois.
-- `Wants.antt` uses it.
use Rattle.std.specs.Prelude.{ℕ, ◌-◌, Bool, ◌==◌, ◌||◌, List, [], ◌∷◌, length}
use Rattle.std.specs.Prelude.{take, codes, nat_eq}
use Rattle.std.specs.Prelude.{if◌then◌else◌}
use Rattle.std.specs.List.{before_first, ends_with}
use Rattle.rr_bytes.specs.Blanks.{is_blank}
use Rattle.rr_bytes.specs.Trims.{trim_end}
use Rattle.rr_http.specs.Heads.{has_line_feed}

-- the bytes of the first line, without its LF
abbrev pub line_of : List ℕ → List ℕ
line_of text = before_first (λ b. b == 10) text

-- a text ends with a space and the name of a version of HTTP that is spoken here, 1.0 or 1.1 (RFC
-- 9112, 2.3; profile)
abbrev pub names_version : List ℕ → Bool
names_version text =
    ends_with nat_eq text (codes " HTTP/1.0") || ends_with nat_eq text (codes " HTTP/1.1")

-- a line is HTTP where it names a version, less the blanks at its end (profile)
abbrev pub line_speaks_http : List ℕ → Bool
line_speaks_http line = names_version (trim_end is_blank line)

-- a connection is HTTP where its first line is, and whois elsewhere (profile)
abbrev pub speaks_http : List ℕ → Bool
speaks_http text = line_speaks_http (line_of text)

-- a line without the CR at its end
abbrev pub without_return : List ℕ → List ℕ
without_return line =
    if ends_with nat_eq line (13 ∷ []) then take (length line - 1) line else line

-- the query by whois is the first line without its line end; a CR that no LF follows belongs to it
-- (RFC 3912, 2; profile)
abbrev pub whois_query : List ℕ → List ℕ
whois_query text =
    if has_line_feed text then without_return (line_of text) else line_of text
