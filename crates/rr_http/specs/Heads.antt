-- What is read at the head of a connection: where its first line and the head of a request end.
-- `Wants.antt` uses it.
use Rattle.std.specs.Prelude.{ℕ, ◌+◌, Bool, ◌==◌, ◌&&◌, nat_lt, List, [], ◌∷◌}
use Rattle.std.specs.Prelude.{Option, None, Some}
use Rattle.std.specs.Prelude.{if◌then◌else◌}
use Rattle.std.specs.List.{list_any}
use Rattle.std.specs.Option.{option_map}
use Rattle.rr_bytes.specs.Blanks.{is_line_feed}
use Rattle.rr_bytes.specs.NameBytes.{begins}

-- how many bytes the line end has that a text begins with: 1 for an LF, 2 for a CR and an LF, 0 if
-- there is none (RFC 9112, 2.2)
abbrev pub line_end : List ℕ → ℕ
line_end [] = 0
line_end (b ∷ bs) =
    if is_line_feed b then 1 else (if (b == 13) && begins is_line_feed bs then 2 else 0)

-- the head of a request runs to the end of its first empty line, which follows the LF of another
-- (RFC 9112, 2.1)
unfoldable pub head_length : List ℕ → Option ℕ
head_length [] = None
head_length (b ∷ bs) =
    if is_line_feed b && nat_lt 0 (line_end bs) then Some (1 + line_end bs)
    else option_map (λ n. 1 + n) (head_length bs)

-- a text has an LF
abbrev pub has_line_feed : List ℕ → Bool
has_line_feed text = list_any is_line_feed text
