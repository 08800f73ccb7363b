-- Letter case of ASCII, which keywords and names ignore: for all that reads or prints them.
use Rattle.std.specs.Prelude.{ℕ, Bool, List, map}
use Rattle.std.specs.Char.{to_ascii_lowercase, to_ascii_uppercase}
use Rattle.std.specs.Str.{bytes_eq}

-- A text with its letters in upper case, as names are kept and printed (RFC 2622, 2; profile).
abbrev pub upper : List ℕ → List ℕ
upper text = map to_ascii_uppercase text

-- A text with its letters in lower case, as attributes' names are kept and printed (profile).
abbrev pub lowered : List ℕ → List ℕ
lowered text = map to_ascii_lowercase text

-- A text is this word; the case of ASCII letters is ignored (RFC 2622, 2).
unfoldable pub is_keyword : List ℕ → List ℕ → Bool
is_keyword word text = bytes_eq (lowered text) (lowered word)
