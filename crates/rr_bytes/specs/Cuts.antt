-- Texts cut at a byte: for `src/cuts.rt`, and for what is read in parts.
use Rattle.std.specs.Prelude.{ℕ, ◌==◌, List, length, Option, Some, None, nat_lt}
use Rattle.std.specs.Prelude.{if◌then◌else◌, drop}
use Rattle.std.specs.List.{before_first, after_first, position_or_len}

-- The parts of the text before and after its first separator, if it has one (profile).
unfoldable pub cut_at : ℕ → List ℕ → Option (List ℕ × List ℕ)
cut_at separator text =
    if nat_lt (position_or_len (λ b. b == separator) text) (length text)
    then Some (before_first (λ b. b == separator) text, after_first (λ b. b == separator) text)
    else None

-- The text from its first separator on, or nothing where it has none (profile).
abbrev pub from_first : ℕ → List ℕ → List ℕ
from_first separator text = drop (position_or_len (λ b. b == separator) text) text
